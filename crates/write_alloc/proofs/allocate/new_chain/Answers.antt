use Rattle.write_alloc.proofs.AllocateLaws.{prev_none, chain_is}
use Rattle.write_alloc.proofs.allocate.new_chain.Goals as goal

pub take_chain-last-requires : goal.take_chain-last-requires
take_chain-last-requires c =
    let p = c.requires in
    (p.0, (p.1.0, (p.1.1.0, (prev_none _ _, (p.1.1.1.0, p.1.1.1.1)))))

pub returns : goal.returns
returns c =
    let p = c.requires in
    let t = c.take_chain-last in
    chain_is _ _ _ _ _ p.1.0 p.1.1.0 p.1.1.1.0 p.1.1.1.1 _ _ _ _ c.first_usable-first.ensures t.ensures.1.0 c.wrap_cluster-hint.ensures t.ensures.0
