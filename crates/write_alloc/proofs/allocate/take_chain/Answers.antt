use native.Mathlib.Omega.{arith}
use Rattle.write_alloc.proofs.AllocateLaws.{last_small}
use Rattle.write_alloc.proofs.allocate.take_chain.Goals as goal

pub set_fat-requires : goal.set_fat-requires
set_fat-requires c =
    let p = c.requires in
    (omega arith, (omega arith, rw c.take_around-last.ensures.1 (last_small _ _ _ _ p.1.0 p.1.1.0 _ p.1.1.1.1.0 p.1.1.1.1.1)))

pub returns : goal.returns
returns c =
    let p = c.requires in
    let r = c.take_around-last in
    (cc, (r.ensures.1, rw r.ensures.1 (last_small _ _ _ _ p.1.0 p.1.1.0 _ p.1.1.1.1.0 p.1.1.1.1.1)))
