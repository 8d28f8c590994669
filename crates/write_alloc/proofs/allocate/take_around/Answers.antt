use native.Mathlib.Omega.{arith}
use Rattle.write_alloc.proofs.AllocateLaws.{prev_facts, then_ready, then_done}
use Rattle.write_alloc.proofs.allocate.take_around.Goals as goal

pub take_usable-after-requires : goal.take_usable-after-requires
take_usable-after-requires c =
    let p = c.requires in
    let f = prev_facts _ _ _ p.1.1.1 in
    (p.0, (omega arith, (omega arith, (f.small, f.taken))))

pub take_usable-requires : goal.take_usable-requires
take_usable-requires c =
    let a = c.args in
    let p = c.requires in
    let r = c.take_usable-after in
    let q = then_ready a.sys.now.y a.vol.now a.sys.now.map.now a.start a.n a.prev a.sys.now.laid (a.sys.now.apart (omega arith)) p.0 p.1.0 p.1.1.0 p.1.1.1 _ _ r.ensures.0 r.ensures.1 in
    (omega arith, (omega arith, (omega arith, (q.0, q.1))))

pub returns : goal.returns
returns c =
    let a = c.args in
    let p = c.requires in
    let r = c.take_usable-after in
    let s = c.take_usable in
    then_done a.sys.now.y a.vol.now a.sys.now.map.now a.start a.n a.prev a.sys.now.laid (a.sys.now.apart (omega arith)) p.0 p.1.0 p.1.1.0 p.1.1.1 _ _ r.ensures.0 r.ensures.1 _ _ s.ensures.0 s.ensures.1
