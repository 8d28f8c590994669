use Rattle.boot.proofs.Accepted.{accepted_of, map_wide}
use Rattle.boot.proofs.Places.{laid_of}
use Rattle.boot.proofs.Apart.{apart_of}
use Rattle.boot.proofs.system.admit.Goals as goal

pub layout-requires : goal.layout-requires
layout-requires c = let e = c.in-Some.ensures in rw e.0 (accepted_of _ _ _ e.1)

pub invariant_of-result : goal.invariant_of-result
invariant_of-result c =
    let e = c.in-Some.ensures in
    let p = accepted_of _ _ _ e.1 in
    rw (c.layout.ensures, e.0) (record { laid = laid_of _ _ p; apart = λ _. apart_of _ _ p; wide = λ _. map_wide _ _ _ e.1 })
