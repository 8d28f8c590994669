use Prim.Native.Nat.{◌+◌, ◌/◌}
use native.Mathlib.Omega.{arith}
use Rattle.metadata.proofs.UnmarkedLaws.{unmarked_part}
use Rattle.metadata.proofs.bitmap.first_unmarked.Goals as goal

pub returns : goal.returns
returns _ c =
    let a = c.args in
    let e = unmarked_part a.sys.now.y a.vol.now ((a.sys.now.y.count + 7) / 8) a.k a.n _ (omega arith) (omega arith) (rw (← c.bitmap.ensures.0) c.first_bit.ensures.0) in
    (e, (omega arith, omega arith))
