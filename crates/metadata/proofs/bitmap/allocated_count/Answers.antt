use mathlib.Core.Path.{◌∙◌}
use native.Mathlib.Omega.{arith}
use Rattle.primitives.proofs.CountLaws.{count_le}
use Rattle.metadata.proofs.Stores.{count_part}
use Rattle.metadata.proofs.bitmap.allocated_count.Goals as goal

pub returns : goal.returns
returns _ c =
    let a = c.args in
    let e = c.bitmap_count.ensures ∙ rw c.bitmap.ensures.0 (count_part a.sys.now.y a.vol.now _ (omega arith)) in
    (e, omega (arith, c.bitmap_count.ensures, count_le c.bitmap.result.now a.sys.now.y.count))
