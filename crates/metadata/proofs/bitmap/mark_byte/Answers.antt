use Rattle.metadata.proofs.Frame.{fits}
use Prim.Native.Nat.{◌+◌, ◌-◌, ◌/◌}
use mathlib.Core.Path.{◌∙◌}
use native.Mathlib.Omega.{arith}
use Rattle.metadata.specs.Marks.{mark_byte}
use Rattle.metadata.proofs.RowLaws.{row_byte}
use Rattle.metadata.proofs.bitmap.mark_byte.Goals as goal

pub returns : goal.returns
unfolding mark_byte
returns _ c =
    let a = c.args in
    let p = c.requires in
    let b = (c.slice_known-1.given (a.sys.now.y.bitmap + (a.k - 2) / 8)).fits in
    (cc) ∙ row_byte a.sys.now.y a.vol.now a.k (fits a.sys.now _ p.0) (omega arith) (omega arith) (omega arith) b
