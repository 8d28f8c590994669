use Prim.Native.Nat.{◌+◌, ◌-◌, ◌*◌}
use mathlib.Core.Path.{◌∙◌, refl}
use native.Mathlib.Omega.{arith}
use Rattle.metadata.proofs.Stores.{bad_part}
use Rattle.metadata.proofs.usable.bad_in.Goals as goal

pub returns : goal.returns
returns _ c =
    let a = c.args in
    let n = a.sys.now.y.fat + 4 * (a.sys.now.y.count + 2) - a.sys.now.y.fat in
    c.first_bad.ensures ∙ bad_part a.sys.now.y a.vol.now a.sys.now.y.fat n a.first a.n refl (omega arith)
