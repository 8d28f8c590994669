use mathlib.Core.Path.{refl}
use Prim.Native.Nat.{◌*◌}
use native.Mathlib.Numerals.{add-one}
use native.Mathlib.Omega.{arith}
use Rattle.entry_set.specs.Put.{cleared}
use Rattle.entry_set.proofs.SetLaws.{cleared_byte}
use Rattle.entry_set.proofs.set.cleared.Goals as goal

pub loop-i-init : goal.loop-i-init
unfolding cleared
loop-i-init c = refl

pub loop-i-preserved : goal.loop-i-preserved
unfolding cleared
loop-i-preserved c =
    let a = c.args in
    let l = c.loop-i in
    rw add-one (cc (cleared_byte a.set.now l.i (32 * l.i) (λ j h e. omega arith)))
