use Prim.Native.Nat.{◌+◌, ◌-◌, ◌*◌, ◌/◌}
use mathlib.Core.Bool.{true, false}
use mathlib.Core.Path.{◌≡◌, refl, sym, ◌∙◌}
use native.Mathlib.Omega.{arith}
use Rattle.directory.specs.Entries.{in_use}
use Rattle.directory.proofs.WindowLaws.{passing_first, passing_next, passing_stop, passing_end, used_byte}
use Rattle.directory.proofs.entries.used_windows.Goals as goal
use Rattle.directory.proofs.entries.used_windows.Goals.{then-loop-at-test+else-bit_test, else-loop-at-test}

pub loop-at-init : goal.loop-at-init
loop-at-init c =
    let a = c.args in
    (omega arith, (omega arith, passing_first a.part.now a.n a.first (32 * a.first) refl))

pub loop-at-preserved : goal.loop-at-preserved
loop-at-preserved c =
    let a = c.args in
    let l = c.loop-at in
    let u : in_use a.part.now (l.at / 32 + (a.n - 1)) ≡ true = sym (used_byte a.part.now a.n l.at l.invariant.0) ∙ (cc) in
    (omega arith, (omega arith, passing_next a.part.now a.n a.first (l.at / 32) l.invariant.1.1 (omega arith) u _ (omega arith)))

pub returns : goal.returns
returns c =
    let a = c.args in
    let l = c.loop-at in
    elim c.loop-at-test.branch [
      | then-loop-at-test+else-bit_test w ↦ (
          let u : in_use a.part.now (l.at / 32 + (a.n - 1)) ≡ false = sym (used_byte a.part.now a.n l.at l.invariant.0) ∙ (cc) in
          passing_stop a.part.now a.n a.first (l.at / 32) l.invariant.1.1 u
          )
      | else-loop-at-test w ↦ passing_end a.part.now a.n a.first (l.at / 32) l.invariant.1.1 (omega arith)
    ]
