use mathlib.Core.Path.{◌≡◌, refl, ap}
use Prim.Native.Nat.{ℕ, ◌+◌, ◌-◌}
use native.Mathlib.Omega.{arith}
use Rattle.read_file.specs.Part.{part_bytes, part_place}
use Rattle.read_file.proofs.part.lend.Goals as goal

pub returns-then-part : goal.returns-then-part
unfolding part_bytes part_place
returns-then-part c =
    let a = c.args in
    let e : a.part.start + a.part.len - a.part.start ≡ a.part.len = omega arith in
    rw (c.if-part.true, e) (refl, ap (λ (k : ℕ). (a.zeros.ref_ptr.0, k)) (omega arith))

pub returns : goal.returns
unfolding part_bytes part_place
returns c =
    let a = c.args in
    let e : a.part.start + a.part.len - a.part.start ≡ a.part.len = omega arith in
    rw (c.if-part.false, e) (refl, ap (λ (k : ℕ). (a.vol.ref_ptr.0, k)) (omega arith))
