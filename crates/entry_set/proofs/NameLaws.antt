-- The laws of a name's tests. Assumes nothing.
use mathlib.Core.Path.{◌≡◌, refl}
use mathlib.Core.Bool.{true, ◌&&◌}
use mathlib.Core.List.{List}
use Prim.Native.Nat.{ℕ, ◌+◌, ◌*◌, ◌/◌, ◌%◌, ◌<◌, ◌≤◌}
use native.Mathlib.Decide.{dec_lt}
use native.Mathlib.Omega.{arith}
use borrow.Author.Tests.{le-ltb, ne_eqb}
use lib.Bits.{bit_and, and_mask, and_block}
use lib.Dec.{eqb, ltb}
use lib.ListN.{length}
use Rattle.std.proofs.lemmas.Grind.{common_steps}
use Rattle.primitives.proofs.Every.{at, sameb, sameb→eq}
use Rattle.entry_set.specs.Name.{name_ok, attributes_ok}

-- what an accepted name's length is
pub name_length_lem : (l : List ℕ) → name_ok l ≡ true → (1 ≤ length l) × (length l ≤ 255)
unfolding name_ok
name_length_lem l e = (grind (arith, common_steps), grind (arith, common_steps))

-- below 64 the mask of the attributes that may not be set is computed for each number
mask_low : (a : ℕ) → a < 64 → eqb (bit_and a 65496) 0 ≡ attributes_ok a
unfolding attributes_ok
mask_low a h =
    sameb→eq _ _ (at 64 (λ a. sameb (eqb (bit_and a 65496) 0) (ltb a 64 && eqb (a / 8 % 4) 0)) tt a h)

-- from 64 on it leaves the bits that are too high
mask_high : (a : ℕ) → 64 ≤ a → a < 65536 → eqb (bit_and a 65496) 0 ≡ attributes_ok a
unfolding attributes_ok
mask_high a l h =
    let q : a / 64 * 64 + a % 64 ≡ a = omega arith in
    let s : bit_and (a / 64 * 64 + a % 64) 65496 ≡ bit_and (a / 64) 1023 * 64 + bit_and (a % 64) 24 =
    and_block 6 (a / 64) 1023 (a % 64) 24 (omega arith) (omega arith) in
    let t : bit_and a 65496 ≡ bit_and (a / 64) 1023 * 64 + bit_and (a % 64) 24 = rw q at s in
    let m : bit_and (a / 64) 1023 ≡ a / 64 % 1024 = and_mask (a / 64) 10 in
    rw (ne_eqb (bit_and a 65496) 0 (λ z. omega arith), le-ltb a 64 l) refl

pub attributes_mask : (a : ℕ) → a < 65536 → eqb (bit_and a 65496) 0 ≡ attributes_ok a
attributes_mask a h = elim (dec_lt a 64) [ yes l ↦ mask_low a l | no n ↦ mask_high a (omega arith) h ]
