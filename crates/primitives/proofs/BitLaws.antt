-- The laws of a byte's bits, of every number and bit; and what the masks of one bit compute, by a test at every byte and bit.
-- Assumes nothing.
use Rattle.std.proofs.Common.{◌≡◌, ℕ, zero, suc, ◌-◌, ◌*◌, ◌/◌, ◌%◌, ◌^◌, ◌<◌, ◌≤◌, Bool, true, false, not, eqb, sym, refl, ap, ◌∙◌, le_trans, mul-le-mul_right, div-mul-le_self, mul_left_comm, arith, eqb→eq}
use native.Mathlib.Nat.{pow-succ', div-div-eq-div-mul}
use lib.Bits.{bit_and, bit_or}
use Rattle.primitives.specs.Bits.{bit_of, set_bit, clear_bit, put_bit}
use Rattle.primitives.proofs.Every.{at₂, sameb, sameb→eq}

-- ---- the masks

pub test_mask : (b j : ℕ) → b < 256 → j < 8 → not (eqb (bit_and b ((1 * 2 ^ j) % 256)) 0) ≡ eqb (bit_of b j) 1
unfolding bit_of
test_mask b j hb hj =
    sameb→eq _ _ (at₂ 256 8 (λ b j. sameb (not (eqb (bit_and b ((1 * 2 ^ j) % 256)) 0)) (eqb (b / 2 ^ j % 2) 1)) tt b j hb hj)

pub set_mask : (b j : ℕ) → b < 256 → j < 8 → bit_or b ((1 * 2 ^ j) % 256) ≡ set_bit b j
unfolding set_bit bit_of
set_mask b j hb hj = eqb→eq _ _ (at₂ 256 8 (λ b j. eqb (bit_or b ((1 * 2 ^ j) % 256)) (set_bit b j)) tt b j hb hj)

pub clear_mask : (b j : ℕ) → b < 256 → j < 8 → bit_and b (255 - (1 * 2 ^ j) % 256) ≡ clear_bit b j
unfolding clear_bit bit_of
clear_mask b j hb hj = eqb→eq _ _ (at₂ 256 8 (λ b j. eqb (bit_and b (255 - (1 * 2 ^ j) % 256)) (clear_bit b j)) tt b j hb hj)

-- ---- the laws, of every number and bit

-- the bits above the lowest are those of the half
bit_suc : (b j : ℕ) → bit_of b (suc j) ≡ bit_of (b / 2) j
unfolding bit_of
bit_suc b j = rw (pow-succ', ← div-div-eq-div-mul)

bit_zero : (b : ℕ) → bit_of b 0 ≡ b % 2
unfolding bit_of
bit_zero b = omega arith

-- a change f of bit j that leaves v there: its halves say what it does
module _ (f : ℕ → ℕ → ℕ) (v : ℕ)
    (low : (b : ℕ) → (f b 0 % 2 ≡ v) × (f b 0 / 2 ≡ b / 2))
    (high : (b j : ℕ) → (f b (suc j) % 2 ≡ b % 2) × (f b (suc j) / 2 ≡ f (b / 2) j)) where
  same : (b j : ℕ) → bit_of (f b j) j ≡ v
  same b zero = bit_zero (f b 0) ∙ (low b).0
  same b (suc j) = bit_suc (f b (suc j)) j ∙ ap (λ (x : ℕ). bit_of x j) (high b j).1 ∙ same (b / 2) j

  other : (b j i : ℕ) → (i ≡ j → ⊥) → bit_of (f b j) i ≡ bit_of b i
  other b zero zero n = absurd (n refl)
  other b zero (suc i) n = bit_suc (f b 0) i ∙ ap (λ (x : ℕ). bit_of x i) (low b).1 ∙ sym (bit_suc b i)
  other b (suc j) zero n = bit_zero (f b (suc j)) ∙ (high b j).0 ∙ sym (bit_zero b)
  other b (suc j) (suc i) n =
      bit_suc (f b (suc j)) i ∙ ap (λ (x : ℕ). bit_of x i) (high b j).1 ∙ other (b / 2) j i (λ e. n (ap suc e)) ∙ sym (bit_suc b i)

set_low : (b : ℕ) → (set_bit b 0 % 2 ≡ 1) × (set_bit b 0 / 2 ≡ b / 2)
unfolding set_bit bit_of
set_low b = omega arith

set_high : (b j : ℕ) → (set_bit b (suc j) % 2 ≡ b % 2) × (set_bit b (suc j) / 2 ≡ set_bit (b / 2) j)
unfolding set_bit
set_high b j = rw (pow-succ', bit_suc, mul_left_comm) (omega arith)

clear_low : (b : ℕ) → (clear_bit b 0 % 2 ≡ 0) × (clear_bit b 0 / 2 ≡ b / 2)
unfolding clear_bit bit_of
clear_low b = omega arith

bit_le : (b j : ℕ) → bit_of b j * 2 ^ j ≤ b
unfolding bit_of
bit_le b j = le_trans (mul-le-mul_right (2 ^ j) (omega arith)) (div-mul-le_self b (2 ^ j))

clear_high : (b j : ℕ) → (clear_bit b (suc j) % 2 ≡ b % 2) × (clear_bit b (suc j) / 2 ≡ clear_bit (b / 2) j)
unfolding clear_bit
clear_high b j = rw (pow-succ', bit_suc, mul_left_comm) (omega (arith, bit_le (b / 2) j))

pub set_same : (b j : ℕ) → bit_of (set_bit b j) j ≡ 1
set_same = same set_bit 1 set_low set_high

pub set_other : (b j i : ℕ) → (i ≡ j → ⊥) → bit_of (set_bit b j) i ≡ bit_of b i
set_other = other set_bit 1 set_low set_high

pub clear_same : (b j : ℕ) → bit_of (clear_bit b j) j ≡ 0
clear_same = same clear_bit 0 clear_low clear_high

pub clear_other : (b j i : ℕ) → (i ≡ j → ⊥) → bit_of (clear_bit b j) i ≡ bit_of b i
clear_other = other clear_bit 0 clear_low clear_high

-- ---- the bit put as a truth value says

pub put_on : (b j : ℕ) (on : Bool) → on ≡ true → put_bit b j on ≡ set_bit b j
unfolding put_bit
put_on b j on e = rw e refl

pub put_off : (b j : ℕ) (on : Bool) → on ≡ false → put_bit b j on ≡ clear_bit b j
unfolding put_bit
put_off b j on e = rw e refl

pub put_same : (b j : ℕ) (on : Bool) → eqb (bit_of (put_bit b j on) j) 1 ≡ on
unfolding put_bit
put_same b j true = rw (set_same b j)
put_same b j false = rw (clear_same b j)

pub put_other : (b j : ℕ) (on : Bool) (i : ℕ) → (i ≡ j → ⊥) → bit_of (put_bit b j on) i ≡ bit_of b i
unfolding put_bit
put_other b j true i n = set_other b j i n
put_other b j false i n = clear_other b j i n
