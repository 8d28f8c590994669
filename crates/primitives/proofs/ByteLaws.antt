-- Bits of a bitmap that are passed by the byte. Assumes nothing.
use Rattle.std.proofs.Common.{◌≡◌, ℕ, ◌+◌, ◌-◌, ◌*◌, ◌/◌, ◌%◌, ◌^◌, ◌<◌, ◌≤◌, min, Bool, true, false, not, eqb, ◌≢◌, List, get_or, sym, refl, ap, ◌∙◌, arith, eqb→eq, eq-eqb, ne_eqb, eqb-true}
use native.Mathlib.Decide.{dec_lt, ℕ_discrete}
use borrow.Author.Tests.{not-false}
use Rattle.search.specs.Search.{all_from, fewest}
use Rattle.search.proofs.Lowest.{all_whole, fewest_is, fewest_bounds, fewest_before, fewest_skip}
use Rattle.primitives.specs.Bits.{bit_of, bit_at}
use Rattle.primitives.specs.Internal.{byte_is, bit_is}
use Rattle.primitives.proofs.Every.{at}

module _ (l : List ℕ) (b : ℕ) where
  -- the byte of a bit number is not b
  abbrev other : ℕ → Bool
  other j = not (byte_is l b (j / 8))

  -- the search from k on, of numbers below end; k may lie past it
  unfoldable pub past_to : (k end : ℕ) → ℕ
  past_to k end = min end (fewest other (end - k) k)

  pub to_all : (k n end : ℕ) → end ≡ k + n → past_to k end ≡ fewest other n k
  unfolding past_to
  to_all k n end e =
      let q : end - k ≡ n = omega arith in
      rw q (omega (arith, fewest_bounds other n k))

  pub to_end : (k end : ℕ) → end ≤ k → past_to k end ≡ end
  unfolding past_to
  to_end k end h = omega (arith, fewest_bounds other (end - k) k)

  pub to_stop : (k end : ℕ) → k < end → get_or l (k / 8) 0 ≢ b → past_to k end ≡ k
  unfolding past_to byte_is
  to_stop k end h e =
      omega (arith, fewest_is other (end - k) k k (omega arith) (omega arith) (λ t. ap not (ne_eqb _ _ e)) (λ j a c. absurd (omega arith)))

  -- numbers whose bytes are b
  to_below : (k next end : ℕ) → k ≤ next → next ≤ end → ((j : ℕ) → k ≤ j → j < next → byte_is l b (j / 8) ≡ true) → past_to k end ≡ past_to next end
  unfolding past_to
  to_below k next end a c f = ap (min end) (sym (fewest_skip other k next end a c (λ j x z. ap not (f j x z))))

  to_skip : (k next end : ℕ) → k ≤ next → k ≤ end → ((j : ℕ) → k ≤ j → j < next → byte_is l b (j / 8) ≡ true) → past_to k end ≡ past_to next end
  to_skip k next end h t f =
      elim (dec_lt end next) [
        | yes s ↦ to_below k end end t (omega arith) (λ j x z. f j x (omega arith)) ∙ to_end end end (omega arith) ∙ sym (to_end next end (omega arith))
        | no s ↦ to_below k next end h (omega arith) f
      ]

  pub to_byte : (k end : ℕ) → k ≤ end → get_or l (k / 8) 0 ≡ b → past_to k end ≡ past_to (8 * (k / 8) + 8) end
  unfolding byte_is
  to_byte k end t e =
      to_skip k (8 * (k / 8) + 8) end (omega arith) t (λ j x z. let q : j / 8 ≡ k / 8 = omega arith in rw q (eq-eqb _ _ e))

  pub to_bytes : (m k end : ℕ) → 1 ≤ m → k ≤ end → all_from (byte_is l b) (k / 8) m ≡ true → past_to k end ≡ past_to (8 * (k / 8) + 8 * m) end
  to_bytes m k end h t e =
      to_skip k (8 * (k / 8) + 8 * m) end (omega arith) t (λ j x z. all_whole (byte_is l b) (k / 8) m e (j / 8) (omega arith) (omega arith))

-- each bit of 255 is set
pub full_byte : (j : ℕ) → j < 8 → bit_of 255 j ≡ 1
unfolding bit_of
full_byte j h = eqb→eq _ _ (at 8 (λ j. eqb (bit_of 255 j) 1) tt j h)

-- each bit of 0 is clear
pub zero_byte : (j : ℕ) → j < 8 → bit_of 0 j ≡ 0
unfolding bit_of
zero_byte j h = eqb→eq _ _ (at 8 (λ j. eqb (bit_of 0 j) 0) tt j h)

abbrev bit : List ℕ → ℕ → ℕ
bit l k = get_or l (k / 8) 0 / 2 ^ (k % 8) % 2

-- a bit is 0 where it is not 1
pub clear_bit_lem : (l : List ℕ) (k : ℕ) → bit_is l 0 k ≡ not (bit_is l 1 k)
unfolding bit_is bit_at bit_of
clear_bit_lem l k =
    elim (ℕ_discrete (bit l k) 1) [
      | yes e ↦ rw e refl
      | no e ↦ (let z : bit l k ≡ 0 = omega arith in rw z refl)
    ]

module _ (l : List ℕ) (v : ℕ) where
  -- a bit that is v
  pub bit_here : (k end : ℕ) → k < end → bit l k ≡ v → fewest (bit_is l v) (end - k) k ≡ k
  unfolding bit_is bit_at bit_of
  bit_here k end t e =
      fewest_is (bit_is l v) (end - k) k k (omega arith) (omega arith) (λ w. eq-eqb _ _ e) (λ j a b. absurd (omega arith))

  bit_not : (k : ℕ) → bit l k ≢ v → bit_is l v k ≡ false
  unfolding bit_is bit_at bit_of
  bit_not k e = ne_eqb (bit l k) v e

  -- a bit that is not
  pub bit_next : (k end : ℕ) → k < end → bit l k ≢ v → fewest (bit_is l v) (end - (k + 1)) (k + 1) ≡ fewest (bit_is l v) (end - k) k
  bit_next k end t e =
      fewest_skip (bit_is l v) k (k + 1) end (omega arith) (omega arith) (λ j a b. let q : j ≡ k = omega arith in ap (bit_is l v) q ∙ bit_not k e)

  -- a bit that is not, and the bytes after it that are b, which has no bit that is v
  pub bit_bytes : (b : ℕ) → ((i : ℕ) → i < 8 → bit_of b i ≢ v) → (k n next end : ℕ) → k + 1 + n ≤ end → bit l k ≢ v
      → next ≡ fewest (λ j. not (byte_is l b (j / 8))) n (k + 1) → fewest (bit_is l v) (end - next) next ≡ fewest (bit_is l v) (end - k) k
  bit_bytes b w k n next end t e q =
      let r = fewest_bounds (other l b) n (k + 1) in
      fewest_skip (bit_is l v) k next end (omega arith) (omega arith)
      (λ j a c. elim (ℕ_discrete j k) [
        | yes s ↦ ap (bit_is l v) s ∙ bit_not k e
        | no s ↦ in_byte j (not-false _ (fewest_before (other l b) n (k + 1) j (omega arith) (omega arith)))
      ])
    where
      in_byte : (j : ℕ) → byte_is l b (j / 8) ≡ true → bit_is l v j ≡ false
      in_byte j e = unfold byte_is in unfold bit_is in unfold bit_at in (rw (eqb-true (get_or l (j / 8) 0) b e) (ne_eqb _ _ (w (j % 8) (omega arith))))
