-- A well-formed set of n entries in 608 bytes, and the types of its entries. Assumes nothing.
use mathlib.Core.Path.{◌≡◌, refl, sym, ◌∙◌, ap, subst}
use mathlib.Core.Logic.{◌≢◌, ◌⊎◌, inl, inr, ⊎_elim}
use mathlib.Core.Bool.{true}
use mathlib.Core.List.{List}
use Prim.Native.Nat.{ℕ, zero, suc, ◌+◌, ◌-◌, ◌*◌, ◌≤◌, ◌<◌}
use native.Mathlib.Decide.{ℕ_discrete, dec_lt}
use native.Mathlib.Omega.{arith}
use lib.Dec.{eqb, leb}
use lib.ListN.{length, get_or}
use borrow.Author.Tests.{eqb-true, leb-true}
use Rattle.primitives.specs.Bits.{bit_of}
use Rattle.primitives.specs.Checksum.{checksum}
use Rattle.tables.proofs.Cases.{and_left, and_right}
use Rattle.entry_set.specs.Fields.{entry_type, secondary_count, set_checksum, allocation_possible, name_length, name_entries}
use Rattle.entry_set.specs.Sound.{head_ok, stream_entry_ok, names_ok, lengths_ok, well_formed}

-- a well-formed set of n entries, with zeros after them
pub record Fit (C size n : ℕ) (s : List ℕ) : Type 0 where
  pub full : length s ≡ 608
  pub formed : well_formed C size s ≡ true
  pub count : 1 + secondary_count s ≡ n
  pub rest : (k : ℕ) → 32 * n ≤ k → get_or s k 0 ≡ 0

-- ---- what the parts of a well-formed set say

module _ (C size : ℕ) (s : List ℕ) (w : well_formed C size s ≡ true) where
  head_ok_lem : head_ok s ≡ true
  unfolding well_formed
  head_ok_lem = and_left (head_ok s) _ w

  stream_ok : stream_entry_ok s ≡ true
  unfolding well_formed
  stream_ok = and_left (stream_entry_ok s) _ (and_right (head_ok s) _ w)

  names_ok_lem : names_ok s (name_entries (name_length s)) ≡ true
  unfolding well_formed
  names_ok_lem =
      and_left (names_ok s (name_entries (name_length s))) (lengths_ok C size s)
      (and_right (stream_entry_ok s) _ (and_right (head_ok s) _ w))

  first_type : entry_type s 0 ≡ 0x85
  unfolding head_ok
  first_type = eqb-true (entry_type s 0) 0x85 (and_left (eqb (entry_type s 0) 0x85) _ head_ok_lem)

  second_low : 2 ≤ secondary_count s
  unfolding head_ok
  second_low =
      leb-true 2 (secondary_count s) (and_left (leb 2 (secondary_count s)) _ (and_right (eqb (entry_type s 0) 0x85) _ head_ok_lem))

  second_high : secondary_count s ≤ 18
  unfolding head_ok
  second_high =
      leb-true (secondary_count s) 18
      (and_left (leb (secondary_count s) 18) _
      (and_right (leb 2 (secondary_count s)) _ (and_right (eqb (entry_type s 0) 0x85) _ head_ok_lem)))

  second_is : secondary_count s ≡ 1 + name_entries (name_length s)
  unfolding head_ok
  second_is =
      eqb-true (secondary_count s) (1 + name_entries (name_length s))
      (and_left (eqb (secondary_count s) (1 + name_entries (name_length s))) _
      (and_right (leb (secondary_count s) 18) _
      (and_right (leb 2 (secondary_count s)) _ (and_right (eqb (entry_type s 0) 0x85) _ head_ok_lem))))

  stream_type : entry_type s 1 ≡ 0xC0
  unfolding stream_entry_ok
  stream_type =
      eqb-true (entry_type s 1) 0xC0
      (and_left (eqb (entry_type s 1) 0xC0) (allocation_possible s)
      (and_right (eqb (set_checksum s) (checksum s (32 * (1 + secondary_count s)))) _ stream_ok))

names_at : (s : List ℕ) (n k : ℕ) → names_ok s n ≡ true → k < n → entry_type s (2 + k) ≡ 0xC1
unfolding names_ok
names_at s zero k e h = absurd (omega arith)
names_at s (suc n) k e h =
    elim (dec_lt k n) [
      | yes l ↦ names_at s n k (and_left (names_ok s n) _ e) l
      | no l ↦ (let q : k ≡ n = omega arith in
          ap (λ (x : ℕ). entry_type s (2 + x)) q
          ∙ eqb-true (entry_type s (2 + n)) 0xC1 (and_left (eqb (entry_type s (2 + n)) 0xC1) _ (and_right (names_ok s n) _ e)))
    ]

-- ---- of a set that fits

module _ (C size n : ℕ) (s : List ℕ) (f : Fit C size n s) where
  pub fit_low : 3 ≤ n
  fit_low = omega (arith, second_low C size s f.formed, f.count)

  pub fit_high : n ≤ 19
  fit_high = omega (arith, second_high C size s f.formed, f.count)

  pub fit_first : entry_type s 0 ≡ 0x85
  fit_first = first_type C size s f.formed

  -- then 0xC0, then 0xC1
  fit_kind : (k : ℕ) → 1 ≤ k → k < n → (entry_type s k ≡ 0xC0) ⊎ (entry_type s k ≡ 0xC1)
  fit_kind k l h =
      elim (ℕ_discrete k 1) [
        | yes e ↦ inl (ap (entry_type s) e ∙ stream_type C size s f.formed)
        | no d ↦ (
            let r : 2 + (k - 2) ≡ k = omega arith in
            inr
            (ap (entry_type s) (sym r)
            ∙ names_at s (name_entries (name_length s)) (k - 2) (names_ok_lem C size s f.formed) (omega (arith, f.count, second_is C size s f.formed))))
      ]

  -- what holds of the three types
  fit_each : (P : ℕ → Type 0) → P 0x85 → P 0xC0 → P 0xC1 → (k : ℕ) → k < n → P (entry_type s k)
  fit_each P a b c k h =
      elim (ℕ_discrete k 0) [
        | yes e ↦ subst P (sym (ap (entry_type s) e ∙ fit_first)) a
        | no d ↦ ⊎_elim (λ q. subst P (sym q) b) (λ q. subst P (sym q) c) (fit_kind k (omega arith) h)
      ]

  -- those after the first are no file entries
  pub fit_next : (k : ℕ) → 1 ≤ k → k < n → entry_type s k ≢ 0x85
  fit_next k l h e = ⊎_elim (λ q. omega arith) (λ q. omega arith) (fit_kind k l h)

  -- all are in use
  pub fit_used : (k : ℕ) → k < n → bit_of (entry_type s k) 7 ≡ 1
  unfolding bit_of
  fit_used = fit_each (λ t. bit_of t 7 ≡ 1) refl refl refl

-- a type with bit 0x80 is not 0
pub used_type : (t : ℕ) → bit_of t 7 ≡ 1 → t ≢ 0
unfolding bit_of
used_type t e z = omega arith
