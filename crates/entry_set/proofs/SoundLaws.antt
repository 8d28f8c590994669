-- The conditions of a sound file entry as facts, and the facts as conditions. Assumes nothing.
use mathlib.Core.Path.{◌≡◌, refl}
use mathlib.Core.Bool.{Bool, true, false, ◌&&◌}
use mathlib.Core.List.{List}
use Prim.Native.Nat.{ℕ, zero, suc, ◌+◌, ◌*◌, ◌/◌, ◌%◌, ◌<◌, ◌≤◌}
use native.Mathlib.Nat.{div-add-mod', div-eq_of_lt-le, mod-lt, add-mul, one-mul}
use native.Mathlib.Decide.{ℕ_discrete}
use native.Mathlib.Omega.{arith}
use borrow.Author.Tests.{eq-eqb, eqb-true}
use lib.Dec.{eqb}
use lib.ListN.{get_or}
use Rattle.std.proofs.lemmas.Grind.{common_steps}
use Rattle.primitives.specs.Checksum.{checksum}
use Rattle.tables.proofs.Cases.{and_left, and_right}
use Rattle.boot.specs.Layout.{in_heap}
use Rattle.entry_set.specs.Fields.{entry_type, secondary_count, set_checksum, allocation_possible, no_fat_chain, name_length, valid_length, first_cluster, data_length, clusters_for, name_entries}
use Rattle.entry_set.specs.Sound.{head_ok, stream_entry_ok, names_ok, lengths_ok, well_formed}

-- ---- the clusters of a length

pub clusters_even : (size len : ℕ) → 1 ≤ size → len % size ≡ 0 → clusters_for size len ≡ len / size
unfolding clusters_for
clusters_even size len h e =
    div-eq_of_lt-le {k = len / size} size (omega (arith, div-add-mod' len size)) (omega (arith, div-add-mod' len size, add-mul (len / size) 1 size, one-mul size))

pub clusters_rest : (size len : ℕ) → 1 ≤ size → (len % size ≡ 0 → ⊥) → clusters_for size len ≡ len / size + 1
unfolding clusters_for
clusters_rest size len h e =
    let a = add-mul (len / size) 1 size in
    let b = add-mul (len / size + 1) 1 size in
    let r : 1 ≤ len % size = pos (len % size) e in
    div-eq_of_lt-le {k = len / size + 1} size
    (omega (arith, div-add-mod' len size, mod-lt len h, one-mul size))
    (omega (arith, div-add-mod' len size, mod-lt len h, one-mul size))
  where
    pos : (n : ℕ) → (n ≡ 0 → ⊥) → 1 ≤ n
    pos zero n = absurd (n refl)
    pos (suc k) n = omega arith

-- ---- the head

pub record Head (s : List ℕ) : Type 0 where
  pub file : entry_type s 0 ≡ 0x85
  pub low : 2 ≤ secondary_count s
  pub high : secondary_count s ≤ 18
  pub fits : secondary_count s ≡ 1 + name_entries (name_length s)
  pub named : name_length s ≡ 0 → ⊥

module _ (s : List ℕ) where
  pub head_of : head_ok s ≡ true → Head s
  unfolding head_ok
  head_of e =
      record {
        file = grind (arith, common_steps);
        low = grind (arith, common_steps);
        high = grind (arith, common_steps);
        fits = grind (arith, common_steps);
        named = λ z. grind (arith, common_steps);
      }

  pub of_head : Head s → head_ok s ≡ true
  unfolding head_ok
  of_head h = let n = h.named in grind (arith, common_steps)

-- ---- the checksum and the stream extension

pub record StreamEntry (s : List ℕ) : Type 0 where
  pub sum : set_checksum s ≡ checksum s (32 * (1 + secondary_count s))
  pub stream : entry_type s 1 ≡ 0xC0
  pub possible : allocation_possible s ≡ true

module _ (s : List ℕ) where
  pub stream_of_lem : stream_entry_ok s ≡ true → StreamEntry s
  unfolding stream_entry_ok
  stream_of_lem e =
      record { sum = grind (arith, common_steps); stream = grind (arith, common_steps); possible = grind (arith, common_steps) }

  pub of_stream : StreamEntry s → stream_entry_ok s ≡ true
  unfolding stream_entry_ok
  of_stream h = grind (arith, common_steps)

-- ---- the name entries

pub record NameEntry (s : List ℕ) (i : ℕ) : Type 0 where
  pub name : entry_type s (2 + i) ≡ 0xC1
  pub flags : get_or s (32 * (2 + i) + 1) 0 % 4 ≡ 0

module _ (s : List ℕ) where
  pub names_of : (n : ℕ) → names_ok s n ≡ true → (i : ℕ) → i < n → NameEntry s i
  unfolding names_ok
  names_of zero e i h = absurd (omega arith)
  names_of (suc n) e i h =
      elim (ℕ_discrete i n) [
        | yes q ↦ rw q last
        | no d ↦ names_of n (and_left (names_ok s n) (a && b) e) i (omega arith)
      ]
    where
      a : Bool
      a = eqb (entry_type s (2 + n)) 0xC1

      b : Bool
      b = eqb (get_or s (32 * (2 + n) + 1) 0 % 4) 0

      last : NameEntry s n
      last =
          let e₁ = and_right (names_ok s n) (a && b) e in
          record { name = eqb-true _ _ (and_left a b e₁); flags = eqb-true _ _ (and_right a b e₁) }

  pub of_names : (n : ℕ) → ((i : ℕ) → i < n → NameEntry s i) → names_ok s n ≡ true
  unfolding names_ok
  of_names zero h = refl
  of_names (suc n) h =
      let l = h n (omega arith) in
      rw (of_names n (λ i b. h i (omega arith)), eq-eqb _ _ l.name, eq-eqb _ _ l.flags) refl

-- ---- the lengths

pub record Lengths (C size : ℕ) (s : List ℕ) : Type 0 where
  pub valid : valid_length s ≤ data_length s
  pub empty : data_length s ≡ 0 → (first_cluster s ≡ 0) × (no_fat_chain s ≡ false)
  pub first : (data_length s ≡ 0 → ⊥) → in_heap C (first_cluster s) ≡ true
  pub room : (data_length s ≡ 0 → ⊥) → clusters_for size (data_length s) ≤ C
  pub run : (data_length s ≡ 0 → ⊥) → no_fat_chain s ≡ true → first_cluster s + clusters_for size (data_length s) ≤ C + 2

module _ (C size : ℕ) (s : List ℕ) where
  pub lengths_of : lengths_ok C size s ≡ true → Lengths C size s
  unfolding lengths_ok
  lengths_of e =
      record {
        valid = grind (arith, common_steps);
        empty = λ z. (grind (arith, common_steps), grind (arith, common_steps));
        first = λ n. grind (arith, common_steps);
        room = λ n. grind (arith, common_steps);
        run = λ n r. grind (arith, common_steps);
      }

  pub of_lengths : Lengths C size s → lengths_ok C size s ≡ true
  unfolding lengths_ok
  of_lengths h =
      elim (ℕ_discrete (data_length s) 0) [
        | yes z ↦ let e = h.empty z in grind (arith, common_steps)
        | no n ↦ let f = h.first n in let r = h.room n in let e = h.run n in grind (arith, common_steps)
      ]

-- ---- all of them

pub record WellFormed (C size : ℕ) (s : List ℕ) : Type 0 where
  pub head : Head s
  pub stream : StreamEntry s
  pub names : (i : ℕ) → i < name_entries (name_length s) → NameEntry s i
  pub lengths : Lengths C size s

module _ (C size : ℕ) (s : List ℕ) where
  pub formed_of : well_formed C size s ≡ true → WellFormed C size s
  unfolding well_formed
  formed_of e =
      record {
        head = head_of s (grind (arith, common_steps));
        stream = stream_of_lem s (grind (arith, common_steps));
        names = names_of s (name_entries (name_length s)) (grind (arith, common_steps));
        lengths = lengths_of C size s (grind (arith, common_steps));
      }

  pub of_formed : WellFormed C size s → well_formed C size s ≡ true
  unfolding well_formed
  of_formed h =
      rw (of_head s h.head, of_stream s h.stream, of_names s (name_entries (name_length s)) h.names) (of_lengths C size s h.lengths)
