-- What the tests of a directory's entries say, and the bytes of the set at a slot. Assumes nothing.
use mathlib.Core.Path.{◌≡◌, refl, sym, ◌∙◌, ap}
use mathlib.Core.Logic.{◌≢◌}
use mathlib.Core.Bool.{Bool, true, false, not, ◌&&◌}
use mathlib.Core.List.{List}
use Prim.Native.Nat.{ℕ, ◌+◌, ◌*◌, ◌≤◌, ◌<◌}
use native.Mathlib.Decide.{dec_lt}
use native.Mathlib.Omega.{arith}
use lib.Dec.{eqb, leb}
use lib.ListN.{length, get_or, take, drop, replicate, length-drop, length-replicate, get_or-replicate, get_or-eq_default}
use lib.Seq.{length-take-le, get_or-take, get_or-drop, ext_get_or}
use borrow.Author.Tests.{eqb-true, eqb-false, eq-eqb, ne_eqb, leb-true, le-leb, not-true}
use Rattle.primitives.specs.Bits.{bit_of}
use Rattle.primitives.specs.Splice.{splice}
use Rattle.primitives.proofs.SpliceLaws.{length-splice, splice_in, splice_above}
use Rattle.tables.proofs.Cases.{and_left, and_right, and_both}
use Rattle.entry_set.specs.Fields.{secondary_count, entry_type}
use Rattle.entry_set.specs.Sound.{well_formed}
use Rattle.search.proofs.Lowest.{all_whole, whole_all}
use Rattle.directory.specs.Entries.{entry_count, type_at, in_use, before_end, is_file, entries_at, set_at, is_sound}

-- ---- in use, and before the end

pub used_of : (bs : List ℕ) (i : ℕ) → bit_of (type_at bs i) 7 ≡ 1 → in_use bs i ≡ true
unfolding in_use
used_of bs i e = eq-eqb (bit_of (type_at bs i) 7) 1 e

pub unused_of : (bs : List ℕ) (i : ℕ) → bit_of (type_at bs i) 7 ≡ 0 → in_use bs i ≡ false
unfolding in_use
unused_of bs i e = ne_eqb (bit_of (type_at bs i) 7) 1 (omega arith)

pub used_file : (bs : List ℕ) (i : ℕ) → type_at bs i ≡ 0x85 → in_use bs i ≡ true
unfolding bit_of
used_file bs i e = used_of bs i (ap (λ (x : ℕ). bit_of x 7) e)

pub unused_zero : (bs : List ℕ) (i : ℕ) → type_at bs i ≡ 0 → in_use bs i ≡ false
unfolding bit_of
unused_zero bs i e = unused_of bs i (ap (λ (x : ℕ). bit_of x 7) e)

-- the type alone matters
pub used_same : (bs bs' : List ℕ) (i i' : ℕ) → type_at bs' i' ≡ type_at bs i → in_use bs' i' ≡ in_use bs i
unfolding in_use
used_same bs bs' i i' e = rw e refl

pub before_at : (bs : List ℕ) (i j : ℕ) → before_end bs i ≡ true → j < i → type_at bs j ≢ 0
unfolding before_end
before_at bs i j e h =
    eqb-false (type_at bs j) 0
    (not-true (eqb (type_at bs j) 0) (all_whole (λ k. not (eqb (type_at bs k) 0)) 0 i e j (omega arith) (omega arith)))

pub before_of : (bs : List ℕ) (i : ℕ) → ((j : ℕ) → j < i → type_at bs j ≢ 0) → before_end bs i ≡ true
unfolding before_end
before_of bs i h =
    whole_all (λ k. not (eqb (type_at bs k) 0)) 0 i (λ k a b. ap not (ne_eqb (type_at bs k) 0 (h k (omega arith))))

-- ---- a file entry

pub file_before : (bs : List ℕ) (i : ℕ) → is_file bs i ≡ true → before_end bs i ≡ true
unfolding is_file
file_before bs i e = and_left (before_end bs i) (eqb (type_at bs i) 0x85) e

pub file_type : (bs : List ℕ) (i : ℕ) → is_file bs i ≡ true → type_at bs i ≡ 0x85
unfolding is_file
file_type bs i e = eqb-true (type_at bs i) 0x85 (and_right (before_end bs i) (eqb (type_at bs i) 0x85) e)

pub file_of : (bs : List ℕ) (i : ℕ) → before_end bs i ≡ true → type_at bs i ≡ 0x85 → is_file bs i ≡ true
unfolding is_file
file_of bs i b e = and_both (before_end bs i) (eqb (type_at bs i) 0x85) b (eq-eqb (type_at bs i) 0x85 e)

-- ---- a sound one

module _ (C size : ℕ) (bs : List ℕ) (i : ℕ) where
  abbrev second : Bool
  second = leb (i + entries_at bs i) (entry_count bs)

  abbrev third : Bool
  third = well_formed C size (set_at bs i)

  pub sound_file : is_sound C size bs i ≡ true → is_file bs i ≡ true
  unfolding is_sound
  sound_file e = and_left (is_file bs i) _ e

  rest : is_sound C size bs i ≡ true → leb (entries_at bs i) 19 && (second && third) ≡ true
  unfolding is_sound
  rest e = and_right (is_file bs i) _ e

  pub sound_few : is_sound C size bs i ≡ true → entries_at bs i ≤ 19
  sound_few e = leb-true (entries_at bs i) 19 (and_left (leb (entries_at bs i) 19) (second && third) (rest e))

  pub sound_room : is_sound C size bs i ≡ true → i + entries_at bs i ≤ entry_count bs
  sound_room e =
      leb-true (i + entries_at bs i) (entry_count bs)
      (and_left second third (and_right (leb (entries_at bs i) 19) (second && third) (rest e)))

  pub sound_formed : is_sound C size bs i ≡ true → well_formed C size (set_at bs i) ≡ true
  sound_formed e = and_right second third (and_right (leb (entries_at bs i) 19) (second && third) (rest e))

  pub sound_of : is_file bs i ≡ true → entries_at bs i ≤ 19 → i + entries_at bs i ≤ entry_count bs → well_formed C size (set_at bs i) ≡ true
      → is_sound C size bs i ≡ true
  unfolding is_sound
  sound_of f a b w =
      and_both (is_file bs i) _ f
      (and_both (leb (entries_at bs i) 19) (second && third) (le-leb _ _ a) (and_both second third (le-leb _ _ b) w))

-- ---- the bytes of the set at a slot

module _ (bs : List ℕ) (i : ℕ) (few : entries_at bs i ≤ 19) (room : i + entries_at bs i ≤ entry_count bs) where
  abbrev part : List ℕ
  part = take (32 * entries_at bs i) (drop (32 * i) bs)

  abbrev zeros : List ℕ
  zeros = replicate 608 0

  part_length : length part ≡ 32 * entries_at bs i
  unfolding entry_count
  part_length = length-take-le (32 * entries_at bs i) (drop (32 * i) bs) (omega (arith, length-drop (32 * i) bs))

  fits : 0 + length part ≤ length zeros
  fits = omega (arith, part_length, length-replicate {A = ℕ} 608 0)

  pub set_size : length (set_at bs i) ≡ 608
  unfolding set_at
  set_size = length-splice zeros 0 part fits ∙ length-replicate {A = ℕ} 608 0

  pub set_byte : (k : ℕ) → k < 32 * entries_at bs i → get_or (set_at bs i) k 0 ≡ get_or bs (32 * i + k) 0
  unfolding set_at
  set_byte k h =
      let e : 0 + k ≡ k = omega arith in
      ap (λ (x : ℕ). get_or (splice zeros 0 part) x 0) (sym e) ∙ splice_in zeros 0 part fits k (omega (arith, part_length))
      ∙ get_or-take (32 * entries_at bs i) (drop (32 * i) bs) k 0 h ∙ get_or-drop (32 * i) bs k 0

  pub set_rest : (k : ℕ) → 32 * entries_at bs i ≤ k → get_or (set_at bs i) k 0 ≡ 0
  unfolding set_at
  set_rest k h =
      splice_above zeros 0 part fits k (omega (arith, part_length))
      ∙ elim (dec_lt k 608) [
        | yes l ↦ get_or-replicate {A = ℕ} 608 k 0 0 l
        | no l ↦ get_or-eq_default {A = ℕ} (replicate 608 0) 0 {n = k} (omega (arith, length-replicate {A = ℕ} 608 0))
      ]

  -- a list that holds the same bytes and then zeros is the set
  pub set_is : (s : List ℕ) → length s ≡ 608 → ((k : ℕ) → k < 32 * entries_at bs i → get_or bs (32 * i + k) 0 ≡ get_or s k 0)
      → ((k : ℕ) → 32 * entries_at bs i ≤ k → get_or s k 0 ≡ 0) → set_at bs i ≡ s
  set_is s l a b =
      ext_get_or 0 (set_at bs i) s (set_size ∙ sym l)
      (λ k h. elim (dec_lt k (32 * entries_at bs i)) [
        | yes w ↦ set_byte k w ∙ a k w
        | no w ↦ set_rest k (omega arith) ∙ sym (b k (omega arith))
      ])

  -- its own count of entries
  pub set-count : 1 + secondary_count (set_at bs i) ≡ entries_at bs i
  unfolding secondary_count entries_at
  set-count = ap (λ (x : ℕ). 1 + x) (set_byte 1 (unfold entries_at in omega arith))

  -- its types
  pub set_type : (k : ℕ) → k < entries_at bs i → entry_type (set_at bs i) k ≡ type_at bs (i + k)
  unfolding entry_type type_at
  set_type k h =
      let e : 32 * i + 32 * k ≡ 32 * (i + k) = omega arith in
      set_byte (32 * k) (omega arith) ∙ ap (λ (x : ℕ). get_or bs x 0) e
