-- The bytes of a new set. Assumes nothing.
use mathlib.Core.Path.{◌≡◌, refl, ◌∙◌}
use mathlib.Core.Bool.{false}
use mathlib.Core.List.{List}
use Prim.Native.Nat.{ℕ, zero, suc, ◌+◌, ◌*◌, ◌/◌, ◌%◌, ◌<◌, ◌≤◌}
use native.Mathlib.Decide.{ℕ_discrete}
use native.Mathlib.Omega.{arith}
use lib.ListN.{length, get_or, set, replicate, length-set}
use lib.Seq.{get_or-set_same, get_or-set_other}
use Rattle.primitives.specs.Words.{get_le, put_le}
use Rattle.primitives.proofs.WordLaws.{length_put, put_off}
use Rattle.entry_set.specs.declared.stamp.Stamps.{Stamps}
use Rattle.entry_set.specs.Fields.{name_entries}
use Rattle.entry_set.specs.Put.{put_created, put_modified}
use Rattle.entry_set.specs.New.{new_file_entry, new_stream_entry, put_types, unit_at, put_units}
use Rattle.entry_set.proofs.PutLaws.{length_created, length_modified, length_accessed, created_off, modified_off, accessed_off, length_stream, stream_off, stream_flags, stream_valid, stream_first, stream_length}

-- ---- the file entry

module _ (s : List ℕ) (n a : ℕ) (t : Stamps) where
  abbrev stored : List ℕ
  stored = set (set s 0 0x85) 1 (1 + name_entries n)

  pub length-file : length (new_file_entry s n a t) ≡ length s
  unfolding new_file_entry
  length-file = simp (length_accessed, length_modified, length_created, length_put, length-set)

  stamps_off : (j : ℕ) → (8 ≤ j → j < 25 → ⊥) → get_or (new_file_entry s n a t) j 0 ≡ get_or (put_le 2 stored 4 a) j 0
  unfolding new_file_entry
  stamps_off j h =
      let p = put_le 2 stored 4 a in
      accessed_off (put_modified (put_created p t.created) t.modified) t.accessed j h
      ∙ modified_off (put_created p t.created) t.modified j h
      ∙ created_off p t.created j h

  pub file_off : (j : ℕ) → 25 ≤ j → get_or (new_file_entry s n a t) j 0 ≡ get_or s j 0
  file_off j h =
      stamps_off j (λ x y. omega arith)
      ∙ put_off 2 stored 4 a j (λ r b e. omega arith)
      ∙ get_or-set_other (set s 0 0x85) 1 j (1 + name_entries n) 0 (λ e. omega arith)
      ∙ get_or-set_other s 0 j 0x85 0 (λ e. omega arith)

  pub file_type : 64 ≤ length s → get_or (new_file_entry s n a t) 0 0 ≡ 0x85
  file_type h =
      stamps_off 0 (λ x y. omega arith)
      ∙ put_off 2 stored 4 a 0 (λ r b e. omega arith)
      ∙ get_or-set_other (set s 0 0x85) 1 0 (1 + name_entries n) 0 (λ e. omega arith)
      ∙ get_or-set_same s 0 0x85 0 (omega arith)

  pub file-count : 64 ≤ length s → get_or (new_file_entry s n a t) 1 0 ≡ 1 + name_entries n
  file-count h =
      stamps_off 1 (λ x y. omega arith)
      ∙ put_off 2 stored 4 a 1 (λ r b e. omega arith)
      ∙ get_or-set_same (set s 0 0x85) 1 (1 + name_entries n) 0 (simp length-set (omega arith))

  -- the low byte of the attributes
  pub file_attributes : 64 ≤ length s → get_or (new_file_entry s n a t) 4 0 ≡ a % 256
  unfolding put_le
  file_attributes h =
      stamps_off 4 (λ x y. omega arith)
      ∙ get_or-set_other (set stored 4 (a / 1 % 256)) 5 4 (a / 256 % 256) 0 (λ e. omega arith)
      ∙ get_or-set_same stored 4 (a / 1 % 256) 0 (simp length-set (omega arith))
      ∙ (omega arith)

-- ---- the stream extension

module _ (s : List ℕ) (n hash : ℕ) where
  abbrev typed : List ℕ
  typed = set (set s 32 0xC0) 35 n

  length_typed : length (put_le 2 typed 36 hash) ≡ length s
  length_typed = simp (length_put, length-set)

  pub length_extension : length (new_stream_entry s n hash) ≡ length s
  unfolding new_stream_entry
  length_extension = simp (length_stream, length_put, length-set)

  pub extension_off : (j : ℕ) → (32 ≤ j → j < 64 → ⊥) → get_or (new_stream_entry s n hash) j 0 ≡ get_or s j 0
  unfolding new_stream_entry
  extension_off j h =
      stream_off (put_le 2 typed 36 hash) 0 false 0 0 j (λ e. h (omega arith) (omega arith)) (λ x y. h (omega arith) y)
      ∙ put_off 2 typed 36 hash j (λ r b e. h (omega arith) (omega arith))
      ∙ get_or-set_other (set s 32 0xC0) 35 j n 0 (λ e. h (omega arith) (omega arith))
      ∙ get_or-set_other s 32 j 0xC0 0 (λ e. h (omega arith) (omega arith))

  pub extension_type : 64 ≤ length s → get_or (new_stream_entry s n hash) 32 0 ≡ 0xC0
  unfolding new_stream_entry
  extension_type h =
      stream_off (put_le 2 typed 36 hash) 0 false 0 0 32 (λ e. omega arith) (λ x y. omega arith)
      ∙ put_off 2 typed 36 hash 32 (λ r b e. omega arith)
      ∙ get_or-set_other (set s 32 0xC0) 35 32 n 0 (λ e. omega arith)
      ∙ get_or-set_same s 32 0xC0 0 (omega arith)

  pub extension_name : 64 ≤ length s → get_or (new_stream_entry s n hash) 35 0 ≡ n
  unfolding new_stream_entry
  extension_name h =
      stream_off (put_le 2 typed 36 hash) 0 false 0 0 35 (λ e. omega arith) (λ x y. omega arith)
      ∙ put_off 2 typed 36 hash 35 (λ r b e. omega arith)
      ∙ get_or-set_same (set s 32 0xC0) 35 n 0 (simp length-set (omega arith))

  pub extension_flags : 64 ≤ length s → get_or (new_stream_entry s n hash) 33 0 ≡ 1
  unfolding new_stream_entry
  extension_flags h = stream_flags (put_le 2 typed 36 hash) 0 false 0 0 (omega (arith, length_typed))

  pub extension_valid : 64 ≤ length s → get_le 8 (new_stream_entry s n hash) 40 ≡ 0
  unfolding new_stream_entry
  extension_valid h = stream_valid (put_le 2 typed 36 hash) 0 false 0 0 (omega (arith, length_typed))

  pub extension_first : 64 ≤ length s → get_le 4 (new_stream_entry s n hash) 52 ≡ 0
  unfolding new_stream_entry
  extension_first h = stream_first (put_le 2 typed 36 hash) 0 false 0 0 (omega (arith, length_typed))

  pub extension_length : 64 ≤ length s → get_le 8 (new_stream_entry s n hash) 56 ≡ 0
  unfolding new_stream_entry
  extension_length h = stream_length (put_le 2 typed 36 hash) 0 false 0 0 (omega (arith, length_typed))

-- ---- the name entries

pub length_types : (s : List ℕ) (n : ℕ) → length (put_types s n) ≡ length s
unfolding put_types
length_types s zero = refl
length_types s (suc n) = length-set (put_types s n) (64 + 32 * n) 0xC1 ∙ length_types s n

pub types_off : (s : List ℕ) (n j : ℕ) → ((k : ℕ) → k < n → j ≡ 64 + 32 * k → ⊥) → get_or (put_types s n) j 0 ≡ get_or s j 0
unfolding put_types
types_off s zero j h = refl
types_off s (suc n) j h =
    get_or-set_other (put_types s n) (64 + 32 * n) j 0xC1 0 (h n (omega arith)) ∙ types_off s n j (λ k b. h k (omega arith))

pub types_at : (s : List ℕ) (n k : ℕ) → k < n → 64 + 32 * k < length s → get_or (put_types s n) (64 + 32 * k) 0 ≡ 0xC1
unfolding put_types
types_at s zero k h l = absurd (omega arith)
types_at s (suc n) k h l =
    elim (ℕ_discrete k n) [
      | yes e ↦ rw e (get_or-set_same (put_types s n) (64 + 32 * n) 0xC1 0 (omega (arith, length_types s n)))
      | no d ↦ get_or-set_other (put_types s n) (64 + 32 * n) (64 + 32 * k) 0xC1 0 (λ q. d (omega arith)) ∙ types_at s n k (omega arith) l
    ]

pub length_units : (s name : List ℕ) (n : ℕ) → length (put_units s name n) ≡ length s
unfolding put_units
length_units s name zero = refl
length_units s name (suc n) = length_put 2 (put_units s name n) (unit_at n) (get_or name n 0) ∙ length_units s name n

pub units_off : (s name : List ℕ) (n j : ℕ) → ((i : ℕ) → i < n → (r : ℕ) → r < 2 → j ≡ unit_at i + r → ⊥)
    → get_or (put_units s name n) j 0 ≡ get_or s j 0
unfolding put_units
units_off s name zero j h = refl
units_off s name (suc n) j h =
    put_off 2 (put_units s name n) (unit_at n) (get_or name n 0) j (h n (omega arith)) ∙ units_off s name n j (λ i b. h i (omega arith))

-- units stand past the first two entries, past bytes 0 and 1 of their own, and before the end of the last one
pub units_head : (s name : List ℕ) (n j : ℕ) → j < 64 → get_or (put_units s name n) j 0 ≡ get_or s j 0
unfolding unit_at
units_head s name n j h = units_off s name n j (λ i b r c e. omega arith)

pub units_start : (s name : List ℕ) (n k b : ℕ) → b < 2 → get_or (put_units s name n) (64 + 32 * k + b) 0 ≡ get_or s (64 + 32 * k + b) 0
unfolding unit_at
units_start s name n k b h = units_off s name n (64 + 32 * k + b) (λ i l r c e. omega arith)

pub units_end : (s name : List ℕ) (n j : ℕ) → 64 + 32 * name_entries n ≤ j → get_or (put_units s name n) j 0 ≡ get_or s j 0
unfolding unit_at name_entries
units_end s name n j h = units_off s name n j (λ i l r c e. omega arith)

-- zeros
pub get_d_zeros : (n j : ℕ) → ◌≡◌ {A = ℕ} (get_or (replicate n 0) j 0) 0
get_d_zeros zero j = refl
get_d_zeros (suc n) zero = refl
get_d_zeros (suc n) (suc j) = get_d_zeros n j
