-- What the stores into a set leave and what they put. Assumes nothing.
use mathlib.Core.Path.{◌≡◌, ◌∙◌}
use mathlib.Core.Bool.{Bool, cond}
use mathlib.Core.List.{List}
use Prim.Native.Nat.{ℕ, ◌*◌, ◌%◌, ◌^◌, ◌<◌, ◌≤◌}
use native.Mathlib.Omega.{arith}
use lib.ListN.{length, get_or, set, length-set}
use lib.Seq.{get_or-set_same, get_or-set_other}
use Rattle.primitives.specs.Bits.{set_bit}
use Rattle.primitives.specs.Checksum.{checksum}
use Rattle.primitives.specs.Words.{get_le, put_le}
use Rattle.primitives.proofs.WordLaws.{length_put, put_off, get_put, get_put_below}
use Rattle.entry_set.specs.declared.stamp.Stamp.{Stamp}
use Rattle.entry_set.specs.Put.{put_created, put_modified, put_accessed, put_stream, archived, sealed}

-- ---- the stamps: bytes 8 to 24

module _ (s : List ℕ) (t : Stamp) where
  pub length_created : length (put_created s t) ≡ length s
  unfolding put_created
  length_created = simp (length-set, length_put)

  pub length_modified : length (put_modified s t) ≡ length s
  unfolding put_modified
  length_modified = simp (length-set, length_put)

  pub length_accessed : length (put_accessed s t) ≡ length s
  unfolding put_accessed
  length_accessed = simp (length-set, length_put)

  pub created_off : (j : ℕ) → (8 ≤ j → j < 25 → ⊥) → get_or (put_created s t) j 0 ≡ get_or s j 0
  unfolding put_created
  created_off j h =
      get_or-set_other (set (put_le 4 s 8 t.value) 20 t.increment) 22 j t.offset 0 (λ e. h (omega arith) (omega arith))
      ∙ get_or-set_other (put_le 4 s 8 t.value) 20 j t.increment 0 (λ e. h (omega arith) (omega arith))
      ∙ put_off 4 s 8 t.value j (λ r b e. h (omega arith) (omega arith))

  pub modified_off : (j : ℕ) → (8 ≤ j → j < 25 → ⊥) → get_or (put_modified s t) j 0 ≡ get_or s j 0
  unfolding put_modified
  modified_off j h =
      get_or-set_other (set (put_le 4 s 12 t.value) 21 t.increment) 23 j t.offset 0 (λ e. h (omega arith) (omega arith))
      ∙ get_or-set_other (put_le 4 s 12 t.value) 21 j t.increment 0 (λ e. h (omega arith) (omega arith))
      ∙ put_off 4 s 12 t.value j (λ r b e. h (omega arith) (omega arith))

  pub accessed_off : (j : ℕ) → (8 ≤ j → j < 25 → ⊥) → get_or (put_accessed s t) j 0 ≡ get_or s j 0
  unfolding put_accessed
  accessed_off j h =
      get_or-set_other (put_le 4 s 16 t.value) 24 j t.offset 0 (λ e. h (omega arith) (omega arith))
      ∙ put_off 4 s 16 t.value j (λ r b e. h (omega arith) (omega arith))

-- ---- the stream: byte 33 and bytes 40 to 63

module _ (s : List ℕ) (first : ℕ) (run : Bool) (valid len : ℕ) where
  pub length_stream : length (put_stream s first run valid len) ≡ length s
  unfolding put_stream
  length_stream = simp (length_put, length-set)

  pub stream_off : (j : ℕ) → (j ≡ 33 → ⊥) → (40 ≤ j → j < 64 → ⊥) → get_or (put_stream s first run valid len) j 0 ≡ get_or s j 0
  unfolding put_stream
  stream_off j n h =
      let a = set s 33 (cond run 3 1) in
      put_off 8 (put_le 4 (put_le 8 a 40 valid) 52 first) 56 len j (λ r b e. h (omega arith) (omega arith))
      ∙ put_off 4 (put_le 8 a 40 valid) 52 first j (λ r b e. h (omega arith) (omega arith))
      ∙ put_off 8 a 40 valid j (λ r b e. h (omega arith) (omega arith))
      ∙ get_or-set_other s 33 j (cond run 3 1) 0 n

  pub stream_flags : 64 ≤ length s → get_or (put_stream s first run valid len) 33 0 ≡ cond run 3 1
  unfolding put_stream
  stream_flags h =
      let a = set s 33 (cond run 3 1) in
      put_off 8 (put_le 4 (put_le 8 a 40 valid) 52 first) 56 len 33 (λ r b e. omega arith)
      ∙ put_off 4 (put_le 8 a 40 valid) 52 first 33 (λ r b e. omega arith)
      ∙ put_off 8 a 40 valid 33 (λ r b e. omega arith)
      ∙ get_or-set_same s 33 (cond run 3 1) 0 (omega arith)

  pub stream_valid : 64 ≤ length s → get_le 8 (put_stream s first run valid len) 40 ≡ valid % 256 ^ 8
  unfolding put_stream
  stream_valid h =
      let a = set s 33 (cond run 3 1) in
      get_put_below 8 8 (put_le 4 (put_le 8 a 40 valid) 52 first) 40 56 len (omega arith)
      ∙ get_put_below 8 4 (put_le 8 a 40 valid) 40 52 first (omega arith)
      ∙ get_put 8 a 40 valid (simp length-set (omega arith))

  pub stream_first : 64 ≤ length s → get_le 4 (put_stream s first run valid len) 52 ≡ first % 256 ^ 4
  unfolding put_stream
  stream_first h =
      let a = set s 33 (cond run 3 1) in
      get_put_below 4 8 (put_le 4 (put_le 8 a 40 valid) 52 first) 52 56 len (omega arith)
      ∙ get_put 4 (put_le 8 a 40 valid) 52 first (simp (length_put, length-set) (omega arith))

  pub stream_length : 64 ≤ length s → get_le 8 (put_stream s first run valid len) 56 ≡ len % 256 ^ 8
  unfolding put_stream
  stream_length h =
      let a = set s 33 (cond run 3 1) in
      get_put 8 (put_le 4 (put_le 8 a 40 valid) 52 first) 56 len (simp (length_put, length-set) (omega arith))

-- ---- the attribute and the checksum

module _ (s : List ℕ) where
  pub length-archived : length (archived s) ≡ length s
  unfolding archived
  length-archived = simp length-set

  pub archived_off : (j : ℕ) → (j ≡ 4 → ⊥) → get_or (archived s) j 0 ≡ get_or s j 0
  unfolding archived
  archived_off j n = get_or-set_other s 4 j (set_bit (get_or s 4 0) 5) 0 n

  pub archived_at : 64 ≤ length s → get_or (archived s) 4 0 ≡ set_bit (get_or s 4 0) 5
  unfolding archived
  archived_at h = get_or-set_same s 4 (set_bit (get_or s 4 0) 5) 0 (omega arith)

  pub length-sealed : (n : ℕ) → length (sealed s n) ≡ length s
  unfolding sealed
  length-sealed n = length_put 2 s 2 (checksum s (32 * n))

  pub sealed_off : (n j : ℕ) → (2 ≤ j → j < 4 → ⊥) → get_or (sealed s n) j 0 ≡ get_or s j 0
  unfolding sealed
  sealed_off n j h = put_off 2 s 2 (checksum s (32 * n)) j (λ r b e. h (omega arith) (omega arith))
