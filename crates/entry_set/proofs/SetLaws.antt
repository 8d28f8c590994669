-- The laws of a whole set: what a sound one has, what changing, making and unsetting one do to its fields. Assumes nothing.
use mathlib.Core.Path.{◌≡◌, refl, sym, ap, ◌∙◌}
use mathlib.Core.Logic.{◌⊎◌, inl, inr, ⊎_elim}
use mathlib.Core.Bool.{Bool, true, false, cond}
use mathlib.Core.List.{List}
use Prim.Native.Nat.{ℕ, zero, suc, ◌+◌, ◌*◌, ◌/◌, ◌%◌, ◌^◌, ◌<◌, ◌≤◌}
use native.Mathlib.Nat.{mod-eq_of_lt}
use native.Mathlib.Decide.{ℕ_discrete}
use native.Mathlib.Omega.{arith}
use borrow.Author.Tests.{ltb-true, eqb-true}
use lib.Dec.{eqb, ltb}
use lib.ListN.{length, get_or, replicate, length-set, length-replicate}
use lib.Seq.{get_or-set_same, get_or-set_other}
use Rattle.primitives.specs.Bits.{bit_of, set_bit, clear_bit}
use Rattle.primitives.specs.Checksum.{checksum}
use Rattle.primitives.proofs.BitLaws.{set_other, clear_same}
use Rattle.primitives.proofs.ChecksumLaws.{sealed_right}
use Rattle.primitives.proofs.WordLaws.{get_same}
use Rattle.boot.specs.Layout.{in_heap}
use Rattle.tables.proofs.Cases.{and_left, and_right}
use Rattle.entry_set.specs.declared.stamp.Stamp.{Stamp}
use Rattle.entry_set.specs.declared.stamp.Stamps.{Stamps}
use Rattle.entry_set.specs.Fields.{entry_type, secondary_count, set_checksum, is_directory, allocation_possible, no_fat_chain, name_length, valid_length, first_cluster, data_length, clusters_for, name_entries}
use Rattle.entry_set.specs.Name.{name_ok, attributes_ok}
use Rattle.entry_set.specs.Put.{put_modified, put_accessed, put_stream, archived, sealed, refreshed, cleared}
use Rattle.entry_set.specs.New.{new_entries, new_file_entry, new_stream_entry, put_types, put_units, new_set}
use Rattle.entry_set.specs.Sound.{well_formed}
use Rattle.entry_set.proofs.NameLaws.{name_length_lem}
use Rattle.entry_set.proofs.PutLaws.{length_modified, length_accessed, modified_off, accessed_off, length_stream, stream_off, stream_flags, stream_valid, stream_first, stream_length, length-archived, archived_off, archived_at, length-sealed, sealed_off}
use Rattle.entry_set.proofs.NewLaws.{length-file, file_off, file_type, file-count, file_attributes, length_extension, extension_off, extension_type, extension_name, extension_flags, extension_valid, extension_first, extension_length, length_types, types_off, types_at, length_units, units_head, units_start, units_end, get_d_zeros}
use Rattle.entry_set.proofs.SoundLaws.{NameEntry, Lengths, formed_of, of_formed}

-- ---- what a sound set has

module _ (C size : ℕ) (s : List ℕ) (w : well_formed C size s ≡ true) where
  pub formed_count : (3 ≤ 1 + secondary_count s) × (1 + secondary_count s ≤ 19)
  formed_count = let h = (formed_of C size s w).head in (omega arith, omega arith)

  pub formed_file : entry_type s 0 ≡ 0x85
  formed_file = (formed_of C size s w).head.file

  -- the entries after the file entry: a stream extension, then names
  pub formed_type : (i : ℕ) → 1 ≤ i → i < 1 + secondary_count s → (entry_type s i ≡ 0xC0) ⊎ (entry_type s i ≡ 0xC1)
  formed_type zero h l = absurd (omega arith)
  formed_type (suc zero) h l = inl (formed_of C size s w).stream.stream
  formed_type (suc (suc i)) h l =
      let f = formed_of C size s w in
      let e : 2 + i ≡ suc (suc i) = omega arith in
      inr (rw e at (f.names i (omega (arith, f.head.fits))).name)

  -- the lengths: `valid`, `empty`, `first`, `room` and `run` of the record
  pub formed_lengths : Lengths C size s
  formed_lengths = (formed_of C size s w).lengths

-- ---- a set that was changed

-- what a stream that is put has to be
pub record StreamFits (C size first : ℕ) (run : Bool) (valid len : ℕ) : Type 0 where
  pub valid_le : valid ≤ len
  pub len_lt : len < 2 ^ 64
  pub first_lt : first < 2 ^ 32
  pub empty : len ≡ 0 → (first ≡ 0) × (run ≡ false)
  pub in-heap : (len ≡ 0 → ⊥) → in_heap C first ≡ true
  pub room : (len ≡ 0 → ⊥) → clusters_for size len ≤ C
  pub end : (len ≡ 0 → ⊥) → run ≡ true → first + clusters_for size len ≤ C + 2

module _ (s : List ℕ) (n first : ℕ) (run : Bool) (valid len : ℕ) (t : Stamp) where
  pub refreshed-length : length (refreshed s n first run valid len t) ≡ length s
  unfolding refreshed
  refreshed-length = simp (length-sealed, length-archived, length_accessed, length_modified, length_stream)

  -- but for bytes 2 to 24 it is the set with its stream put
  put_kept : (j : ℕ) → (2 ≤ j → j < 25 → ⊥) → get_or (refreshed s n first run valid len t) j 0 ≡ get_or (put_stream s first run valid len) j 0
  unfolding refreshed
  put_kept j h =
      let p = put_stream s first run valid len in
      let q = put_modified p t in
      let r = put_accessed q t in
      sealed_off (archived r) n j (λ x y. h x (omega arith))
      ∙ archived_off r j (λ e. h (omega arith) (omega arith))
      ∙ accessed_off q t j (λ x y. h (omega arith) y)
      ∙ modified_off p t j (λ x y. h (omega arith) y)

  kept : (j : ℕ) → (2 ≤ j → j < 25 → ⊥) → (j ≡ 33 → ⊥) → (40 ≤ j → j < 64 → ⊥) → get_or (refreshed s n first run valid len t) j 0 ≡ get_or s j 0
  kept j h d k = put_kept j h ∙ stream_off s first run valid len j d k

  pub refreshed_byte : (j : ℕ) → 64 ≤ j → get_or (refreshed s n first run valid len t) j 0 ≡ get_or s j 0
  refreshed_byte j h = kept j (λ x y. omega arith) (λ e. omega arith) (λ x y. omega arith)

  pub refreshed-count : secondary_count (refreshed s n first run valid len t) ≡ secondary_count s
  unfolding secondary_count
  refreshed-count = kept 1 (λ x y. omega arith) (λ e. omega arith) (λ x y. omega arith)

  pub refreshed_name : name_length (refreshed s n first run valid len t) ≡ name_length s
  unfolding name_length
  refreshed_name = kept 35 (λ x y. omega arith) (λ e. omega arith) (λ x y. omega arith)

  pub refreshed_type : (i : ℕ) → entry_type (refreshed s n first run valid len t) i ≡ entry_type s i
  unfolding entry_type
  refreshed_type i = kept (32 * i) (λ x y. omega arith) (λ e. omega arith) (λ x y. omega arith)

  module _ (l : length s ≡ 608) where
    pub refreshed_directory : is_directory (refreshed s n first run valid len t) ≡ is_directory s
    unfolding is_directory refreshed
    refreshed_directory =
        let p = put_stream s first run valid len in
        let q = put_modified p t in
        let r = put_accessed q t in
        let e : get_or (sealed (archived r) n) 4 0 ≡ set_bit (get_or r 4 0) 5 =
        sealed_off (archived r) n 4 (λ x y. omega arith)
        ∙ archived_at r (omega (arith, length_accessed q t, length_modified p t, length_stream s first run valid len)) in
        let f : get_or r 4 0 ≡ get_or s 4 0 =
        accessed_off q t 4 (λ x y. omega arith)
        ∙ modified_off p t 4 (λ x y. omega arith)
        ∙ stream_off s first run valid len 4 (λ e. omega arith) (λ x y. omega arith) in
        ap (λ (x : ℕ). eqb (bit_of x 4) 1) e
        ∙ ap (λ (x : ℕ). eqb x 1) (set_other (get_or r 4 0) 5 4 (λ e. omega arith) ∙ ap (λ (x : ℕ). bit_of x 4) f)

    flags : get_or (refreshed s n first run valid len t) 33 0 ≡ cond run 3 1
    flags = put_kept 33 (λ x y. omega arith) ∙ stream_flags s first run valid len (omega arith)

    pub refreshed-run : no_fat_chain (refreshed s n first run valid len t) ≡ run
    unfolding no_fat_chain bit_of
    refreshed-run = rw flags (by run)
      where
        by : (b : Bool) → eqb (cond b 3 1 / 2 ^ 1 % 2) 1 ≡ b
        by true = refl
        by false = refl

    possible : allocation_possible (refreshed s n first run valid len t) ≡ true
    unfolding allocation_possible bit_of
    possible = rw flags (by run)
      where
        by : (b : Bool) → eqb (cond b 3 1 / 2 ^ 0 % 2) 1 ≡ true
        by true = refl
        by false = refl

    pub refreshed_valid : valid < 2 ^ 64 → valid_length (refreshed s n first run valid len t) ≡ valid
    unfolding valid_length
    refreshed_valid h =
        get_same 8 (refreshed s n first run valid len t) (put_stream s first run valid len) 40 40 (λ k b. put_kept (40 + k) (λ x y. omega arith))
        ∙ stream_valid s first run valid len (omega arith)
        ∙ mod-eq_of_lt h

    pub refreshed_first : first < 2 ^ 32 → first_cluster (refreshed s n first run valid len t) ≡ first
    unfolding first_cluster
    refreshed_first h =
        get_same 4 (refreshed s n first run valid len t) (put_stream s first run valid len) 52 52 (λ k b. put_kept (52 + k) (λ x y. omega arith))
        ∙ stream_first s first run valid len (omega arith)
        ∙ mod-eq_of_lt h

    pub refreshed_data : len < 2 ^ 64 → data_length (refreshed s n first run valid len t) ≡ len
    unfolding data_length
    refreshed_data h =
        get_same 8 (refreshed s n first run valid len t) (put_stream s first run valid len) 56 56 (λ k b. put_kept (56 + k) (λ x y. omega arith))
        ∙ stream_length s first run valid len (omega arith)
        ∙ mod-eq_of_lt h

    sum : set_checksum (refreshed s n first run valid len t) ≡ checksum (refreshed s n first run valid len t) (32 * n)
    unfolding set_checksum refreshed sealed
    sum =
        let p = put_stream s first run valid len in
        let q = put_modified p t in
        let r = put_accessed q t in
        sealed_right (archived r) (32 * n)
        (omega (arith, length-archived r, length_accessed q t, length_modified p t, length_stream s first run valid len))

    pub refreshed_formed : (C size : ℕ) → well_formed C size s ≡ true → n ≡ 1 + secondary_count s → StreamFits C size first run valid len
        → well_formed C size (refreshed s n first run valid len t) ≡ true
    refreshed_formed C size w e f =
        let o = formed_of C size s w in
        let z = refreshed s n first run valid len t in
        let v : valid_length z ≡ valid = refreshed_valid (omega (arith, f.valid_le, f.len_lt)) in
        let d : data_length z ≡ len = refreshed_data f.len_lt in
        let k : first_cluster z ≡ first = refreshed_first f.first_lt in
        let m : 32 * n ≡ 32 * (1 + secondary_count z) = ap (λ (x : ℕ). 32 * x) (e ∙ ap (λ (x : ℕ). 1 + x) (sym refreshed-count)) in
        of_formed C size z
        (record {
          head = record {
            file = refreshed_type 0 ∙ o.head.file;
            low = rw refreshed-count o.head.low;
            high = rw refreshed-count o.head.high;
            fits = rw (refreshed-count, refreshed_name) o.head.fits;
            named = rw refreshed_name o.head.named;
          };
          stream = record {
            sum = sum ∙ ap (checksum z) m;
            stream = refreshed_type 1 ∙ o.stream.stream;
            possible = possible;
          };
          names = λ i b.
              let q = o.names i (rw refreshed_name at b) in
              record {
                name = refreshed_type (2 + i) ∙ q.name;
                flags = ap (λ (x : ℕ). x % 4) (refreshed_byte (32 * (2 + i) + 1) (omega arith)) ∙ q.flags;
              };
          lengths = record {
            valid = rw (v, d) f.valid_le;
            empty = rw (d, k, refreshed-run) f.empty;
            first = rw (d, k) f.in-heap;
            room = rw d f.room;
            run = rw (d, k, refreshed-run) f.end;
          };
        })

-- ---- a set that was unset

pub cleared-length : (s : List ℕ) (n : ℕ) → length (cleared s n) ≡ length s
unfolding cleared
cleared-length s zero = refl
cleared-length s (suc n) = length-set (cleared s n) (32 * n) (clear_bit (get_or s (32 * n) 0) 7) ∙ cleared-length s n

pub cleared_byte : (s : List ℕ) (n j : ℕ) → ((i : ℕ) → i < n → j ≡ 32 * i → ⊥) → get_or (cleared s n) j 0 ≡ get_or s j 0
unfolding cleared
cleared_byte s zero j h = refl
cleared_byte s (suc n) j h =
    get_or-set_other (cleared s n) (32 * n) j (clear_bit (get_or s (32 * n) 0) 7) 0 (h n (omega arith))
    ∙ cleared_byte s n j (λ i b. h i (omega arith))

pub cleared_at : (s : List ℕ) (n i : ℕ) → i < n → 32 * i < length s → get_or (cleared s n) (32 * i) 0 ≡ clear_bit (get_or s (32 * i) 0) 7
unfolding cleared
cleared_at s zero i h l = absurd (omega arith)
cleared_at s (suc n) i h l =
    let v = clear_bit (get_or s (32 * n) 0) 7 in
    elim (ℕ_discrete i n) [
      | yes e ↦ rw e (get_or-set_same (cleared s n) (32 * n) v 0 (omega (arith, cleared-length s n)))
      | no d ↦ get_or-set_other (cleared s n) (32 * n) (32 * i) v 0 (λ q. d (omega arith)) ∙ cleared_at s n i (omega arith) l
    ]

module _ (C size : ℕ) (s : List ℕ) (n : ℕ) (w : well_formed C size s ≡ true) (e : n ≡ 1 + secondary_count s) (l : length s ≡ 608) (i : ℕ) (b : i < n) where
  pub cleared_type : entry_type (cleared s n) i ≡ clear_bit (entry_type s i) 7
  unfolding entry_type
  cleared_type = let h = formed_count C size s w in cleared_at s n i b (omega arith)

  -- its entries are not in use
  pub cleared_unused : bit_of (entry_type (cleared s n) i) 7 ≡ 0
  cleared_unused = ap (λ (x : ℕ). bit_of x 7) cleared_type ∙ clear_same (entry_type s i) 7

  -- and none of them ends the directory
  pub cleared-not_end : entry_type (cleared s n) i ≡ 0 → ⊥
  unfolding clear_bit bit_of
  cleared-not_end z = by i (omega arith) (sym cleared_type ∙ z)
    where
      by : (k : ℕ) → k < 1 + secondary_count s → clear_bit (entry_type s k) 7 ≡ 0 → ⊥
      by zero m q = let f = rw (formed_file C size s w) at q in omega arith
      by (suc k) m q =
          ⊎_elim (λ t. let f = rw t at q in omega arith) (λ t. let f = rw t at q in omega arith)
          (formed_type C size s w (suc k) (omega arith) m)

-- ---- the set of a new file

entries_few : (n : ℕ) → 1 ≤ n → n ≤ 255 → (1 ≤ name_entries n) × (name_entries n ≤ 17)
unfolding name_entries
entries_few n l h = (omega arith, omega arith)

module _ (name : List ℕ) (a hash : ℕ) (t : Stamps) where
  abbrev zeros : List ℕ
  zeros = replicate 608 0

  abbrev file : List ℕ
  file = new_file_entry zeros (length name) a t

  abbrev head : List ℕ
  head = new_stream_entry file (length name) hash

  abbrev types : List ℕ
  types = put_types head (name_entries (length name))

  abbrev whole : List ℕ
  whole = put_units types name (length name)

  length_zeros : length zeros ≡ 608
  length_zeros = length-replicate {A = ℕ} 608 0

  length_whole : length whole ≡ 608
  length_whole =
      length_units types name (length name)
      ∙ length_types head (name_entries (length name))
      ∙ length_extension file (length name) hash
      ∙ length-file zeros (length name) a t
      ∙ length_zeros

  length_head : length head ≡ 608
  length_head = length_extension file (length name) hash ∙ length-file zeros (length name) a t ∙ length_zeros

  length_of_file : length file ≡ 608
  length_of_file = length-file zeros (length name) a t ∙ length_zeros

  pub new-length : length (new_set name a hash t) ≡ 608
  unfolding new_set
  new-length = length-sealed whole (new_entries (length name)) ∙ length_whole

  -- but for the checksum, the first two entries are as they were put
  head_kept : (j : ℕ) → j < 64 → (2 ≤ j → j < 4 → ⊥) → get_or (new_set name a hash t) j 0 ≡ get_or head j 0
  unfolding new_set
  head_kept j h d =
      sealed_off whole (new_entries (length name)) j d
      ∙ units_head types name (length name) j h
      ∙ types_off head (name_entries (length name)) j (λ k b e. omega arith)

  file_kept : (j : ℕ) → j < 32 → (2 ≤ j → j < 4 → ⊥) → get_or (new_set name a hash t) j 0 ≡ get_or file j 0
  file_kept j h d = head_kept j (omega arith) d ∙ extension_off file (length name) hash j (λ x y. omega arith)

  -- every byte past the set is 0
  pub new-zero : (j : ℕ) → 32 * new_entries (length name) ≤ j → get_or (new_set name a hash t) j 0 ≡ 0
  unfolding new_set new_entries
  new-zero j h =
      sealed_off whole (new_entries (length name)) j (λ x y. omega arith)
      ∙ units_end types name (length name) j (omega arith)
      ∙ types_off head (name_entries (length name)) j (λ k b e. omega arith)
      ∙ extension_off file (length name) hash j (λ x y. omega arith)
      ∙ file_off zeros (length name) a t j (omega arith)
      ∙ get_d_zeros 608 j

  pub new-count : secondary_count (new_set name a hash t) ≡ 1 + name_entries (length name)
  unfolding secondary_count
  new-count = file_kept 1 (omega arith) (λ x y. omega arith) ∙ file-count zeros (length name) a t (omega (arith, length_zeros))

  pub new-entries : 1 + secondary_count (new_set name a hash t) ≡ new_entries (length name)
  unfolding new_entries
  new-entries = rw new-count (omega arith)

  pub new_name : name_length (new_set name a hash t) ≡ length name
  unfolding name_length
  new_name = head_kept 35 (omega arith) (λ x y. omega arith) ∙ extension_name file (length name) hash (omega (arith, length_of_file))

  new-file : entry_type (new_set name a hash t) 0 ≡ 0x85
  unfolding entry_type
  new-file = file_kept 0 (omega arith) (λ x y. omega arith) ∙ file_type zeros (length name) a t (omega (arith, length_zeros))

  new_stream_lem : entry_type (new_set name a hash t) 1 ≡ 0xC0
  unfolding entry_type
  new_stream_lem = head_kept 32 (omega arith) (λ x y. omega arith) ∙ extension_type file (length name) hash (omega (arith, length_of_file))

  flags_one : get_or (new_set name a hash t) 33 0 ≡ 1
  flags_one = head_kept 33 (omega arith) (λ x y. omega arith) ∙ extension_flags file (length name) hash (omega (arith, length_of_file))

  pub new-run : no_fat_chain (new_set name a hash t) ≡ false
  unfolding no_fat_chain bit_of
  new-run = rw flags_one refl

  new_possible : allocation_possible (new_set name a hash t) ≡ true
  unfolding allocation_possible bit_of
  new_possible = rw flags_one refl

  pub new_valid : valid_length (new_set name a hash t) ≡ 0
  unfolding valid_length
  new_valid =
      get_same 8 (new_set name a hash t) head 40 40 (λ k b. head_kept (40 + k) (omega arith) (λ x y. omega arith))
      ∙ extension_valid file (length name) hash (omega (arith, length_of_file))

  pub new_first : first_cluster (new_set name a hash t) ≡ 0
  unfolding first_cluster
  new_first =
      get_same 4 (new_set name a hash t) head 52 52 (λ k b. head_kept (52 + k) (omega arith) (λ x y. omega arith))
      ∙ extension_first file (length name) hash (omega (arith, length_of_file))

  pub new_data : data_length (new_set name a hash t) ≡ 0
  unfolding data_length
  new_data =
      get_same 8 (new_set name a hash t) head 56 56 (λ k b. head_kept (56 + k) (omega arith) (λ x y. omega arith))
      ∙ extension_length file (length name) hash (omega (arith, length_of_file))

  pub new_directory : attributes_ok a ≡ true → is_directory (new_set name a hash t) ≡ false
  unfolding attributes_ok is_directory bit_of
  new_directory e =
      let low : a < 64 = ltb-true _ _ (and_left (ltb a 64) (eqb (a / 8 % 4) 0) e) in
      let bits : a / 8 % 4 ≡ 0 = eqb-true _ _ (and_right (ltb a 64) (eqb (a / 8 % 4) 0) e) in
      let v : get_or (new_set name a hash t) 4 0 ≡ a % 256 =
      file_kept 4 (omega arith) (λ x y. omega arith) ∙ file_attributes zeros (length name) a t (omega (arith, length_zeros)) in
      let z : a % 256 / 2 ^ 4 % 2 ≡ 0 = omega arith in
      rw (v, z) refl

  name_start : (i : ℕ) → i < name_entries (length name) → length name ≤ 255 → NameEntry (new_set name a hash t) i
  unfolding new_set entry_type name_entries
  name_start i h m =
      let n = name_entries (length name) in
      let p : 32 * (2 + i) ≡ 64 + 32 * i + 0 = omega arith in
      let q : 32 * (2 + i) + 1 ≡ 64 + 32 * i + 1 = omega arith in
      let r : 64 + 32 * i + 0 ≡ 64 + 32 * i = omega arith in
      record {
        name =
            sealed_off whole (new_entries (length name)) (32 * (2 + i)) (λ x y. omega arith)
            ∙ ap (λ (j : ℕ). get_or whole j 0) p
            ∙ units_start types name (length name) i 0 (omega arith)
            ∙ ap (λ (j : ℕ). get_or types j 0) r
            ∙ types_at head n i h (omega (arith, length_head));
        flags =
            ap (λ (x : ℕ). x % 4)
            (sealed_off whole (new_entries (length name)) (32 * (2 + i) + 1) (λ x y. omega arith)
            ∙ ap (λ (j : ℕ). get_or whole j 0) q
            ∙ units_start types name (length name) i 1 (omega arith)
            ∙ types_off head n (64 + 32 * i + 1) (λ k b e. omega arith)
            ∙ extension_off file (length name) hash (64 + 32 * i + 1) (λ x y. omega arith)
            ∙ file_off zeros (length name) a t (64 + 32 * i + 1) (omega arith)
            ∙ get_d_zeros 608 (64 + 32 * i + 1));
      }

  new-sum : set_checksum (new_set name a hash t) ≡ checksum (new_set name a hash t) (32 * new_entries (length name))
  unfolding set_checksum new_set sealed
  new-sum = sealed_right whole (32 * new_entries (length name)) (omega (arith, length_whole))

  pub new_few : name_ok name ≡ true → (3 ≤ new_entries (length name)) × (new_entries (length name) ≤ 19)
  unfolding new_entries
  new_few o =
      let l = name_length_lem name o in
      let u = entries_few (length name) l.0 l.1 in
      (omega arith, omega arith)

  pub new_formed : (C size : ℕ) → name_ok name ≡ true → well_formed C size (new_set name a hash t) ≡ true
  new_formed C size o =
      let s = new_set name a hash t in
      let l = name_length_lem name o in
      let u = entries_few (length name) l.0 l.1 in
      of_formed C size s
      (record {
        head = record {
          file = new-file;
          low = rw new-count (omega arith);
          high = rw new-count (omega arith);
          fits = rw (new-count, new_name) refl;
          named = λ e. omega (arith, new_name);
        };
        stream = record {
          sum = new-sum ∙ ap (λ (x : ℕ). checksum s (32 * x)) (sym new-entries);
          stream = new_stream_lem;
          possible = new_possible;
        };
        names = λ i b. name_start i (rw new_name at b) l.1;
        lengths = record {
          valid = rw (new_valid, new_data) (omega arith);
          empty = λ e. (new_first, new-run);
          first = λ d. absurd (d new_data);
          room = λ d. absurd (d new_data);
          run = λ d. absurd (d new_data);
        };
      })
