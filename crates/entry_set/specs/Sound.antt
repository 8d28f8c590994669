-- The conditions of a sound file entry on its set's bytes (01, "Entries and files": "A sound file entry ..").
use Rattle.std.specs.Prelude.{Bool, true, ◌&&◌, ◌||◌, not, cond, List, ℕ, zero, suc, ◌+◌, ◌*◌, ◌%◌, eqb, leb, get_or}
use Rattle.primitives.specs.Checksum.{checksum}
use Rattle.boot.specs.Layout.{in_heap}
use Rattle.entry_set.specs.Fields.{entry_type, secondary_count, set_checksum, allocation_possible, no_fat_chain, name_length, valid_length, first_cluster, data_length, clusters_for, name_entries}

-- begins 0x85, has SecondaryCount 2..18 equal to 1 + ceil(NameLength / 15), and NameLength is not 0
unfoldable pub head_ok : List ℕ → Bool
head_ok s =
    eqb (entry_type s 0) 0x85
    && (leb 2 (secondary_count s)
    && (leb (secondary_count s) 18
    && (eqb (secondary_count s) (1 + name_entries (name_length s)) && not (eqb (name_length s) 0))))

-- has the right checksum, then 0xC0 with flag bit 0 set
unfoldable pub stream_entry_ok : List ℕ → Bool
stream_entry_ok s =
    eqb (set_checksum s) (checksum s (32 * (1 + secondary_count s))) && (eqb (entry_type s 1) 0xC0 && allocation_possible s)

-- then n name entries: 0xC1 with flag bits 0 and 1 clear
unfoldable pub names_ok : List ℕ → ℕ → Bool
names_ok s zero = true
names_ok s (suc n) = names_ok s n && (eqb (entry_type s (2 + n)) 0xC1 && eqb (get_or s (32 * (2 + n) + 1) 0 % 4) 0)

-- valid length at most length; length 0 means first cluster 0 and no run flag; otherwise first is in the heap,
-- ceil(length / cluster size) is at most C, and a run ends in the heap
unfoldable pub lengths_ok : (C size : ℕ) (s : List ℕ) → Bool
lengths_ok C size s =
    leb (valid_length s) (data_length s)
    && cond (eqb (data_length s) 0) (eqb (first_cluster s) 0 && not (no_fat_chain s))
    (in_heap C (first_cluster s)
    && (leb (clusters_for size (data_length s)) C
    && (not (no_fat_chain s) || leb (first_cluster s + clusters_for size (data_length s)) (C + 2))))

-- all of them, for a heap of C clusters of size bytes
unfoldable pub well_formed : (C size : ℕ) (s : List ℕ) → Bool
well_formed C size s = head_ok s && (stream_entry_ok s && (names_ok s (name_entries (name_length s)) && lengths_ok C size s))
