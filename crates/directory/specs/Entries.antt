-- The entries of a directory, bs being its bytes: 32 bytes each, slots numbered from 0 (01, "Entries and files").
use Rattle.std.specs.Prelude.{Bool, not, ◌&&◌, List, ℕ, ◌+◌, ◌*◌, ◌/◌, eqb, leb, length, get_or, take, drop, replicate}
use Rattle.primitives.specs.Bits.{bit_of}
use Rattle.primitives.specs.Splice.{splice}
use Rattle.entry_set.specs.Sound.{well_formed}
use Rattle.search.specs.Search.{all_from}

-- how many entries there are
unfoldable pub entry_count : List ℕ → ℕ
entry_count bs = length bs / 32

-- the type byte of entry i; 0 past the end
unfoldable pub type_at : List ℕ → ℕ → ℕ
type_at bs i = get_or bs (32 * i) 0

-- entry i is in use: type bit 0x80 (6.2.1.4 InUse)
unfoldable pub in_use : List ℕ → ℕ → Bool
in_use bs i = eqb (bit_of (type_at bs i) 7) 1

-- none of the entries before slot i has type 0: slot i lies before the first such entry, or is it
unfoldable pub before_end : List ℕ → ℕ → Bool
before_end bs i = all_from (λ j. not (eqb (type_at bs j) 0)) 0 i

-- slot i has a file entry (01: an in-use 0x85 entry before the first type 0), sound or not
unfoldable pub is_file : List ℕ → ℕ → Bool
is_file bs i = before_end bs i && eqb (type_at bs i) 0x85

-- the entries of the set at slot i: 1 and SecondaryCount
unfoldable pub entries_at : List ℕ → ℕ → ℕ
entries_at bs i = 1 + get_or bs (32 * i + 1) 0

-- the set at slot i, copied into 608 bytes
unfoldable pub set_at : List ℕ → ℕ → List ℕ
set_at bs i = splice (replicate 608 0) 0 (take (32 * entries_at bs i) (drop (32 * i) bs))

-- a sound file entry at slot i, for a heap of C clusters of size bytes: it lies before the first type 0, its set has at most 19
-- entries and fits the directory, and the set's bytes are well formed
unfoldable pub is_sound : (C size : ℕ) (bs : List ℕ) (i : ℕ) → Bool
is_sound C size bs i =
    is_file bs i && (leb (entries_at bs i) 19 && (leb (i + entries_at bs i) (entry_count bs) && well_formed C size (set_at bs i)))
