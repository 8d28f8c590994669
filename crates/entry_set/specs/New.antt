-- The set of a new file (01, "New file"; Rust: `new_set`): every byte that is not named here is 0.
use Rattle.std.specs.Prelude.{false, List, ℕ, zero, suc, ◌+◌, ◌*◌, ◌/◌, ◌%◌, length, get_or, set, replicate}
use Rattle.primitives.specs.Words.{put_le}
use Rattle.entry_set.specs.declared.stamp.Stamps.{Stamps}
use Rattle.entry_set.specs.Fields.{name_entries}
use Rattle.entry_set.specs.Put.{put_created, put_modified, put_accessed, put_stream, sealed}

-- the entries of the set of a name of n units: file, stream extension, names
unfoldable pub new_entries : ℕ → ℕ
new_entries n = 2 + name_entries n

-- the file entry: its type, SecondaryCount, attributes and all three stamps
unfoldable pub new_file_entry : (s : List ℕ) (n attributes : ℕ) (t : Stamps) → List ℕ
new_file_entry s n attributes t =
    put_accessed (put_modified (put_created (put_le 2 (set (set s 0 0x85) 1 (1 + name_entries n)) 4 attributes) t.created) t.modified) t.accessed

-- the stream extension: its type, NameLength, hash, flags 1 and an empty stream
unfoldable pub new_stream_entry : (s : List ℕ) (n hash : ℕ) → List ℕ
new_stream_entry s n hash = put_stream (put_le 2 (set (set s 32 0xC0) 35 n) 36 hash) 0 false 0 0

-- the types of the first j name entries
unfoldable pub put_types : List ℕ → ℕ → List ℕ
put_types s zero = s
put_types s (suc j) = set (put_types s j) (64 + 32 * j) 0xC1

-- where unit i stands: 15 units of 2 bytes from byte 2 of each name entry
unfoldable pub unit_at : ℕ → ℕ
unit_at i = 64 + 32 * (i / 15) + 2 + 2 * (i % 15)

-- the first i units of a name
unfoldable pub put_units : List ℕ → List ℕ → ℕ → List ℕ
put_units s name zero = s
put_units s name (suc i) = put_le 2 (put_units s name i) (unit_at i) (get_or name i 0)

-- the whole set, in 608 bytes
unfoldable pub new_set : (name : List ℕ) (attributes hash : ℕ) (t : Stamps) → List ℕ
new_set name attributes hash t =
    let n = length name in
    let head = new_stream_entry (new_file_entry (replicate 608 0) n attributes t) n hash in
    sealed (put_units (put_types head (name_entries n)) name n) (new_entries n)
