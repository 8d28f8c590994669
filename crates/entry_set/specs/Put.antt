-- Fields put into a set that is held in 608 bytes (01: "A set is copied into a 608-byte array before anything is stored").
use Rattle.std.specs.Prelude.{Bool, cond, List, ℕ, zero, suc, ◌*◌, get_or, set}
use Rattle.primitives.specs.Bits.{set_bit, clear_bit}
use Rattle.primitives.specs.Checksum.{checksum}
use Rattle.primitives.specs.Words.{put_le}
use Rattle.entry_set.specs.declared.stamp.Stamp.{Stamp}

-- a stamp with an increment: 4 bytes, the increment and the offset, each at its place
abbrev pub put_stamp : (value increment offset : ℕ) → List ℕ → Stamp → List ℕ
put_stamp value increment offset s t = set (set (put_le 4 s value t.value) increment t.increment) offset t.offset

-- the created stamp: 4 bytes at 8, increment at 20, offset at 22
unfoldable pub put_created : List ℕ → Stamp → List ℕ
put_created s t = put_stamp 8 20 22 s t

-- the modified stamp: at 12, 21 and 23
unfoldable pub put_modified : List ℕ → Stamp → List ℕ
put_modified s t = put_stamp 12 21 23 s t

-- the accessed stamp: at 16 and 24, no increment
unfoldable pub put_accessed : List ℕ → Stamp → List ℕ
put_accessed s t = set (put_le 4 s 16 t.value) 24 t.offset

-- the stream: the flags byte whole (1, or 3 for a run), valid length, first cluster, length (Rust: `set_stream`)
unfoldable pub put_stream : (s : List ℕ) (first : ℕ) (run : Bool) (valid len : ℕ) → List ℕ
put_stream s first run valid len = put_le 8 (put_le 4 (put_le 8 (set s 33 (cond run 3 1)) 40 valid) 52 first) 56 len

-- attribute 0x20 (Archive) set
unfoldable pub archived : List ℕ → List ℕ
archived s = set s 4 (set_bit (get_or s 4 0) 5)

-- the checksum of the set's n entries, stored in it (Rust: `seal`)
unfoldable pub sealed : List ℕ → ℕ → List ℕ
sealed s n = put_le 2 s 2 (checksum s (32 * n))

-- what write and set length make of a set of n entries (Rust: `record`): stream, both stamps, attribute, and last the checksum
unfoldable pub refreshed : (s : List ℕ) (n first : ℕ) (run : Bool) (valid len : ℕ) (t : Stamp) → List ℕ
refreshed s n first run valid len t = sealed (archived (put_accessed (put_modified (put_stream s first run valid len) t) t)) n

-- bit 0x80 (InUse) of the first n entries cleared (Rust: `unset`)
unfoldable pub cleared : List ℕ → ℕ → List ℕ
cleared s zero = s
cleared s (suc n) = set (cleared s n) (32 * n) (clear_bit (get_or s (32 * n) 0) 7)
