-- Marks of clusters in the allocation bitmap (exFAT specification, 7.1).
use Rattle.std.specs.Prelude.{Bool, true, cond, List, ℕ, zero, suc, ◌+◌, ◌-◌, ◌/◌, ◌%◌, eqb, get_or, set, drop}
use Rattle.primitives.specs.Bits.{bit_of, put_bit, count_bits}
use Rattle.boot.specs.declared.layout.Layout.{Layout}

-- cluster k's byte in the active FAT's bitmap: byte (k - 2) / 8
unfoldable pub mark_byte : Layout → List ℕ → ℕ → ℕ
mark_byte y d k = get_or d (y.bitmap + (k - 2) / 8) 0

-- cluster k is marked: bit (k - 2) modulo 8 of its byte, lowest first
unfoldable pub marked : Layout → List ℕ → ℕ → Bool
marked y d k = eqb (bit_of (mark_byte y d k) ((k - 2) % 8)) 1

-- the volume with b as byte i of every bitmap
unfoldable pub put_byte : (y : Layout) (d : List ℕ) (i b : ℕ) → List ℕ
put_byte y d i b =
    let first = set d (y.bitmap0 + i) b in
    cond y.two (set first (y.bitmap1 + i) b) first

-- the volume with cluster k marked or unmarked: every bitmap takes the changed byte of the active one, whole
unfoldable pub set_mark : Layout → List ℕ → ℕ → Bool → List ℕ
set_mark y d k on = put_byte y d ((k - 2) / 8) (put_bit (mark_byte y d k) ((k - 2) % 8) on)

-- the n clusters from k marked
unfoldable pub mark_run : (y : Layout) (d : List ℕ) (k n : ℕ) → List ℕ
mark_run y d k zero = d
mark_run y d k (suc n) = mark_run y (set_mark y d k true) (k + 1) n

-- the ones in the first C bits of the active FAT's bitmap
unfoldable pub allocated_count : Layout → List ℕ → ℕ
allocated_count y d = count_bits (drop y.bitmap d) y.count

-- the free count: C less those ones
unfoldable pub free_count : Layout → List ℕ → ℕ
free_count y d = y.count - allocated_count y d
