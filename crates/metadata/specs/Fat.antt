-- Entries of the FAT (exFAT specification, 4.1).
use Rattle.std.specs.Prelude.{cond, List, ℕ, ◌+◌, ◌*◌}
use Rattle.primitives.specs.Words.{get_le, put_le}
use Rattle.boot.specs.declared.layout.Layout.{Layout}

-- ends a chain: 0xFFFFFFFF
abbrev pub END : ℕ
END = 4294967295

-- a bad cluster: 0xFFFFFFF7
abbrev pub BAD : ℕ
BAD = 4294967287

-- entry k of the active FAT
unfoldable pub fat_entry : Layout → List ℕ → ℕ → ℕ
fat_entry y d k = get_le 4 d (y.fat + 4 * k)

-- the volume with v as entry k of every FAT
unfoldable pub set_fat : (y : Layout) (d : List ℕ) (k v : ℕ) → List ℕ
set_fat y d k v =
    let first = put_le 4 d (y.fat0 + 4 * k) v in
    cond y.two (put_le 4 first (y.fat1 + 4 * k) v) first
