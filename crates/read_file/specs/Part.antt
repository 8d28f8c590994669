-- A part of a file's bytes, as it lies in the volume or in the lent slice of zeros (02, 2027-01).
use Rattle.std.specs.Prelude.{◌≡◌, false, true, cond, List, ℕ, ◌+◌, ◌-◌, ◌*◌, ◌/◌, ◌%◌, ◌≤◌, min, ltb, get_or, take, drop}
use Rattle.boot.specs.declared.layout.Layout.{Layout}
use Rattle.boot.specs.Layout.{cluster_at}
use Rattle.stream.specs.Pieces.{leading}
use Rattle.read_file.specs.declared.part.Part.{Part}

-- "an empty part"
abbrev pub no_part : Part
no_part = record { zeros = false; start = 0; len = 0 }

-- the part of the volume from an offset below valid on, of a file with clusters ks: up to valid, or to the end of the clusters whose
-- numbers rise by one from the offset's on, whichever comes first
unfoldable pub stored_part : (y : Layout) (ks : List ℕ) (valid offset : ℕ) → Part
stored_part y ks valid offset =
    let js = drop (offset / y.size) ks in
    let at = offset % y.size in
    record { zeros = false; start = cluster_at y (get_or js 0 0) + at; len = min (valid - offset) (leading js * y.size - at) }

-- the part of so many zeros from an offset below the length on: the first ones, as many as both allow
unfoldable pub zero_part : (len zeros offset : ℕ) → Part
zero_part len zeros offset = record { zeros = true; start = 0; len = min (len - offset) zeros }

-- the part from an offset on: of the volume below valid, of the zeros from valid to the length; at or past the length it is empty
unfoldable pub part_in : (y : Layout) (ks : List ℕ) (valid len zeros offset : ℕ) → Part
part_in y ks valid len zeros offset =
    cond (ltb offset valid) (stored_part y ks valid offset) (cond (ltb offset len) (zero_part len zeros offset) no_part)

-- the bytes of a part of volume d or of zeros z
unfoldable pub part_bytes : (d z : List ℕ) → Part → List ℕ
part_bytes d z p = take p.len (drop p.start (cond p.zeros z d))

-- and where it lies, given where volume and zeros begin: block and offset of a pointer
unfoldable pub part_place : (vol zeros : ℕ × ℕ) → Part → ℕ × ℕ
part_place vol zeros p = let q = cond p.zeros zeros vol in (q.0, q.1 + p.start)

-- a part lies inside the slice that it is of, given the lengths of volume and zeros
pub record Inside (vol zeros : ℕ) (p : Part) : Type 0 where
  pub from_volume : p.zeros ≡ false → p.start + p.len ≤ vol
  pub from_zeros : p.zeros ≡ true → p.start + p.len ≤ zeros
