-- Reading a file back (02, 2027-01): a second table beside that of T1 to T12. proofs/ReadRows.antt: every row agrees.
use Rattle.std.specs.Prelude.{Bool, true, false, ◌&&◌, List, [], ◌∷◌, ◌++◌, ℕ, eqb, replicate}
use Rattle.read_file.specs.declared.part.Part.{Part}
use Rattle.read_file.specs.Part.{no_part}
use Rattle.read_file.specs.Read.{read_number, read_part}
use Rattle.trials.specs.Volume.{Volume, geometry, system, trial_bytes, linked}
use Rattle.trials.specs.File.{earlier, trial_set}
use Rattle.trials.specs.Trial.{same_flag}

-- the volume of every row: a file on the chain 4, 5, 9, length 1,400, valid length 1,100, its set at slot 0 of the root
unfoldable pub chained : Volume
chained = record { mark0 = 0x8F; mark1 = 0x00; links = linked (4 ∷ 5 ∷ 9 ∷ []); heap = trial_set 0xC2E2 0x01 earlier 1 1100 1400 }

-- one row of the table: the zeros, slot and offset of a read, and what is expected of its two calls, the number and the part
pub record Read : Type 0 where
  pub zeros : List ℕ
  pub slot : ℕ
  pub offset : ℕ
  pub number : ℕ
  pub part : Part

-- a row
abbrev pub read : List ℕ → ℕ → ℕ → ℕ → Part → Read
read z slot offset number p = record { zeros = z; slot = slot; offset = offset; number = number; part = p }

-- a part of the volume, by its first byte and its length
abbrev pub of_volume : ℕ → ℕ → Part
of_volume start len = record { zeros = false; start = start; len = len }

-- the first bytes of the zeros
abbrev pub of_zeros : ℕ → Part
of_zeros len = record { zeros = true; start = 0; len = len }

-- what the definitions say of the two calls
unfoldable pub said_of : Read → ℕ × Part
said_of r =
    let d = trial_bytes chained in
    (read_number geometry d system r.zeros r.slot, read_part geometry d system r.zeros r.slot r.offset)

-- what is expected of them
abbrev pub wanted_of : Read → ℕ × Part
wanted_of r = (r.number, r.part)

-- two parts are the same
unfoldable pub same_part : Part → Part → Bool
same_part p q = same_flag p.zeros q.zeros && (eqb p.start q.start && eqb p.len q.len)

-- number and part are the same
unfoldable pub same_read : ℕ × Part → ℕ × Part → Bool
same_read a b = eqb a.0 b.0 && same_part a.1 b.1

-- the definitions say what is expected
unfoldable pub read_agrees : Read → Bool
read_agrees r = same_read (said_of r) (wanted_of r)

-- all rows of a table
unfoldable pub all_reads_agree : List Read → Bool
all_reads_agree [] = true
all_reads_agree (r ∷ rs) = read_agrees r && all_reads_agree rs

-- a zero slice of 100 bytes
unfoldable pub hundred : List ℕ
hundred = replicate 100 0

-- the same with a 1 as its last byte
unfoldable pub spoiled : List ℕ
spoiled = replicate 99 0 ++ (1 ∷ [])

-- R1 offset 100: byte 100 of cluster 4 to the end of 5, which follows 4 as 9 does not follow 5. Slip: a part that ends with its cluster
unfoldable pub R1 : Read
R1 = read hundred 0 100 0 (of_volume 17508 924)

-- R2 offset 1,024: cluster 9, up to valid
unfoldable pub R2 : Read
R2 = read hundred 0 1024 0 (of_volume 19968 76)

-- R3 offset 1,100: all 100 zeros, fewer than the 300 bytes that are left
unfoldable pub R3 : Read
R3 = read hundred 0 1100 0 (of_zeros 100)

-- R4 offset 1,350: zeros up to the length
unfoldable pub R4 : Read
R4 = read hundred 0 1350 0 (of_zeros 50)

-- R5 offset 1,400, the length: empty, and no refusal
unfoldable pub R5 : Read
R5 = read hundred 0 1400 0 no_part

-- R6 the last offset there is: the same
unfoldable pub R6 : Read
R6 = read hundred 0 0xFFFFFFFFFFFFFFFF 0 no_part

-- R7 no zeros: 15, though the offset needs none
unfoldable pub R7 : Read
R7 = read [] 0 100 15 no_part

-- R8 another byte among the zeros: 15
unfoldable pub R8 : Read
R8 = read spoiled 0 100 15 no_part

-- R9 slot 1, the set's second entry: 10
unfoldable pub R9 : Read
R9 = read hundred 1 100 10 no_part

-- the table
unfoldable pub reads : List Read
reads = R1 ∷ R2 ∷ R3 ∷ R4 ∷ R5 ∷ R6 ∷ R7 ∷ R8 ∷ R9 ∷ []
