-- Reading a file back, two calls: the number alone, and the part alone (02, 2027-01).
use Rattle.std.specs.Prelude.{not, ◌&&◌, cond, List, [], ◌∷◌, ℕ, eqb, length}
use Rattle.tables.specs.Lists.{every}
use Rattle.boot.specs.declared.geometry.Geometry.{Geometry}
use Rattle.boot.specs.declared.layout.Layout.{Layout}
use Rattle.boot.specs.Geometry.{root_cluster}
use Rattle.boot.specs.Layout.{layout_of}
use Rattle.boot.specs.Causes.{first_cause, admit_cause}
use Rattle.stream.specs.declared.allocation.Allocation.{Allocation}
use Rattle.stream.specs.Stream.{clusters_in}
use Rattle.entry_set.specs.Fields.{valid_length, data_length}
use Rattle.directory.specs.Directory.{root_record, directory_cause}
use Rattle.directory.specs.Open.{file_record, set_in, file_cause}
use Rattle.read_file.specs.declared.part.Part.{Part}
use Rattle.read_file.specs.Part.{no_part, part_in}

-- 15: the zero slice is empty or holds another byte
unfoldable pub zero_cause : List ℕ → ℕ
zero_cause z = cond (not (eqb (length z) 0) && every (λ b. eqb b 0) z) 0 15

-- what refuses a read of the file at a slot of directory a, in this order: 15, the directory's, 10, 11, the stream's
unfoldable pub read_cause : (y : Layout) (d m : List ℕ) (a : Allocation) (z : List ℕ) (slot : ℕ) → ℕ
read_cause y d m a z slot = first_cause (zero_cause z ∷ directory_cause y d a ∷ file_cause y d m a slot ∷ [])

-- the part of the file of set s
unfoldable pub file_part : (y : Layout) (d s : List ℕ) (zeros offset : ℕ) → Part
file_part y d s zeros offset = part_in y (clusters_in y d (file_record y d s)) (valid_length s) (data_length s) zeros offset

-- the part of the file at a slot of directory a; refused, an empty one
unfoldable pub read_in : (y : Layout) (d m : List ℕ) (a : Allocation) (z : List ℕ) (slot offset : ℕ) → Part
read_in y d m a z slot offset = cond (eqb (read_cause y d m a z slot) 0) (file_part y d (set_in y d a slot) (length z) offset) no_part

-- the number of a read of a file of the root, which no offset changes: what refuses any call, then the read's own causes
unfoldable pub read_number : (g : Geometry) (d m z : List ℕ) (slot : ℕ) → ℕ
read_number g d m z slot =
    let y = layout_of g (length d) in
    first_cause (admit_cause g d m ∷ read_cause y d m (root_record y d (root_cluster g)) z slot ∷ [])

-- and the part; refused, an empty one
unfoldable pub read_part : (g : Geometry) (d m z : List ℕ) (slot offset : ℕ) → Part
read_part g d m z slot offset =
    let y = layout_of g (length d) in
    cond (eqb (admit_cause g d m) 0) (read_in y d m (root_record y d (root_cluster g)) z slot offset) no_part
