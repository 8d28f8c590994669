-- New file (01, "New file"; Rust: `make_in`, no directory).
use Rattle.std.specs.Prelude.{ℕ, ◌*◌, cond, List, [], ◌∷◌, length, take, ◌==◌}
use Rattle.tables.specs.Count.{count}
use Rattle.boot.specs.declared.geometry.Geometry.{Geometry}
use Rattle.boot.specs.declared.layout.Layout.{Layout}
use Rattle.boot.specs.Geometry.{root_cluster}
use Rattle.boot.specs.Layout.{layout_of}
use Rattle.boot.specs.Causes.{first_cause, heap_cause, space_cause, admit_cause}
use Rattle.metadata.specs.Usable.{is_usable}
use Rattle.stream.specs.declared.allocation.Allocation.{Allocation}
use Rattle.stream.specs.Bytes.{store_at, bytes_in}
use Rattle.entry_set.specs.declared.stamp.Stamps.{Stamps}
use Rattle.entry_set.specs.Name.{name_cause, attribute_cause}
use Rattle.entry_set.specs.New.{new_entries, new_set}
use Rattle.directory.specs.Directory.{root_record, directory_cause}
use Rattle.stream.specs.Stream.{clusters_in}
use Rattle.directory.specs.Room.{free_run, slot_of, growth}
use Rattle.file.specs.Outcome.{Outcome, refuse, carried}
use Rattle.write_dir.specs.Place.{GrownDirectory, grow_by}

-- the zeroed clusters that directory a must add for the set of a name of n units
unfoldable pub new_growth : Layout → List ℕ → Allocation → ℕ → ℕ
new_growth y d a n = growth y.size (bytes_in y d a) (new_entries n)

-- what refuses a new file in directory a, in this order: the hint, the directory's, 12, 13, 7
unfoldable pub new_file_cause : (y : Layout) (d m : List ℕ) (a : Allocation) (name : List ℕ) (attributes hint : ℕ) → ℕ
new_file_cause y d m a name attributes hint =
    first_cause
    (heap_cause y.count hint
    ∷ directory_cause y d a
    ∷ name_cause name
    ∷ attribute_cause attributes
    ∷ space_cause (new_growth y d a (length name)) (count (is_usable y d m) 2 y.count)
    ∷ [])

-- the set stored at the lowest slot that has room in a directory
unfoldable pub placed : Layout → GrownDirectory → ℕ → List ℕ → Outcome
placed y w n s =
    let slot = slot_of (free_run (bytes_in y w.volume w.directory) n) in
    carried slot w.hint (store_at y w.volume (clusters_in y w.volume w.directory) (32 * slot) (take (32 * n) s))

-- a new file in directory a
unfoldable pub new_file_in : (y : Layout) (d m : List ℕ) (a : Allocation) (name : List ℕ) (attributes hash : ℕ) (t : Stamps) (hint : ℕ) → Outcome
new_file_in y d m a name attributes hash t hint =
    let number = new_file_cause y d m a name attributes hint in
    cond (number == 0)
    (placed y (grow_by y m (new_growth y d a (length name)) (record { volume = d; directory = a; hint = hint })) (new_entries (length name))
    (new_set name attributes hash t))
    (refuse number hint d)

-- a new file in the root
unfoldable pub new_file : (g : Geometry) (d m name : List ℕ) (attributes hash : ℕ) (t : Stamps) (hint : ℕ) → Outcome
new_file g d m name attributes hash t hint =
    let y = layout_of g (length d) in
    cond (admit_cause g d m == 0) (new_file_in y d m (root_record y d (root_cluster g)) name attributes hash t hint) (refuse (admit_cause g d m) hint d)
