-- Remove (01, "Remove"; Rust: `remove`).
use Rattle.std.specs.Prelude.{cond, List, ℕ, ◌*◌, eqb, length, take}
use Rattle.boot.specs.declared.geometry.Geometry.{Geometry}
use Rattle.boot.specs.declared.layout.Layout.{Layout}
use Rattle.boot.specs.Geometry.{root_cluster}
use Rattle.boot.specs.Layout.{layout_of}
use Rattle.boot.specs.Causes.{admit_cause}
use Rattle.stream.specs.declared.allocation.Allocation.{Allocation}
use Rattle.stream.specs.Bytes.{store_at}
use Rattle.entry_set.specs.Put.{cleared}
use Rattle.write_shrink.specs.Shrink.{shrink_in}
use Rattle.directory.specs.Directory.{root_record}
use Rattle.stream.specs.Stream.{clusters_in}
use Rattle.file.specs.Outcome.{Outcome, refuse, carried}
use Rattle.directory.specs.Open.{file_record, set_in}
use Rattle.file.specs.Refresh.{entries_of, open_cause}

-- bit 0x80 of each entry of set s cleared at a slot of the directory whose clusters are ks
unfoldable pub unlinked : (y : Layout) (d ks : List ℕ) (slot : ℕ) (s : List ℕ) → List ℕ
unlinked y d ks slot s = store_at y d ks (32 * slot) (take (32 * entries_of s) (cleared s (entries_of s)))

-- the file at a slot of directory a removed: its entries cleared, then its stream freed
unfoldable pub remove_in : (y : Layout) (d m : List ℕ) (a : Allocation) (slot hint : ℕ) → Outcome
remove_in y d m a slot hint =
    let number = open_cause y d m a slot hint in
    let s = set_in y d a slot in
    cond (eqb number 0) (carried 0 hint (shrink_in y (unlinked y d (clusters_in y d a) slot s) m (file_record y d s) 0 hint).volume)
    (refuse number hint d)

-- a file of the root removed
unfoldable pub remove : (g : Geometry) (d m : List ℕ) (slot hint : ℕ) → Outcome
remove g d m slot hint =
    let y = layout_of g (length d) in
    cond (eqb (admit_cause g d m) 0) (remove_in y d m (root_record y d (root_cluster g)) slot hint) (refuse (admit_cause g d m) hint d)
