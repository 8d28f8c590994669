-- Set length (01, "Set length"; Rust: `set_length`).
use Rattle.std.specs.Prelude.{cond, List, [], ◌∷◌, ℕ, ◌-◌, ◌*◌, min, eqb, ltb, length, take, replicate}
use Rattle.boot.specs.declared.geometry.Geometry.{Geometry}
use Rattle.boot.specs.declared.layout.Layout.{Layout}
use Rattle.boot.specs.Geometry.{root_cluster}
use Rattle.boot.specs.Layout.{layout_of}
use Rattle.boot.specs.Causes.{first_cause, admit_cause}
use Rattle.stream.specs.declared.allocation.Allocation.{Allocation}
use Rattle.stream.specs.Bytes.{store_at}
use Rattle.entry_set.specs.declared.stamp.Stamp.{Stamp}
use Rattle.entry_set.specs.Fields.{valid_length, data_length, clusters_for}
use Rattle.write_extend.specs.Extend.{extend_in}
use Rattle.write_shrink.specs.Shrink.{kept_record, shrink_in}
use Rattle.directory.specs.Directory.{root_record}
use Rattle.stream.specs.Stream.{clusters_in}
use Rattle.file.specs.Outcome.{Outcome, refuse, carried}
use Rattle.directory.specs.Open.{file_record, set_in}
use Rattle.file.specs.Refresh.{stored, missing, length_cause, open_cause, refreshed_only}

-- what refuses a new length, in this order: the hint, the directory's, 10, 11, the stream's, 7
unfoldable pub set_length_cause : (y : Layout) (d m : List ℕ) (a : Allocation) (slot len hint : ℕ) → ℕ
set_length_cause y d m a slot len hint =
    first_cause (open_cause y d m a slot hint ∷ length_cause y d m (file_record y d (set_in y d a slot)) len ∷ [])

-- shorter: the entry set with valid capped and the kept clusters, a run where their numbers rise by one; then the others freed
unfoldable pub shorter : (y : Layout) (d m : List ℕ) (a : Allocation) (slot : ℕ) (s : List ℕ) (len : ℕ) (t : Stamp) (hint : ℕ) → Outcome
shorter y d m a slot s len t hint =
    let b = file_record y d s in
    let keep = clusters_for y.size len in
    let e = stored y d (clusters_in y d a) slot s (kept_record b (take keep (clusters_in y d b))) (min (valid_length s) len) len t in
    carried 0 hint (shrink_in y e m b keep hint).volume

-- where the zeros of a longer file end: valid rounded up to whole clusters, or the new length if that is smaller
unfoldable pub zero_end : (size valid len : ℕ) → ℕ
zero_end size valid len = min (clusters_for size valid * size) len

-- longer: grow, zero from valid on, then the entry set with valid unchanged
unfoldable pub longer_file : (y : Layout) (d m : List ℕ) (a : Allocation) (slot : ℕ) (s : List ℕ) (len : ℕ) (t : Stamp) (hint : ℕ) → Outcome
longer_file y d m a slot s len t hint =
    let valid = valid_length s in
    let o = extend_in y d m (file_record y d s) (missing y (file_record y d s) len) hint in
    let b = o.answer.allocation in
    carried 0 o.answer.hint
    (stored y (store_at y o.volume (clusters_in y o.volume b) valid (replicate (zero_end y.size valid len - valid) 0)) (clusters_in y d a) slot s b valid
    len t)

-- by the old length: shorter, equal (the entry is refreshed, and nothing else), longer
unfoldable pub resized : (y : Layout) (d m : List ℕ) (a : Allocation) (slot : ℕ) (s : List ℕ) (len : ℕ) (t : Stamp) (hint : ℕ) → Outcome
resized y d m a slot s len t hint =
    cond (ltb len (data_length s)) (shorter y d m a slot s len t hint)
    (cond (eqb len (data_length s)) (refreshed_only y d a slot s t hint) (longer_file y d m a slot s len t hint))

-- a new length for the file at a slot of directory a
unfoldable pub set_length_in : (y : Layout) (d m : List ℕ) (a : Allocation) (slot len : ℕ) (t : Stamp) (hint : ℕ) → Outcome
set_length_in y d m a slot len t hint =
    let number = set_length_cause y d m a slot len hint in
    cond (eqb number 0) (resized y d m a slot (set_in y d a slot) len t hint) (refuse number hint d)

-- a new length for a file of the root
unfoldable pub set_length : (g : Geometry) (d m : List ℕ) (slot len : ℕ) (t : Stamp) (hint : ℕ) → Outcome
set_length g d m slot len t hint =
    let y = layout_of g (length d) in
    cond (eqb (admit_cause g d m) 0) (set_length_in y d m (root_record y d (root_cluster g)) slot len t hint) (refuse (admit_cause g d m) hint d)
