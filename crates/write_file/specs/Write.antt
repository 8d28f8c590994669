-- Write (01, "Write"; Rust: `write_into`).
use Rattle.std.specs.Prelude.{ℕ, ◌+◌, ◌-◌, ◌^◌, max, cond, List, [], ◌∷◌, length, replicate, ◌==◌, nat_lt}
use Rattle.boot.specs.declared.geometry.Geometry.{Geometry}
use Rattle.boot.specs.declared.layout.Layout.{Layout}
use Rattle.boot.specs.Geometry.{root_cluster}
use Rattle.boot.specs.Layout.{layout_of}
use Rattle.boot.specs.Causes.{first_cause, admit_cause}
use Rattle.stream.specs.declared.allocation.Allocation.{Allocation}
use Rattle.stream.specs.Bytes.{store_at}
use Rattle.entry_set.specs.declared.stamp.Stamp.{Stamp}
use Rattle.entry_set.specs.Fields.{valid_length, data_length}
use Rattle.write_extend.specs.Extend.{extend_in}
use Rattle.directory.specs.Directory.{root_record}
use Rattle.stream.specs.Stream.{clusters_in}
use Rattle.file.specs.Outcome.{Outcome, refuse, carried}
use Rattle.directory.specs.Open.{file_record, set_in}
use Rattle.file.specs.Refresh.{stored, refreshed_only, missing, length_cause, open_cause}

-- 8: offset plus data length above 2^64 - 1
unfoldable pub end_cause : (offset n : ℕ) → ℕ
end_cause offset n = cond (nat_lt (offset + n) (2 ^ 64)) 0 8

-- what refuses n bytes at an offset, n not 0: 8, then 7
unfoldable pub data_cause : (y : Layout) (d m s : List ℕ) (offset n : ℕ) → ℕ
data_cause y d m s offset n =
    first_cause (end_cause offset n ∷ length_cause y d m (file_record y d s) (max (data_length s) (offset + n)) ∷ [])

-- what refuses a write, in this order: the hint, the directory's, 10, 11, the stream's; with data 8, then 7
unfoldable pub write_cause : (y : Layout) (d m : List ℕ) (a : Allocation) (slot offset n hint : ℕ) → ℕ
write_cause y d m a slot offset n hint =
    first_cause (open_cause y d m a slot hint ∷ cond (n == 0) 0 (data_cause y d m (set_in y d a slot) offset n) ∷ [])

-- data in a stream: zeros from valid up to the offset where it passes valid, then the data
unfoldable pub with_data : (y : Layout) (d js : List ℕ) (valid offset : ℕ) (bs : List ℕ) → List ℕ
with_data y d js valid offset bs = store_at y (store_at y d js valid (replicate (offset - valid) 0)) js offset bs

-- data written to the file of set s: grow, zero, store, then the entry set
unfoldable pub written : (y : Layout) (d m : List ℕ) (a : Allocation) (slot : ℕ) (s : List ℕ) (offset : ℕ) (bs : List ℕ) (t : Stamp) (hint : ℕ) → Outcome
written y d m a slot s offset bs t hint =
    let len = max (data_length s) (offset + length bs) in
    let o = extend_in y d m (file_record y d s) (missing y (file_record y d s) len) hint in
    let b = o.answer.allocation in
    carried 0 o.answer.hint
    (stored y (with_data y o.volume (clusters_in y o.volume b) (valid_length s) offset bs) (clusters_in y d a) slot s b
    (max (valid_length s) (offset + length bs)) len t)

-- data written to the file at a slot of directory a; empty data only refreshes the entry
unfoldable pub write_in : (y : Layout) (d m : List ℕ) (a : Allocation) (slot offset : ℕ) (bs : List ℕ) (t : Stamp) (hint : ℕ) → Outcome
write_in y d m a slot offset bs t hint =
    let number = write_cause y d m a slot offset (length bs) hint in
    let s = set_in y d a slot in
    cond (number == 0)
    (cond (length bs == 0) (refreshed_only y d a slot s t hint) (written y d m a slot s offset bs t hint))
    (refuse number hint d)

-- data written to a file of the root
unfoldable pub write_into : (g : Geometry) (d m : List ℕ) (slot offset : ℕ) (bs : List ℕ) (t : Stamp) (hint : ℕ) → Outcome
write_into g d m slot offset bs t hint =
    let y = layout_of g (length d) in
    cond (admit_cause g d m == 0) (write_in y d m (root_record y d (root_cluster g)) slot offset bs t hint) (refuse (admit_cause g d m) hint d)
