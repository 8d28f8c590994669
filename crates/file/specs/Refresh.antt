-- The entry set of a file stored anew (Rust: `record`), and the clusters that a new length needs.
use Rattle.std.specs.Prelude.{ℕ, ◌+◌, ◌-◌, ◌*◌, List, [], ◌∷◌, take}
use Rattle.tables.specs.Count.{count}
use Rattle.boot.specs.declared.layout.Layout.{Layout}
use Rattle.boot.specs.Causes.{first_cause, heap_cause, space_cause}
use Rattle.metadata.specs.Usable.{is_usable}
use Rattle.stream.specs.declared.allocation.Allocation.{Allocation}
use Rattle.stream.specs.Stream.{clusters_in}
use Rattle.stream.specs.Bytes.{store_at}
use Rattle.entry_set.specs.declared.stamp.Stamp.{Stamp}
use Rattle.entry_set.specs.Fields.{secondary_count, valid_length, data_length, clusters_for}
use Rattle.entry_set.specs.Put.{refreshed}
use Rattle.directory.specs.Directory.{directory_cause}
use Rattle.directory.specs.Open.{file_record, file_cause}
use Rattle.file.specs.Outcome.{Outcome, carried}

-- the entries of set s
unfoldable pub entries_of : List ℕ → ℕ
entries_of s = 1 + secondary_count s

-- set s with stream b, both lengths, the stamp, attribute 0x20 and the checksum
unfoldable pub recorded : (s : List ℕ) (b : Allocation) (valid len : ℕ) (t : Stamp) → List ℕ
recorded s b valid len t = refreshed s (entries_of s) b.first b.no_fat_chain valid len t

-- and stored at a slot of the directory whose clusters are ks
unfoldable pub stored : (y : Layout) (d ks : List ℕ) (slot : ℕ) (s : List ℕ) (b : Allocation) (valid len : ℕ) (t : Stamp) → List ℕ
stored y d ks slot s b valid len t =
    store_at y d ks (32 * slot) (take (32 * entries_of s) (recorded s b valid len t))

-- the entry of the file of set s refreshed, and nothing else
unfoldable pub refreshed_only : (y : Layout) (d : List ℕ) (a : Allocation) (slot : ℕ) (s : List ℕ) (t : Stamp) (hint : ℕ) → Outcome
refreshed_only y d a slot s t hint =
    carried 0 hint (stored y d (clusters_in y d a) slot s (file_record y d s) (valid_length s) (data_length s) t)

-- the clusters that stream b must add for a length
unfoldable pub missing : Layout → Allocation → ℕ → ℕ
missing y b len = clusters_for y.size len - b.count

-- 7: they are more than the usable ones
unfoldable pub length_cause : (y : Layout) (d m : List ℕ) (b : Allocation) (len : ℕ) → ℕ
length_cause y d m b len = space_cause (missing y b len) (count (is_usable y d m) 2 y.count)

-- what refuses any call on the file at a slot of directory a, in this order: the hint, the directory's, 10, 11, the stream's
unfoldable pub open_cause : (y : Layout) (d m : List ℕ) (a : Allocation) (slot hint : ℕ) → ℕ
open_cause y d m a slot hint = first_cause (heap_cause y.count hint ∷ directory_cause y d a ∷ file_cause y d m a slot ∷ [])
