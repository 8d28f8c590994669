-- A file opened by its slot: its record, and what refuses it (Rust: `stream_allocation`, `open_for_write`).
use Rattle.std.specs.Prelude.{cond, List, [], ◌∷◌, ◌++◌, ℕ, ◌+◌, ◌-◌, eqb, take, replicate}
use Rattle.tables.specs.Lists.{last_or}
use Rattle.boot.specs.declared.layout.Layout.{Layout}
use Rattle.boot.specs.Causes.{first_cause}
use Rattle.metadata.specs.Fat.{fat_entry}
use Rattle.stream.specs.declared.allocation.Allocation.{Allocation}
use Rattle.stream.specs.Chain.{read_chain}
use Rattle.stream.specs.Stream.{number_of, stream_of, clusters_of, empty, system_cause, clusters_in}
use Rattle.entry_set.specs.Fields.{is_directory, no_fat_chain, first_cluster, data_length, clusters_for}
use Rattle.stream.specs.Bytes.{bytes_in}
use Rattle.directory.specs.Entries.{set_at, is_sound}

-- the record of the stream of set s: the clusters that its length takes, from its first cluster; a chain's last is the walk's
unfoldable pub file_record : (y : Layout) (d s : List ℕ) → Allocation
file_record y d s =
    let first = first_cluster s in
    let n = clusters_for y.size (data_length s) in
    cond (eqb n 0) empty
    (record {
      first = first;
      last = cond (no_fat_chain s) (first + n - 1) (last_or 0 (clusters_of (read_chain y.count (fat_entry y d) first)));
      count = n;
      no_fat_chain = no_fat_chain s;
    })

-- 10: no sound file entry at the slot
unfoldable pub entry_cause : Layout → List ℕ → ℕ → ℕ
entry_cause y bs slot = cond (is_sound y.count y.size bs slot) 0 10

-- 11: the entry has attribute 0x10
unfoldable pub directory_attribute_cause : List ℕ → ℕ
directory_attribute_cause s = cond (is_directory s) 11 0

-- what refuses a stream: 3 or 4 from a chain's walk, 5 for another count, 6; then 9 for a system cluster among its clusters
unfoldable pub stream_cause : (y : Layout) (d m : List ℕ) (a : Allocation) → ℕ
stream_cause y d m a = first_cause (number_of (stream_of y d a) ∷ system_cause m (clusters_in y d a) ∷ [])

-- the set at a slot of directory a
unfoldable pub set_in : Layout → List ℕ → Allocation → ℕ → List ℕ
set_in y d a slot = set_at (bytes_in y d a) slot

-- what refuses the file at a slot of directory a: 10, 11, the stream's
unfoldable pub file_cause : (y : Layout) (d m : List ℕ) (a : Allocation) (slot : ℕ) → ℕ
file_cause y d m a slot =
    let s = set_in y d a slot in
    first_cause (entry_cause y (bytes_in y d a) slot ∷ directory_attribute_cause s ∷ stream_cause y d m (file_record y d s) ∷ [])

-- a stream's bytes as a file shows them (01: its tape): its stored bytes below valid, and 0 from valid to the length
unfoldable pub shown : (bs : List ℕ) (valid len : ℕ) → List ℕ
shown bs valid len = take valid bs ++ replicate (len - valid) 0
