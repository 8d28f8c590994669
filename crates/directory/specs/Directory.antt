-- A directory is a stream, given by its record; the root is the chain from the root cluster (01, "Entries and files").
use Rattle.std.specs.Prelude.{false, not, cond, List, [], ◌∷◌, ℕ, length}
use Rattle.tables.specs.Lists.{every, last_or}
use Rattle.boot.specs.declared.layout.Layout.{Layout}
use Rattle.boot.specs.Layout.{is_bitmap_cluster}
use Rattle.boot.specs.Causes.{first_cause}
use Rattle.metadata.specs.Fat.{fat_entry}
use Rattle.stream.specs.declared.allocation.Allocation.{Allocation}
use Rattle.stream.specs.Chain.{Clusters, listed, refused, read_chain}
use Rattle.stream.specs.Stream.{number_of, stream_of, clusters_of}

-- the record of a chain that is walked whole; of one that is refused, a record that is refused with the same number
unfoldable pub chain_record : ℕ → Clusters → Allocation
chain_record first (listed ks) = record { first = first; last = last_or 0 ks; count = length ks; no_fat_chain = false }
chain_record first (refused n) = record { first = first; last = 0; count = 1; no_fat_chain = false }

-- the root as a record (Rust: `root_dir`)
unfoldable pub root_record : Layout → List ℕ → ℕ → Allocation
root_record y d root = chain_record root (read_chain y.count (fat_entry y d) root)

-- 9: a bitmap cluster among those of a list
unfoldable pub bitmap_cause : Layout → List ℕ → ℕ
bitmap_cause y ks = cond (every (λ k. not (is_bitmap_cluster y k)) ks) 0 9

-- what refuses a directory, in this order: its record's causes (for the root 2, 3, 4 and 6), then 9
unfoldable pub directory_cause : Layout → List ℕ → Allocation → ℕ
directory_cause y d a = first_cause (number_of (stream_of y d a) ∷ bitmap_cause y (clusters_of (stream_of y d a)) ∷ [])
