-- A consistent volume (01: tidy), clause by clause.
use Rattle.std.specs.Prelude.{◌≡◌, ◌≢◌, Bool, true, false, List, ℕ, ◌+◌, ◌≤◌, ◌<◌, length}
use Rattle.tables.specs.Lists.{Mem}
use Rattle.boot.specs.declared.geometry.Geometry.{Geometry}
use Rattle.boot.specs.declared.layout.Layout.{Layout}
use Rattle.boot.specs.Geometry.{root_cluster}
use Rattle.boot.specs.Limits.{limits}
use Rattle.boot.specs.Layout.{layout_of}
use Rattle.stream.specs.declared.allocation.Allocation.{Allocation}
use Rattle.directory.specs.Directory.{root_record, directory_cause}
use Rattle.stream.specs.Stream.{clusters_in}
use Rattle.stream.specs.Bytes.{bytes_in}
use Rattle.directory.specs.Entries.{type_at, in_use, is_file, entries_at, set_at, is_sound}
use Rattle.directory.specs.Open.{file_record, stream_cause}

-- the places of the volume's parts
unfoldable pub lay : Geometry → List ℕ → Layout
lay g d = layout_of g (length d)

-- the root as a record
unfoldable pub root : Geometry → List ℕ → Allocation
root g d = root_record (lay g d) d (root_cluster g)

-- the root's clusters, and its bytes
unfoldable pub root_clusters : Geometry → List ℕ → List ℕ
root_clusters g d = clusters_in (lay g d) d (root g d)

unfoldable pub root_bytes : Geometry → List ℕ → List ℕ
root_bytes g d = bytes_in (lay g d) d (root g d)

-- slot i of the root has an in-use 0x85 entry before the first type 0
unfoldable pub file_at : Geometry → List ℕ → ℕ → Bool
file_at g d i = is_file (root_bytes g d) i

-- its set
unfoldable pub set_of : Geometry → List ℕ → ℕ → List ℕ
set_of g d i = set_at (root_bytes g d) i

-- its stream, as a record
unfoldable pub stream_at : Geometry → List ℕ → ℕ → Allocation
stream_at g d i = file_record (lay g d) d (set_of g d i)

-- the clusters of its stream
unfoldable pub file_clusters : Geometry → List ℕ → ℕ → List ℕ
file_clusters g d i = clusters_in (lay g d) d (stream_at g d i)

-- and its bytes, to the end of the last cluster
unfoldable pub file_bytes : Geometry → List ℕ → ℕ → List ℕ
file_bytes g d i = bytes_in (lay g d) d (stream_at g d i)

pub record Consistent (g : Geometry) (m d : List ℕ) : Type 0 where
  -- the root reads without refusal: number 1, then its own
  pub limits_hold : limits g (length d) m ≡ true
  pub root_reads : directory_cause (lay g d) d (root g d) ≡ 0
  -- each in-use 0x85 entry before the first type 0 is sound (directories counted too) ..
  pub sound : (i : ℕ) → file_at g d i ≡ true → is_sound (lay g d).count (lay g d).size (root_bytes g d) i ≡ true
  -- .. with a readable stream, which shares no cluster with the system map
  pub streams_read : (i : ℕ) → file_at g d i ≡ true → stream_cause (lay g d) d m (stream_at g d i) ≡ 0
  -- those streams share no cluster with each other ..
  pub streams_apart : (i j : ℕ) → file_at g d i ≡ true → file_at g d j ≡ true → i ≢ j
      → (k : ℕ) → Mem k (file_clusters g d i) → Mem k (file_clusters g d j) → ⊥
  -- .. nor with the root
  pub root_apart : (i : ℕ) → file_at g d i ≡ true → (k : ℕ) → Mem k (file_clusters g d i) → Mem k (root_clusters g d) → ⊥
  -- no in-use entry follows a type 0
  pub ended : (i j : ℕ) → i < j → type_at (root_bytes g d) i ≡ 0 → in_use (root_bytes g d) j ≡ false
  -- sets don't overlap
  pub sets_apart : (i j : ℕ) → file_at g d i ≡ true → file_at g d j ≡ true → i < j → i + entries_at (root_bytes g d) i ≤ j
