-- The bytes of a stream: those of its clusters, one after the other.
use Rattle.std.specs.Prelude.{cond, List, [], ◌∷◌, ◌++◌, ℕ, ◌-◌, leb, take, drop}
use Rattle.boot.specs.declared.layout.Layout.{Layout}
use Rattle.boot.specs.Layout.{cluster_at}
use Rattle.metadata.specs.Cluster.{put_bytes}
use Rattle.stream.specs.declared.allocation.Allocation.{Allocation}
use Rattle.stream.specs.Stream.{clusters_in}

-- the bytes of cluster k
unfoldable pub cluster_bytes : Layout → List ℕ → ℕ → List ℕ
cluster_bytes y d k = take y.size (drop (cluster_at y k) d)

-- the bytes of a list of clusters
unfoldable pub bytes_of : Layout → List ℕ → List ℕ → List ℕ
bytes_of y d [] = []
bytes_of y d (k ∷ ks) = cluster_bytes y d k ++ bytes_of y d ks

-- a stream's bytes
unfoldable pub bytes_in : Layout → List ℕ → Allocation → List ℕ
bytes_in y d a = bytes_of y d (clusters_in y d a)

-- the volume with bytes stored in a list of clusters, from byte `at` of the list's bytes on
unfoldable pub store_at : Layout → List ℕ → List ℕ → ℕ → List ℕ → List ℕ
store_at y d [] at bs = d
store_at y d (k ∷ ks) at bs =
    cond (leb y.size at) (store_at y d ks (at - y.size) bs)
    (store_at y (put_bytes y d k at (take (y.size - at) bs)) ks 0 (drop (y.size - at) bs))
