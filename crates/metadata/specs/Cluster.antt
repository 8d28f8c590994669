-- The bytes of a cluster.
use Rattle.std.specs.Prelude.{List, ℕ, ◌+◌, get_or}
use Rattle.primitives.specs.Splice.{splice}
use Rattle.boot.specs.declared.layout.Layout.{Layout}
use Rattle.boot.specs.Layout.{cluster_at}

-- byte j of cluster k
unfoldable pub cluster_byte : (y : Layout) (d : List ℕ) (k j : ℕ) → ℕ
cluster_byte y d k j = get_or d (cluster_at y k + j) 0

-- the volume with the bytes bs in cluster k, from its byte j on
unfoldable pub put_bytes : (y : Layout) (d : List ℕ) (k j : ℕ) (bs : List ℕ) → List ℕ
put_bytes y d k j bs = splice d (cluster_at y k + j) bs
