-- What is as it was from one volume to another: a cluster, and the bytes behind the bitmaps.
use Rattle.std.specs.Prelude.{◌≡◌, true, false, List, ℕ, ◌*◌, ◌≤◌, ◌<◌}
use Rattle.boot.specs.declared.layout.Layout.{Layout}
use Rattle.boot.specs.Geometry.{bitmap_bytes}
use Rattle.boot.specs.Layout.{is_bitmap_cluster}
use Rattle.metadata.specs.Marks.{marked}
use Rattle.metadata.specs.Cluster.{cluster_byte}
use Rattle.kept.specs.Copies.{fat0_at, fat1_at, bitmap0_at, bitmap1_at}

-- e has the bytes of d behind the ceil(C / 8) bytes of each bitmap, to the end of its last cluster
unfoldable pub RestKept : (y : Layout) (d e : List ℕ) → Type 0
RestKept y d e =
    (i : ℕ) → bitmap_bytes y.count ≤ i → i < y.span * y.size
    → (bitmap0_at y e i ≡ bitmap0_at y d i) × (y.two ≡ true → bitmap1_at y e i ≡ bitmap1_at y d i)

-- cluster k of d is in e as it was: its entry in every FAT, its mark and, unless it is a bitmap's, its bytes
pub record Intact (y : Layout) (d e : List ℕ) (k : ℕ) : Type 0 where
  pub entry0 : fat0_at y e k ≡ fat0_at y d k
  pub entry1 : y.two ≡ true → fat1_at y e k ≡ fat1_at y d k
  pub mark : marked y e k ≡ marked y d k
  pub bytes : is_bitmap_cluster y k ≡ false → (r : ℕ) → r < y.size → cluster_byte y e k r ≡ cluster_byte y d k r
