-- Where the parts of a volume lie, in bytes (exFAT specification, 2 and 5.1).
use Rattle.std.specs.Prelude.{Bool, cond, ◌&&◌, ◌||◌, ℕ, ◌+◌, ◌-◌, ◌*◌, eqb, leb, ltb}
use Rattle.boot.specs.declared.geometry.Geometry.{Geometry}
use Rattle.boot.specs.declared.layout.Layout.{Layout}
use Rattle.boot.specs.Geometry.{fat_offset, fat_length, number_of_fats, active_fat, cluster_heap_offset, cluster_count, bitmap0, bitmap1, sector_size, cluster_size, bitmap_clusters}

-- the first byte of FAT i
unfoldable pub fat_start : Geometry → ℕ → ℕ
fat_start g i = (fat_offset g + i * fat_length g) * sector_size g

-- the first byte of cluster k
unfoldable pub cluster_start : Geometry → ℕ → ℕ
cluster_start g k = cluster_heap_offset g * sector_size g + (k - 2) * cluster_size g

-- the first cluster of FAT i's bitmap
unfoldable pub bitmap_first : Geometry → ℕ → ℕ
bitmap_first g i = cond (eqb i 0) (bitmap0 g) (bitmap1 g)

-- the places of a geometry in a volume of len bytes; with one FAT the second places are the first
unfoldable pub layout_of : Geometry → ℕ → Layout
layout_of g len =
    let last = number_of_fats g - 1 in
    record {
      two = eqb (number_of_fats g) 2;
      fat = fat_start g (active_fat g);
      fat0 = fat_start g 0;
      fat1 = fat_start g last;
      bitmap = cluster_start g (bitmap_first g (active_fat g));
      bitmap0 = cluster_start g (bitmap0 g);
      bitmap1 = cluster_start g (bitmap_first g last);
      first0 = bitmap0 g;
      first1 = bitmap_first g last;
      span = bitmap_clusters g;
      heap = cluster_start g 2;
      size = cluster_size g;
      count = cluster_count g;
      len = len;
    }

-- the first byte of cluster k
unfoldable pub cluster_at : Layout → ℕ → ℕ
cluster_at y k = y.heap + (k - 2) * y.size

-- k is one of the n clusters from first
unfoldable pub in_run : (first n k : ℕ) → Bool
in_run first n k = leb first k && ltb k (first + n)

-- k is a cluster of a heap of count clusters (01: 2..C+1)
unfoldable pub in_heap : (count k : ℕ) → Bool
in_heap count k = in_run 2 count k

-- k is a cluster of a bitmap, of the active FAT's or of the other's
unfoldable pub is_bitmap_cluster : Layout → ℕ → Bool
is_bitmap_cluster y k = in_run y.first0 y.span k || in_run y.first1 y.span k
