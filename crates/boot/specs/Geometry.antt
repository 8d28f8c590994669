-- A geometry from its words, its numbers by plain names, and the sizes that follow from them.
use Rattle.std.specs.Prelude.{List, ℕ, ◌+◌, ◌^◌, get_or}
use Rattle.tables.specs.Numbers.{ceil_div}
use Rattle.boot.specs.declared.geometry.Geometry.{Geometry}

-- the words of a geometry, in the order of the struct
unfoldable pub geometry_of : List ℕ → Geometry
geometry_of ws =
    record {
      sector_shift = get_or ws 0 0;
      cluster_shift = get_or ws 1 0;
      fat_offset = get_or ws 2 0;
      fat_length = get_or ws 3 0;
      number_of_fats = get_or ws 4 0;
      active_fat = get_or ws 5 0;
      cluster_heap_offset = get_or ws 6 0;
      cluster_count = get_or ws 7 0;
      root_cluster = get_or ws 8 0;
      bitmap_0 = get_or ws 9 0;
      bitmap_1 = get_or ws 10 0;
    }

-- BytesPerSectorShift (exFAT specification, 3.1.14; 01: sector shift s)
abbrev pub sector_shift : Geometry → ℕ
sector_shift g = g.sector_shift

-- SectorsPerClusterShift (3.1.15; 01: cluster shift c)
abbrev pub cluster_shift : Geometry → ℕ
cluster_shift g = g.cluster_shift

-- FatOffset (3.1.6)
abbrev pub fat_offset : Geometry → ℕ
fat_offset g = g.fat_offset

-- FatLength (3.1.7)
abbrev pub fat_length : Geometry → ℕ
fat_length g = g.fat_length

-- NumberOfFats (3.1.16)
abbrev pub number_of_fats : Geometry → ℕ
number_of_fats g = g.number_of_fats

-- ActiveFat (3.1.13.1)
abbrev pub active_fat : Geometry → ℕ
active_fat g = g.active_fat

-- ClusterHeapOffset (3.1.8)
abbrev pub cluster_heap_offset : Geometry → ℕ
cluster_heap_offset g = g.cluster_heap_offset

-- ClusterCount (3.1.9; 01: C)
abbrev pub cluster_count : Geometry → ℕ
cluster_count g = g.cluster_count

-- FirstClusterOfRootDirectory (3.1.10)
abbrev pub root_cluster : Geometry → ℕ
root_cluster g = g.root_cluster

-- the first cluster of the first FAT's bitmap, and of the second's
abbrev pub bitmap0 : Geometry → ℕ
bitmap0 g = g.bitmap_0

abbrev pub bitmap1 : Geometry → ℕ
bitmap1 g = g.bitmap_1

-- bytes of a sector
unfoldable pub sector_size : Geometry → ℕ
sector_size g = 2 ^ sector_shift g

-- bytes of a cluster
unfoldable pub cluster_size : Geometry → ℕ
cluster_size g = 2 ^ (sector_shift g + cluster_shift g)

-- bytes of a bitmap of count clusters: ceil(count / 8)
abbrev pub bitmap_bytes : ℕ → ℕ
bitmap_bytes count = ceil_div count 8

-- clusters of a bitmap: ceil(bytes / cluster size)
unfoldable pub bitmap_clusters : Geometry → ℕ
bitmap_clusters g = ceil_div (bitmap_bytes (cluster_count g)) (cluster_size g)
