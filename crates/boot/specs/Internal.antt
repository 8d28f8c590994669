-- What only contracts of inner functions, and proofs, speak of: no promise of a public call and no clause of the claim needs it.
use Rattle.std.specs.Prelude.{◌≡◌, ℕ, ◌+◌, ◌*◌, ◌≤◌, ◌<◌, ◌/◌, true, ◌&&◌, ◌||◌, eqb}
use Rattle.boot.specs.declared.geometry.Geometry.{Geometry}
use Rattle.boot.specs.Geometry.{sector_shift, cluster_shift, fat_offset, fat_length, number_of_fats, active_fat, cluster_heap_offset, cluster_count, bitmap0, bitmap1, sector_size, cluster_size, bitmap_clusters, bitmap_bytes}
use Rattle.boot.specs.declared.layout.Layout.{Layout}
use Rattle.boot.specs.Limits.{apart}
use Rattle.boot.specs.Layout.{cluster_at}

-- the numbers by themselves
pub record Shape (g : Geometry) : Type 0 where
  pub sector_low : 9 ≤ sector_shift g
  pub sector_high : sector_shift g ≤ 12
  pub cluster_high : sector_shift g + cluster_shift g ≤ 15
  pub fat_low : 24 ≤ fat_offset g
  pub fats_low : 1 ≤ number_of_fats g
  pub fats_high : number_of_fats g ≤ 2
  pub active_in : active_fat g < number_of_fats g
  pub count_low : 1 ≤ cluster_count g
  pub count_high : cluster_count g ≤ 32768

-- FATs, heap and volume
pub record RoomFacts (g : Geometry) (len : ℕ) : Type 0 where
  pub fat_holds : 4 * (cluster_count g + 2) ≤ fat_length g * sector_size g
  pub heap_past : fat_offset g + number_of_fats g * fat_length g ≤ cluster_heap_offset g
  pub heap_in : cluster_heap_offset g * sector_size g + cluster_count g * cluster_size g ≤ len
  pub len_high : len ≤ 16777216

-- bitmaps
pub record Bitmaps (g : Geometry) : Type 0 where
  pub low0 : 2 ≤ bitmap0 g
  pub high0 : bitmap0 g + bitmap_clusters g ≤ cluster_count g + 2
  pub low1 : number_of_fats g ≡ 2 → 2 ≤ bitmap1 g
  pub high1 : number_of_fats g ≡ 2 → bitmap1 g + bitmap_clusters g ≤ cluster_count g + 2
  pub share_none : number_of_fats g ≡ 2 → apart (bitmap0 g) (bitmap1 g) (bitmap_clusters g) ≡ true

-- a geometry that keeps the limits with a volume of len bytes
pub record Accepted (g : Geometry) (len : ℕ) : Type 0 where
  pub shape : Shape g
  pub room : RoomFacts g len
  pub bitmaps : Bitmaps g

-- a layout's places lie in the volume: what internal functions require
pub record Laid (y : Layout) : Type 0 where
  pub fat_in : y.fat + 4 * (y.count + 2) ≤ y.len
  pub fat0_in : y.fat0 + 4 * (y.count + 2) ≤ y.len
  pub fat1_in : y.fat1 + 4 * (y.count + 2) ≤ y.len
  pub bitmap_in : y.bitmap + bitmap_bytes y.count ≤ y.len
  pub bitmap0_in : y.bitmap0 + bitmap_bytes y.count ≤ y.len
  pub bitmap1_in : y.bitmap1 + bitmap_bytes y.count ≤ y.len
  pub heap_in : y.heap + y.count * y.size ≤ y.len
  pub run0_in : y.first0 + y.span ≤ y.count + 2
  pub run1_in : y.first1 + y.span ≤ y.count + 2
  pub size_low : 512 ≤ y.size
  pub size_high : y.size ≤ 32768
  -- a cluster holds a whole number of entries (32 bytes each)
  pub whole : 32 * (y.size / 32) ≡ y.size
  pub count_low : 1 ≤ y.count
  pub count_high : y.count ≤ 32768
  pub len_high : y.len ≤ 16777216

-- FATs, bitmaps and clusters are apart: what internal functions that store require besides
pub record Apart (y : Layout) : Type 0 where
  -- the active FAT and bitmap are the first ones or, where there are two, the second ones
  pub active : eqb y.fat y.fat0 && eqb y.bitmap y.bitmap0 || y.two && (eqb y.fat y.fat1 && eqb y.bitmap y.bitmap1) ≡ true
  pub fats : y.two ≡ true → y.fat0 + 4 * (y.count + 2) ≤ y.fat1
  pub fat0_heap : y.fat0 + 4 * (y.count + 2) ≤ y.heap
  pub fat1_heap : y.fat1 + 4 * (y.count + 2) ≤ y.heap
  pub at0 : y.bitmap0 ≡ cluster_at y y.first0
  pub at1 : y.bitmap1 ≡ cluster_at y y.first1
  pub low0 : 2 ≤ y.first0
  pub low1 : 2 ≤ y.first1
  pub holds : bitmap_bytes y.count ≤ y.span * y.size
  pub bitmaps : y.two ≡ true → apart y.first0 y.first1 y.span ≡ true
