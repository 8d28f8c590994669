-- The limits that decide number 1 (01, "The volume"). All sums and products are of unbounded numbers.
use Rattle.std.specs.Prelude.{Bool, true, ◌&&◌, ◌||◌, List, [], ◌∷◌, ℕ, zero, suc, ◌+◌, ◌-◌, ◌*◌, leb, ltb, eqb, length}
use Rattle.primitives.specs.Bits.{bit_at}
use Rattle.boot.specs.declared.geometry.Geometry.{Geometry}
use Rattle.boot.specs.Geometry.{sector_shift, cluster_shift, fat_offset, fat_length, number_of_fats, active_fat, cluster_heap_offset, cluster_count, bitmap0, bitmap1, sector_size, cluster_size, bitmap_bytes, bitmap_clusters}

-- all tests of a list hold
abbrev pub all : List Bool → Bool
all [] = true
all (b ∷ bs) = b && all bs

-- the numbers by themselves
unfoldable pub shape_tests : Geometry → List Bool
shape_tests g =
    leb 9 (sector_shift g)
    ∷ leb (sector_shift g) 12
    ∷ leb (sector_shift g + cluster_shift g) 15
    ∷ leb 24 (fat_offset g)
    ∷ leb 1 (number_of_fats g)
    ∷ leb (number_of_fats g) 2
    ∷ ltb (active_fat g) (number_of_fats g)
    ∷ leb 1 (cluster_count g)
    ∷ leb (cluster_count g) 32768
    ∷ []

-- FatLength times 2^s is at least 4 × (C + 2); the heap stands past all FATs; a volume of len bytes holds it to its end;
-- and len is at most 16,777,216
unfoldable pub room_tests : Geometry → ℕ → List Bool
room_tests g len =
    leb (4 * (cluster_count g + 2)) (fat_length g * sector_size g)
    ∷ leb (fat_offset g + number_of_fats g * fat_length g) (cluster_heap_offset g)
    ∷ leb (cluster_heap_offset g * sector_size g + cluster_count g * cluster_size g) len
    ∷ leb len 16777216
    ∷ []

-- cluster k in a list laid out like the bitmap: bit (k - 2) modulo 8, lowest first, of byte (k - 2) / 8
unfoldable pub in_map : List ℕ → ℕ → Bool
in_map m k = eqb (bit_at m (k - 2)) 1

-- the n clusters from k are all in the map
unfoldable pub all_in_map : List ℕ → ℕ → ℕ → Bool
all_in_map m k zero = true
all_in_map m k (suc n) = in_map m k && all_in_map m (k + 1) n

-- the n clusters from first lie in a heap of count clusters, 2..count + 1, and in the map
unfoldable pub run_in_map : (m : List ℕ) (count first n : ℕ) → Bool
run_in_map m count first n = leb 2 first && (leb (first + n) (count + 2) && all_in_map m first n)

-- the n clusters from a and the n from b share none
unfoldable pub apart : (a b n : ℕ) → Bool
apart a b n = leb (a + n) b || leb (b + n) a

-- a second bitmap, where there is one, keeps the first one's limits and shares no cluster with it
unfoldable pub second_bitmap : Geometry → List ℕ → Bool
second_bitmap g m =
    eqb (number_of_fats g) 1
    || (run_in_map m (cluster_count g) (bitmap1 g) (bitmap_clusters g) && apart (bitmap0 g) (bitmap1 g) (bitmap_clusters g))

-- the system map has exactly ceil(C / 8) bytes; each bitmap fills consecutive clusters, all in the heap and in the system map
unfoldable pub map_tests : Geometry → List ℕ → List Bool
map_tests g m =
    eqb (length m) (bitmap_bytes (cluster_count g))
    ∷ run_in_map m (cluster_count g) (bitmap0 g) (bitmap_clusters g)
    ∷ second_bitmap g m
    ∷ []

-- a geometry, a volume of len bytes and a system map keep the limits; otherwise the number is 1
unfoldable pub limits : Geometry → ℕ → List ℕ → Bool
limits g len m = all (shape_tests g) && (all (room_tests g len) && all (map_tests g m))
