-- The volume of the marked trials (01): sectors and clusters of 512 bytes, one FAT of one sector at sector 24, the heap at sector 32,
-- 16 clusters, the bitmap in cluster 2, the root in cluster 3.
use Rattle.std.specs.Prelude.{cond, List, [], ◌∷◌, ◌++◌, ℕ, zero, suc, ◌+◌, ◌-◌, ◌/◌, ◌%◌, eqb, length, replicate}
use Rattle.boot.specs.Geometry.{geometry_of}
use Rattle.boot.specs.declared.geometry.Geometry.{Geometry}
use Rattle.metadata.specs.Fat.{END}

-- the geometry of the trials
unfoldable pub geometry : Geometry
geometry = geometry_of (9 ∷ 0 ∷ 24 ∷ 1 ∷ 1 ∷ 0 ∷ 32 ∷ 16 ∷ 3 ∷ 2 ∷ 0 ∷ [])

-- the system map: the bitmap's cluster and the root's
unfoldable pub system : List ℕ
system = 0x03 ∷ 0x00 ∷ []

-- a FAT entry, by its cluster
pub record Link : Type 0 where
  pub at : ℕ
  pub value : ℕ

-- what differs from trial to trial: the two bytes of the bitmap, the FAT entries that are not 0 besides the root's, and the bytes of
-- the clusters from the root's on, as far as they are not 0
pub record Volume : Type 0 where
  pub mark0 : ℕ
  pub mark1 : ℕ
  pub links : List Link
  pub heap : List ℕ

-- entry k by a list of entries, the first that fits; 0 where none does
unfoldable pub link_at : List Link → ℕ → ℕ
link_at [] k = 0
link_at (l ∷ ls) k = cond (eqb l.at k) l.value (link_at ls k)

-- entry k of the FAT: the root's is the end
unfoldable pub trial_entry : List Link → ℕ → ℕ
trial_entry ls k = cond (eqb k 3) END (link_at ls k)

-- four bytes, low byte first
unfoldable pub word_bytes : ℕ → List ℕ
word_bytes v = v % 256 ∷ v / 256 % 256 ∷ v / 65536 % 256 ∷ v / 16777216 % 256 ∷ []

-- the bytes of n entries from k on
unfoldable pub fat_bytes : List Link → ℕ → ℕ → List ℕ
fat_bytes ls k zero = []
fat_bytes ls k (suc n) = word_bytes (trial_entry ls k) ++ fat_bytes ls (k + 1) n

-- a list filled up with zeros to n bytes
unfoldable pub padded : ℕ → List ℕ → List ℕ
padded n l = l ++ replicate (n - length l) 0

-- the 24,576 bytes: 24 sectors of zeros, the FAT with its 18 entries, zeros up to the heap, the bitmap's cluster, the other clusters
unfoldable pub trial_bytes : Volume → List ℕ
trial_bytes v =
    replicate 12288 0
    ++ (padded 4096 (fat_bytes v.links 0 18) ++ (padded 512 (v.mark0 ∷ v.mark1 ∷ []) ++ padded 7680 v.heap))

-- the links of a chain, the last one the end
unfoldable pub linked : List ℕ → List Link
linked [] = []
linked (k ∷ []) = record { at = k; value = END } ∷ []
linked (k ∷ j ∷ ks) = record { at = k; value = j } ∷ linked (j ∷ ks)
