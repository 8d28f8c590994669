-- A small consistent volume: what holds over every list of calls holds of something. Sectors and clusters of 512 bytes, one FAT at
-- sector 24, the heap at sector 32 with 16 clusters, the bitmap in cluster 2, the root in cluster 3.
use Rattle.std.specs.Prelude.{List, [], ◌∷◌, ◌++◌, ℕ, ◌-◌, ◌/◌, ◌%◌, length, replicate}
use Rattle.boot.specs.Geometry.{geometry_of}
use Rattle.boot.specs.declared.geometry.Geometry.{Geometry}
use Rattle.metadata.specs.Fat.{END}

-- the geometry
unfoldable pub example_geometry : Geometry
example_geometry = geometry_of (9 ∷ 0 ∷ 24 ∷ 1 ∷ 1 ∷ 0 ∷ 32 ∷ 16 ∷ 3 ∷ 2 ∷ 0 ∷ [])

-- the system map: the bitmap's cluster and the root's
unfoldable pub example_map : List ℕ
example_map = 0x03 ∷ 0x00 ∷ []

-- four bytes, low byte first
unfoldable pub word : ℕ → List ℕ
word v = v % 256 ∷ v / 256 % 256 ∷ v / 65536 % 256 ∷ v / 16777216 % 256 ∷ []

-- a list filled up with zeros to n bytes
unfoldable pub filled : ℕ → List ℕ → List ℕ
filled n l = l ++ replicate (n - length l) 0

-- a set of three entries, by checksum, attributes, flags, valid length, first cluster, length and the one unit of its name
unfoldable pub example_set : (sum attributes flags valid first len unit : ℕ) → List ℕ
example_set sum attributes flags valid first len unit =
    filled 32 (0x85 ∷ 2 ∷ sum % 256 ∷ sum / 256 ∷ attributes ∷ [])
    ++ filled 20 ((0xC0 ∷ flags ∷ 0 ∷ 1 ∷ 0 ∷ 0 ∷ 0 ∷ 0 ∷ []) ++ word valid)
    ++ word first
    ++ filled 8 (word len)
    ++ filled 32 (0xC1 ∷ 0 ∷ unit ∷ [])

-- the root's 16 entries: a removed set, a file with the chain 4, 6 and valid below length, a file with the run 8..9, an empty file,
-- a directory with cluster 5, and the end marker
unfoldable pub example_root : List ℕ
example_root =
    filled 32 (0x05 ∷ [])
    ++ filled 32 (0x40 ∷ [])
    ++ filled 32 (0x41 ∷ [])
    ++ example_set 0x42E8 0x00 1 600 4 700 0x61
    ++ example_set 0x2B76 0x00 3 1024 8 1024 0x62
    ++ example_set 0x0A76 0x00 1 0 0 0 0x63
    ++ example_set 0x1D26 0x10 3 512 5 512 0x64
    ++ filled 32 []

-- FAT entries 3, 4 and 6: the root's end, and the chain 4, 6
unfoldable pub example_fat : List ℕ
example_fat = replicate 12 0 ++ word END ++ word 6 ++ word 0 ++ word END

-- clusters 2 to 6 and 8 to 10 are marked; 10 belongs to no stream
unfoldable pub example_marks : List ℕ
example_marks = 0xDF ∷ 0x01 ∷ []

-- the clusters from 4 on, as far as they are not 0: contents of both files, the directory empty, old contents in 7
unfoldable pub example_contents : List ℕ
example_contents = replicate 512 0xA4 ++ replicate 512 0 ++ replicate 1024 0xA6 ++ replicate 1024 0xA8

-- the 24,576 bytes
unfoldable pub example_volume : List ℕ
example_volume = replicate 12288 0 ++ filled 4096 example_fat ++ filled 512 example_marks ++ example_root ++ filled 7168 example_contents
