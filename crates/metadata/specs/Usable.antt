-- Which clusters may be taken (01: usable).
use Rattle.std.specs.Prelude.{Bool, ◌&&◌, not, List, ℕ, eqb}
use Rattle.boot.specs.declared.layout.Layout.{Layout}
use Rattle.boot.specs.Limits.{in_map}
use Rattle.metadata.specs.Fat.{BAD, fat_entry}
use Rattle.metadata.specs.Marks.{marked}

-- unmarked, and not in the system map
unfoldable pub is_free : (y : Layout) (d m : List ℕ) (k : ℕ) → Bool
is_free y d m k = not (marked y d k) && not (in_map m k)

-- unmarked, not in the system map, and not bad in the active FAT
unfoldable pub is_usable : (y : Layout) (d m : List ℕ) (k : ℕ) → Bool
is_usable y d m k = is_free y d m k && not (eqb (fat_entry y d k) BAD)
