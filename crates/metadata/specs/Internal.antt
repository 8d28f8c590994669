-- What only contracts of inner functions, and proofs, speak of: no promise of a public call and no clause of the claim needs it.
use Rattle.std.specs.Prelude.{Bool, cond, not, ◌&&◌, List, ℕ, ◌+◌, ◌*◌, ◌-◌, ◌%◌, zero, suc, eqb, Option, Some, None}
use Rattle.primitives.specs.Words.{get_le}
use Rattle.boot.specs.declared.layout.Layout.{Layout}
use Rattle.search.specs.Search.{all_from, fewest}
use Rattle.boot.specs.Limits.{in_map}
use Rattle.metadata.specs.Fat.{BAD, fat_entry}
use Rattle.metadata.specs.Marks.{mark_byte, marked}

-- entry k of a FAT's bytes
unfoldable pub entry_of : List ℕ → ℕ → ℕ
entry_of l k = get_le 4 l (4 * k)

-- the first of the n clusters from k that is not marked; k + n where there is none
unfoldable pub first_unmarked : (y : Layout) (d : List ℕ) (k n : ℕ) → ℕ
first_unmarked y d k n = fewest (λ j. not (marked y d j)) n k

-- cluster k is the last one of its byte, and the byte marks none
unfoldable pub byte_unmarked : (y : Layout) (d : List ℕ) (k : ℕ) → Bool
byte_unmarked y d k = eqb ((k - 2) % 8) 7 && eqb (mark_byte y d k) 0

-- the first of the n clusters from k whose FAT entry is bad
unfoldable pub first_bad : (ℕ → ℕ) → ℕ → ℕ → Option ℕ
first_bad fat k zero = None
first_bad fat k (suc n) = cond (eqb (fat k) BAD) (Some k) (first_bad fat (k + 1) n)

-- none of the n clusters from k is in the system map or bad
unfoldable pub none_refused : (y : Layout) (d m : List ℕ) (k n : ℕ) → Bool
none_refused y d m k n = all_from (λ j. not (in_map m j)) k n && all_from (λ j. not (eqb (fat_entry y d j) BAD)) k n
