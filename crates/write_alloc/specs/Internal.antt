-- What only contracts of inner functions, and proofs, speak of: no promise of a public call and no clause of the claim needs it.
use Rattle.std.specs.Prelude.{Bool, ◌&&◌, ◌||◌, List, ℕ, ◌-◌, ◌%◌, eqb, leb, length, take}
use Rattle.tables.specs.Count.{keep}
use Rattle.tables.specs.Lists.{last_or}
use Rattle.boot.specs.declared.layout.Layout.{Layout}
use Rattle.boot.specs.Layout.{in_heap}
use Rattle.metadata.specs.Marks.{marked}
use Rattle.metadata.specs.Usable.{is_usable}
use Rattle.write_alloc.specs.declared.take.Taken.{Taken}

-- k is the first cluster of its byte of the bitmap, and left is eight or more
unfoldable pub whole_byte : (k left : ℕ) → Bool
whole_byte k left = leb 8 left && eqb ((k - 2) % 8) 0

-- the one before is none, or a cluster that is taken already
unfoldable pub prev_taken : Layout → List ℕ → ℕ → Bool
prev_taken y d prev = eqb prev 0 || marked y d prev

-- the first n usable clusters from `from` on, below end
unfoldable pub taken_from : (y : Layout) (d m : List ℕ) (from end n : ℕ) → List ℕ
taken_from y d m from end n = take n (keep (is_usable y d m) from (end - from))

-- where taking the clusters of a list leads
abbrev pub taken_of : Taken → List ℕ → Taken
taken_of t ks = record { prev = last_or t.prev ks; left = t.left - length ks }

-- the one before is none, or a cluster of the heap that is taken already
unfoldable pub prev_ok : Layout → List ℕ → ℕ → Bool
prev_ok y d prev = eqb prev 0 || (in_heap y.count prev && marked y d prev)
