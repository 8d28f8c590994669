-- The free count (01: C less the ones in the bitmap's first C bits).
use Rattle.std.specs.Prelude.{cond, List, ℕ, eqb, length, Result, Ok, Err}
use Rattle.boot.specs.declared.cause.Cause.{Cause}
use Rattle.boot.specs.declared.geometry.Geometry.{Geometry}
use Rattle.boot.specs.Layout.{layout_of}
use Rattle.boot.specs.Causes.{cause_number, admit_cause}
use Rattle.metadata.specs.Marks.{free_count}

-- the number of the call, and the free clusters
pub record FreeCount : Type 0 where
  pub number : ℕ
  pub count : ℕ

-- what a free count that is returned says; a refused one says 0
unfoldable pub free_answer : Result ℕ Cause → FreeCount
free_answer (Ok n) = record { number = 0; count = n }
free_answer (Err c) = record { number = cause_number c; count = 0 }

-- where the volume is admitted, number 0 and the unmarked clusters, else the number that refuses it and 0 clusters
unfoldable pub free_clusters : (g : Geometry) (d m : List ℕ) → FreeCount
free_clusters g d m =
    cond (eqb (admit_cause g d m) 0)
    (record { number = 0; count = free_count (layout_of g (length d)) d })
    (record { number = admit_cause g d m; count = 0 })
