-- Shrink (01, "Shrink"; Rust: `shrink_clusters`).
use Rattle.std.specs.Prelude.{false, ◌||◌, cond, List, [], ◌∷◌, ℕ, eqb, leb, length, take, drop}
use Rattle.tables.specs.Lists.{last_or, rising}
use Rattle.boot.specs.declared.geometry.Geometry.{Geometry}
use Rattle.boot.specs.declared.layout.Layout.{Layout}
use Rattle.boot.specs.Layout.{layout_of}
use Rattle.boot.specs.Causes.{first_cause, heap_cause, admit_cause}
use Rattle.metadata.specs.Fat.{END, set_fat}
use Rattle.metadata.specs.Marks.{set_mark}
use Rattle.stream.specs.declared.allocation.Allocation.{Allocation}
use Rattle.stream.specs.Stream.{number_of, stream_of, clusters_of, empty, system_cause}
use Rattle.write_alloc.specs.Outcome.{Outcome, unchanged, done}

-- the clusters of a list freed: each gets FAT entry 0 and is unmarked
unfoldable pub free_all : Layout → List ℕ → List ℕ → List ℕ
free_all y d [] = d
free_all y d (k ∷ ks) = free_all y (set_mark y (set_fat y d k 0) k false) ks

-- the record of the kept clusters: empty, or a run where it was one or its numbers rise by one
unfoldable pub kept_record : Allocation → List ℕ → Allocation
kept_record a [] = empty
kept_record a (k ∷ ks) =
    record { first = k; last = last_or k ks; count = length (k ∷ ks); no_fat_chain = a.no_fat_chain || rising (k ∷ ks) }

-- the last kept entry of a chain becomes the end
unfoldable pub end_kept : Layout → List ℕ → Allocation → List ℕ → List ℕ
end_kept y d a [] = d
end_kept y d a (k ∷ ks) = cond a.no_fat_chain d (set_fat y d (last_or k ks) END)

-- what refuses it: the record's own causes, then 9 for the freed clusters
unfoldable pub shrink_cause : (y : Layout) (d m : List ℕ) (a : Allocation) (keep : ℕ) → ℕ
shrink_cause y d m a keep =
    first_cause (number_of (stream_of y d a) ∷ system_cause m (drop keep (clusters_of (stream_of y d a))) ∷ [])

-- the first `keep` clusters kept, the others freed
unfoldable pub cut : (y : Layout) (d : List ℕ) (a : Allocation) (keep hint : ℕ) → Outcome
cut y d a keep hint =
    let ks = clusters_of (stream_of y d a) in
    done (kept_record a (take keep ks)) hint (free_all y (end_kept y d a (take keep ks)) (drop keep ks))

-- shrink on a volume that keeps the limits: the hint's 2; keep at or above count does nothing, unread; the causes; the cut
unfoldable pub shrink_in : (y : Layout) (d m : List ℕ) (a : Allocation) (keep hint : ℕ) → Outcome
shrink_in y d m a keep hint =
    let idle = leb a.count keep in
    let number = first_cause (heap_cause y.count hint ∷ cond idle 0 (shrink_cause y d m a keep) ∷ []) in
    cond (eqb number 0) (cond idle (unchanged 0 a hint d) (cut y d a keep hint)) (unchanged number a hint d)

-- shrink a record to its first `keep` clusters
unfoldable pub shrink_clusters : (g : Geometry) (d m : List ℕ) (a : Allocation) (keep hint : ℕ) → Outcome
shrink_clusters g d m a keep hint =
    cond (eqb (admit_cause g d m) 0) (shrink_in (layout_of g (length d)) d m a keep hint) (unchanged (admit_cause g d m) a hint d)
