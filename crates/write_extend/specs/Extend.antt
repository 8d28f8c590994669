-- Extend (01, "Extend"; Rust: `extend_clusters`).
use Rattle.std.specs.Prelude.{ℕ, ◌+◌, ◌-◌, Bool, true, false, cond, ◌&&◌, List, [], ◌∷◌, length, ◌==◌, nat_le}
use Rattle.tables.specs.Count.{count}
use Rattle.tables.specs.Lists.{last_or}
use Rattle.boot.specs.declared.geometry.Geometry.{Geometry}
use Rattle.boot.specs.declared.layout.Layout.{Layout}
use Rattle.boot.specs.Layout.{layout_of}
use Rattle.boot.specs.Causes.{first_cause, heap_cause, wrap, space_cause, admit_cause}
use Rattle.metadata.specs.Fat.{END, set_fat}
use Rattle.metadata.specs.Marks.{free_count, mark_run}
use Rattle.metadata.specs.Usable.{is_usable}
use Rattle.stream.specs.declared.allocation.Allocation.{Allocation}
use Rattle.stream.specs.Stream.{number_of, stream_of}
use Rattle.search.specs.Search.{all_from}
use Rattle.choice.specs.Choice.{chosen}
use Rattle.write_alloc.specs.Take.{link_run, take_each}
use Rattle.write_alloc.specs.Outcome.{Outcome, unchanged, done}
use Rattle.write_alloc.specs.Allocate.{allocate_in}

-- what refuses n more clusters for a record that has some: count plus n above C, n above the free count, the record's own
-- causes, too few usable ones
unfoldable pub more_cause : (y : Layout) (d m : List ℕ) (a : Allocation) (n : ℕ) → ℕ
more_cause y d m a n =
    first_cause
    (space_cause (a.count + n) y.count
    ∷ space_cause n (free_count y d)
    ∷ number_of (stream_of y d a)
    ∷ space_cause n (count (is_usable y d m) 2 y.count)
    ∷ [])

-- a run whose next n clusters are usable
unfoldable pub in_place : (y : Layout) (d m : List ℕ) (a : Allocation) (n : ℕ) → Bool
in_place y d m a n =
    a.no_fat_chain && (nat_le (a.last + 1 + n) (y.count + 2) && all_from (is_usable y d m) (a.last + 1) n)

-- it keeps its flag
unfoldable pub longer_run : Layout → List ℕ → Allocation → ℕ → Outcome
longer_run y d a n =
    done (record { first = a.first; last = a.last + n; count = a.count + n; no_fat_chain = true }) (wrap y.count (a.last + n + 1))
    (mark_run y d (a.last + 1) n)

-- a run's clusters linked in every FAT, the last one as the end; a chain's are linked already
unfoldable pub link_old : Layout → List ℕ → Allocation → List ℕ
link_old y d a = cond a.no_fat_chain (set_fat y (link_run y d a.first (a.count - 1)) a.last END) d

-- the clusters of a list linked on
unfoldable pub longer_chain : (y : Layout) (d : List ℕ) (a : Allocation) (ks : List ℕ) → Outcome
longer_chain y d a ks =
    let last = last_or a.last ks in
    done (record { first = a.first; last = last; count = a.count + length ks; no_fat_chain = false }) (wrap y.count (last + 1))
    (set_fat y (take_each y (link_old y d a) a.last ks) last END)

-- n more clusters for a record that has some, sought from last + 1
unfoldable pub longer : (y : Layout) (d m : List ℕ) (a : Allocation) (n : ℕ) → Outcome
longer y d m a n =
    cond (in_place y d m a n) (longer_run y d a n)
    (longer_chain y d a (chosen (is_usable y d m) y.count n (wrap y.count (a.last + 1))))

-- an outcome that is refused keeps the record as given
abbrev pub or_given : Allocation → Outcome → Outcome
or_given a o = cond (o.answer.number == 0) o (unchanged o.answer.number a o.answer.hint o.volume)

-- extend on a volume that keeps the limits: the hint's 2; 0 changes nothing; an empty record is an allocation without near
unfoldable pub extend_in : (y : Layout) (d m : List ℕ) (a : Allocation) (n hint : ℕ) → Outcome
extend_in y d m a n hint =
    cond (heap_cause y.count hint == 0)
    (cond (n == 0) (unchanged 0 a hint d)
    (cond (a.count == 0) (or_given a (allocate_in y d m n false 0 hint))
    (cond (more_cause y d m a n == 0) (longer y d m a n) (unchanged (more_cause y d m a n) a hint d))))
    (unchanged 2 a hint d)

-- add n clusters to a record
unfoldable pub extend_clusters : (g : Geometry) (d m : List ℕ) (a : Allocation) (n hint : ℕ) → Outcome
extend_clusters g d m a n hint =
    cond (admit_cause g d m == 0) (extend_in (layout_of g (length d)) d m a n hint) (unchanged (admit_cause g d m) a hint d)
