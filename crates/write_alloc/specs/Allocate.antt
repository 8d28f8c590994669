-- Allocate (01, "Allocate"; Rust: `allocate_clusters`).
use Rattle.std.specs.Prelude.{Bool, true, false, cond, List, [], ◌∷◌, ℕ, ◌+◌, ◌-◌, eqb, length, get_or}
use Rattle.tables.specs.Count.{count}
use Rattle.tables.specs.Lists.{last_or}
use Rattle.boot.specs.declared.geometry.Geometry.{Geometry}
use Rattle.boot.specs.declared.layout.Layout.{Layout}
use Rattle.boot.specs.Layout.{layout_of}
use Rattle.boot.specs.Causes.{first_cause, heap_cause, wrap, space_cause, admit_cause}
use Rattle.metadata.specs.Fat.{END, set_fat}
use Rattle.metadata.specs.Marks.{free_count, mark_run}
use Rattle.metadata.specs.Usable.{is_usable}
use Rattle.choice.specs.declared.choice.Choice.{Choice}
use Rattle.choice.specs.declared.choice.Choice.TheVariants.{Run, Scattered, TooFew}
use Rattle.choice.specs.Choice.{choose, chosen}
use Rattle.write_alloc.specs.Take.{take_each}
use Rattle.write_alloc.specs.Outcome.{Outcome, unchanged, done}
use Rattle.stream.specs.Stream.{empty}

-- 2: a near cluster that is given lies outside the heap
unfoldable pub near_cause : (C : ℕ) (given : Bool) (near : ℕ) → ℕ
near_cause C given near = cond given (heap_cause C near) 0

-- what refuses an allocation of n clusters, n not 0: more than the free count, near, too few usable ones
unfoldable pub allocate_cause : (y : Layout) (d m : List ℕ) (n : ℕ) (given : Bool) (near : ℕ) → ℕ
allocate_cause y d m n given near =
    first_cause
    (space_cause n (free_count y d) ∷ near_cause y.count given near ∷ space_cause n (count (is_usable y d m) 2 y.count) ∷ [])

-- n clusters from k as a run: marked, their FAT entries untouched
unfoldable pub new_run : (y : Layout) (d : List ℕ) (k n : ℕ) → Outcome
new_run y d k n =
    done (record { first = k; last = k + n - 1; count = n; no_fat_chain = true }) (wrap y.count (k + n)) (mark_run y d k n)

-- the clusters of a list as a chain: marked, and linked in that order
unfoldable pub new_chain : (y : Layout) (d ks : List ℕ) → Outcome
new_chain y d ks =
    let last = last_or 0 ks in
    done (record { first = get_or ks 0 0; last = last; count = length ks; no_fat_chain = false }) (wrap y.count (last + 1))
    (set_fat y (take_each y d 0 ks) last END)

-- by the choice: a run, a chain, or 7
abbrev pub by_choice : Choice → (ℕ → Outcome) → Outcome → Outcome → Outcome
by_choice (Run k) r c f = r k
by_choice Scattered r c f = c
by_choice TooFew r c f = f

-- a new stream of n clusters, n not 0, for a search that starts at start
unfoldable pub new_stream : (y : Layout) (d m : List ℕ) (n start hint : ℕ) → Outcome
new_stream y d m n start hint =
    let u = is_usable y d m in
    by_choice (choose u y.count n start) (λ k. new_run y d k n) (new_chain y d (chosen u y.count n start)) (unchanged 7 empty hint d)

-- allocate on a volume that keeps the limits: the hint's 2; 0 clusters give the empty record; the causes above; the new stream
unfoldable pub allocate_in : (y : Layout) (d m : List ℕ) (n : ℕ) (given : Bool) (near hint : ℕ) → Outcome
allocate_in y d m n given near hint =
    let number = first_cause (heap_cause y.count hint ∷ cond (eqb n 0) 0 (allocate_cause y d m n given near) ∷ []) in
    cond (eqb number 0)
    (cond (eqb n 0) (unchanged 0 empty hint d) (new_stream y d m n (cond given near hint) hint))
    (unchanged number empty hint d)

-- allocate n clusters, near a cluster where one is given
unfoldable pub allocate_clusters : (g : Geometry) (d m : List ℕ) (n : ℕ) (given : Bool) (near hint : ℕ) → Outcome
allocate_clusters g d m n given near hint =
    cond (eqb (admit_cause g d m) 0) (allocate_in (layout_of g (length d)) d m n given near hint) (unchanged (admit_cause g d m) empty hint d)
