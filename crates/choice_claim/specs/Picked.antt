-- Which clusters are to be taken, by what holds of them and not by a search (01: Allocate). u says which clusters are usable.
use Rattle.std.specs.Prelude.{◌≡◌, ◌↔◌, Bool, true, false, List, ◌++◌, ℕ, ◌+◌, ◌-◌, ◌≤◌, ◌<◌, length, take}
use Rattle.tables.specs.Count.{keep}
use Rattle.tables.specs.Lists.{Mem, Distinct, consec}
use Rattle.boot.specs.Layout.{in_heap}

-- n usable clusters of a heap of C clusters stand in a row, k the first
pub record RunAt (u : ℕ → Bool) (C n k : ℕ) : Type 0 where
  pub low : 2 ≤ k
  pub high : k + n ≤ C + 2
  pub usable : (j : ℕ) → k ≤ j → j < k + n → u j ≡ true

-- k is the lowest first cluster, at or after `from`, of such a run
pub record LowestRun (u : ℕ → Bool) (C n from k : ℕ) : Type 0 where
  pub stands : RunAt u C n k
  pub after : from ≤ k
  pub lowest : (j : ℕ) → from ≤ j → RunAt u C n j → k ≤ j

-- ks are the n clusters to take for a search from start, in their order; `run` says whether they are a run
pub record Picked (u : ℕ → Bool) (C n start : ℕ) (run : Bool) (ks : List ℕ) : Type 0 where
  -- as many as asked, each in the heap and usable, none twice
  pub many : length ks ≡ n
  pub heap : (k : ℕ) → Mem k ks → in_heap C k ≡ true
  pub usable : (k : ℕ) → Mem k ks → u k ≡ true
  pub distinct : Distinct ks
  -- a run exactly where there is one
  pub run_where : (run ≡ true) ↔ ((k : ℕ) × RunAt u C n k)
  -- "the lowest run of usable clusters starting at or after the start" ..
  pub run_after : run ≡ true → (k : ℕ) → LowestRun u C n start k → ks ≡ consec k n
  -- .. "else the lowest of all"
  pub run_else : run ≡ true → ((k : ℕ) → start ≤ k → RunAt u C n k → ⊥) → (k : ℕ) → LowestRun u C n 2 k → ks ≡ consec k n
  -- "With no such run, take usable clusters from the start to the end, then from 2": the first n of them, each part lowest first
  pub list_order : run ≡ false → ks ≡ take n (keep u start (C + 2 - start) ++ keep u 2 (start - 2))
