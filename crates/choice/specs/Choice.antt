-- Which clusters are taken (01: Allocate). u says which clusters are usable.
use Rattle.std.specs.Prelude.{Bool, cond, List, ◌++◌, ℕ, ◌+◌, ◌-◌, ltb, take, Option, Some, None}
use Rattle.tables.specs.Count.{count, keep}
use Rattle.search.specs.Search.{run_from}
use Rattle.choice.specs.declared.choice.Choice.{Choice}
use Rattle.choice.specs.declared.choice.Choice.TheVariants.{Run, Scattered, TooFew}

-- a run where one was found, else another choice
abbrev pub or_else : Option ℕ → Choice → Choice
or_else (Some k) c = Run k
or_else None c = c

-- the lowest run starting at or after start, else the lowest of all, else usable clusters one by one; too few
unfoldable pub choose : (u : ℕ → Bool) (C n start : ℕ) → Choice
choose u C n start =
    or_else (run_from u (C + 2) n start)
    (or_else (run_from u (C + 2) n 2) (cond (ltb (count u 2 C) n) TooFew Scattered))

-- the usable clusters from start to the end of the heap, then from 2
unfoldable pub around : (u : ℕ → Bool) (C start : ℕ) → List ℕ
around u C start = keep u start (C + 2 - start) ++ keep u 2 (start - 2)

-- where a choice begins: at its run, or at the search's start
abbrev pub begin_of : Choice → ℕ → ℕ
begin_of (Run k) start = k
begin_of Scattered start = start
begin_of TooFew start = start

-- the n clusters that are taken
unfoldable pub chosen : (u : ℕ → Bool) (C n start : ℕ) → List ℕ
chosen u C n start = take n (around u C (begin_of (choose u C n start) start))
