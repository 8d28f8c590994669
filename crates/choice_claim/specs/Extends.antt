-- What an accepted extension of a record that has clusters does, in 01's words ("Extend").
use Rattle.std.specs.Prelude.{◌≡◌, ◌↔◌, true, List, ℕ, ◌+◌}
use Rattle.boot.specs.declared.layout.Layout.{Layout}
use Rattle.metadata.specs.Usable.{is_usable}
use Rattle.stream.specs.declared.allocation.Allocation.{Allocation}
use Rattle.stream.specs.Stream.{stream_of, clusters_of}
use Rattle.choice_claim.specs.Picked.{RunAt}
use Rattle.write_alloc.specs.Outcome.{Outcome}
use Rattle.boot.specs.Causes.{wrap}
use Rattle.choice_claim.specs.Adds.{Adds}

-- outcome o is record a with n clusters more
pub record Extends (y : Layout) (d m : List ℕ) (a : Allocation) (n : ℕ) (o : Outcome) : Type 0 where
  -- "new clusters are sought from last + 1 as above and linked on"
  pub adds : Adds y d m (clusters_of (stream_of y d a)) n (wrap y.count (a.last + 1)) o
  -- "A run keeps its flag if the next clusters are usable", and else the flag is clear
  pub flag : (o.answer.allocation.no_fat_chain ≡ true) ↔ ((a.no_fat_chain ≡ true) × RunAt (is_usable y d m) y.count n (a.last + 1))
