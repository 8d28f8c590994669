use Prim.Native.Nat.{◌-◌, ◌≤◌}
use mathlib.Core.Path.{◌≡◌}
use Rattle.metadata.specs.Usable.{is_usable}
use Rattle.search.specs.Search.{run_from}
use Rattle.choice.proofs.choice.scan.Given as goal

abbrev pub invariant-loop-base : goal.invariant-loop-base
invariant-loop-base _ l = (2 ≤ l.base) × ((l.base ≤ l.end) × (run_from (is_usable l.sys.y l.vol l.sys.map.now) l.end l.n l.base ≡ run_from (is_usable l.sys.y l.vol l.sys.map.now) l.end l.n l.start))

abbrev pub decreases-loop-base : goal.decreases-loop-base
decreases-loop-base _ l = l.end - l.base
