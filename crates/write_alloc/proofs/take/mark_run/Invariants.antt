use Prim.Native.Nat.{◌-◌, ◌≤◌}
use mathlib.Core.Path.{◌≡◌}
use Rattle.metadata.specs.Marks.{mark_run}
use Rattle.write_alloc.proofs.take.mark_run.Given as goal

abbrev pub invariant-loop-k : goal.invariant-loop-k
invariant-loop-k _ l = (l.first ≤ l.k) × ((l.k ≤ l.end) × (mark_run l.sys.y l.vol l.k (l.end - l.k) ≡ mark_run l.sys.y l.initial.vol l.first l.n))

abbrev pub decreases-loop-k : goal.decreases-loop-k
decreases-loop-k _ l = l.end - l.k
