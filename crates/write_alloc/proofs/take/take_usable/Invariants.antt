use Prim.Native.Nat.{◌+◌, ◌-◌, ◌≤◌, ◌<◌}
use mathlib.Core.Path.{◌≡◌}
use mathlib.Core.Bool.{true}
use Rattle.write_alloc.specs.Internal.{prev_taken}
use Rattle.write_alloc.proofs.Taking.{takes}
use Rattle.write_alloc.proofs.take.take_usable.Given as goal

abbrev pub invariant-loop-k : goal.invariant-loop-k
invariant-loop-k l = (2 ≤ l.k) × ((l.taken.prev < l.sys.y.count + 2) × ((prev_taken l.sys.y l.vol l.taken.prev ≡ true) × (takes l.sys.y l.vol l.sys.map.now l.end l.k l.taken.prev l.taken.left ≡ takes l.sys.y l.initial.vol l.sys.map.now l.end l.from l.initial.taken.prev l.initial.taken.left)))

abbrev pub decreases-loop-k : goal.decreases-loop-k
decreases-loop-k l = l.end - l.k
