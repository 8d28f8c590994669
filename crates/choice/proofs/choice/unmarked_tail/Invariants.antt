use Prim.Native.Nat.{◌+◌, ◌-◌, ◌≤◌}
use mathlib.Core.Path.{◌≡◌}
use mathlib.Core.Bool.{not}
use Rattle.metadata.specs.Marks.{marked}
use Rattle.search.specs.Internal.{past_failing}
use Rattle.choice.proofs.choice.unmarked_tail.Given as goal

abbrev pub invariant-loop-k : goal.invariant-loop-k
invariant-loop-k _ l = (l.low ≤ l.k) × ((l.k ≤ l.low + l.n) × (past_failing (λ i. not (marked l.sys.y l.vol i)) l.low (l.k - l.low) ≡ past_failing (λ i. not (marked l.sys.y l.vol i)) l.low l.n))

abbrev pub decreases-loop-k : goal.decreases-loop-k
decreases-loop-k _ l = l.k - l.low
