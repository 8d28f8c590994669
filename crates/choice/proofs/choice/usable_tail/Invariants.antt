use Prim.Native.Nat.{◌+◌, ◌-◌, ◌≤◌}
use mathlib.Core.Path.{◌≡◌}
use Rattle.metadata.specs.Usable.{is_usable}
use Rattle.search.specs.Internal.{past_failing}
use Rattle.choice.proofs.choice.usable_tail.Given as goal

abbrev pub invariant-loop-last : goal.invariant-loop-last
invariant-loop-last _ l = (l.low ≤ l.last) × ((l.last ≤ l.low + l.n) × (past_failing (is_usable l.sys.y l.vol l.sys.map.now) l.low (l.last - l.low) ≡ past_failing (is_usable l.sys.y l.vol l.sys.map.now) l.low l.n))
