use Rattle.std.proofs.Common.{◌≡◌, ◌-◌, ◌/◌, ◌≤◌, not}
use Rattle.search.specs.Search.{fewest}
use Rattle.primitives.specs.Internal.{byte_is}
use Rattle.primitives.proofs.ByteLaws.{past_to}
use Rattle.primitives.proofs.bits.past_bytes.Given as goal

abbrev pub invariant-loop-at : goal.invariant-loop-at
invariant-loop-at l = (l.at ≤ l.end) × (past_to l.bitmap l.b l.at l.end ≡ fewest (λ j. not (byte_is l.bitmap l.b (j / 8))) l.n l.k)

abbrev pub decreases-loop-at : goal.decreases-loop-at
decreases-loop-at l = l.end - l.at
