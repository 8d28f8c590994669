use Rattle.std.proofs.Common.{◌≡◌, ◌-◌, ◌≤◌}
use Rattle.search.specs.Search.{fewest}
use Rattle.primitives.specs.Internal.{bit_is}
use Rattle.primitives.proofs.bits.first_bit.Given as goal

abbrev pub invariant-loop-at : goal.invariant-loop-at
invariant-loop-at l = (l.k ≤ l.at) × ((l.at ≤ l.end) × (fewest (bit_is l.bitmap l.v) (l.end - l.at) l.at ≡ fewest (bit_is l.bitmap l.v) l.n l.k))

abbrev pub decreases-loop-at : goal.decreases-loop-at
decreases-loop-at l = l.end - l.at
