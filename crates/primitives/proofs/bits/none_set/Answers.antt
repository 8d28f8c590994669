use Rattle.search.proofs.Lowest.{fewest-none}
use Rattle.primitives.proofs.bits.none_set.Goals as goal

pub returns : goal.returns
returns c = fewest-none _ _ _ _ c.first_bit.ensures.0
