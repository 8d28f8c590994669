use Rattle.primitives.specs.Bits.{bit_at}
use Rattle.boot.specs.Limits.{in_map}
use Rattle.boot.proofs.geometry.in_map.Goals as goal

pub returns : goal.returns
unfolding in_map bit_at
returns c = c.bit_test.ensures
