use native.Mathlib.Omega.{arith}
use Rattle.std.proofs.lemmas.Grind.{common_steps}
use Rattle.write_alloc.specs.Internal.{whole_byte}
use Rattle.write_alloc.proofs.take.whole_byte.Goals as goal

pub returns-then-left-ge8 : goal.returns-then-left-ge8
unfolding whole_byte
returns-then-left-ge8 c = grind (arith, common_steps)

pub returns-else-left-ge8 : goal.returns-else-left-ge8
unfolding whole_byte
returns-else-left-ge8 c = grind (arith, common_steps)
