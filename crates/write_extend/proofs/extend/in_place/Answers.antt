use native.Mathlib.Omega.{arith}
use Rattle.std.proofs.lemmas.Grind.{common_steps}
use Rattle.write_extend.specs.Extend.{in_place}
use Rattle.write_extend.proofs.extend.in_place.Goals as goal

pub returns-then-next-n : goal.returns-then-next-n
unfolding in_place
returns-then-next-n _ c = grind (arith, common_steps)

pub returns-else-next-n : goal.returns-else-next-n
unfolding in_place
returns-else-next-n _ c = grind (arith, common_steps)
