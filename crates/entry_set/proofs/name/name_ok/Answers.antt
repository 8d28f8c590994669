use native.Mathlib.Omega.{arith}
use Rattle.std.proofs.lemmas.Grind.{common_steps}
use Rattle.entry_set.specs.Name.{name_ok}
use Rattle.entry_set.proofs.name.name_ok.Goals as goal

pub returns-then-units_ok : goal.returns-then-units_ok
unfolding name_ok
returns-then-units_ok c = grind (arith, common_steps)

pub returns-else-units_ok : goal.returns-else-units_ok
unfolding name_ok
returns-else-units_ok c = grind (arith, common_steps)
