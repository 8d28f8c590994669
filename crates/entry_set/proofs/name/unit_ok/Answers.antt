use native.Mathlib.Omega.{arith}
use Rattle.std.proofs.lemmas.Grind.{common_steps}
use Rattle.entry_set.specs.Name.{unit_ok}
use Rattle.entry_set.proofs.name.unit_ok.Goals as goal

pub returns-then-u-ge32 : goal.returns-then-u-ge32
unfolding unit_ok
returns-then-u-ge32 c = grind (arith, common_steps)

pub returns-else-u-ge32 : goal.returns-else-u-ge32
unfolding unit_ok
returns-else-u-ge32 c = grind (arith, common_steps)
