use native.Mathlib.Omega.{arith}
use Rattle.std.proofs.lemmas.Grind.{common_steps}
use Rattle.entry_set.specs.Sound.{lengths_ok}
use Rattle.entry_set.proofs.entry.lengths_ok.Goals as goal

pub returns-then-len-valid_length : goal.returns-then-len-valid_length
unfolding lengths_ok
returns-then-len-valid_length c = grind (arith, common_steps)

pub returns-then-first-eq0 : goal.returns-then-first-eq0
unfolding lengths_ok
returns-then-first-eq0 c = grind (arith, common_steps)

pub returns-else-first-eq0 : goal.returns-else-first-eq0
unfolding lengths_ok
returns-else-first-eq0 c = grind (arith, common_steps)

pub returns-else-len-eq0 : goal.returns-else-len-eq0
unfolding lengths_ok
returns-else-len-eq0 c = grind (arith, common_steps)
