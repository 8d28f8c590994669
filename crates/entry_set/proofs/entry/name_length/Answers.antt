use native.Mathlib.Omega.{arith}
use Rattle.std.proofs.lemmas.Grind.{common_steps}
use Rattle.entry_set.specs.Fields.{name_length}
use Rattle.entry_set.proofs.entry.name_length.Goals as goal

pub returns : goal.returns
unfolding name_length
returns c = grind (arith, common_steps)
