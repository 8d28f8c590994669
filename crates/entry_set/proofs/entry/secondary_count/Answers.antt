use native.Mathlib.Omega.{arith}
use Rattle.std.proofs.lemmas.Grind.{common_steps}
use Rattle.entry_set.specs.Fields.{secondary_count}
use Rattle.entry_set.proofs.entry.secondary_count.Goals as goal

pub returns : goal.returns
unfolding secondary_count
returns c = grind (arith, common_steps)
