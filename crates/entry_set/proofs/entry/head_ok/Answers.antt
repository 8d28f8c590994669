use native.Mathlib.Omega.{arith}
use Rattle.std.proofs.lemmas.Grind.{common_steps}
use Rattle.entry_set.specs.Fields.{entry_type}
use Rattle.entry_set.specs.Sound.{head_ok}
use Rattle.entry_set.proofs.entry.head_ok.Goals as goal

pub returns-then-n-name_entries : goal.returns-then-n-name_entries
unfolding head_ok entry_type
returns-then-n-name_entries c = grind (arith, common_steps)

pub returns-else-n-name_entries : goal.returns-else-n-name_entries
unfolding head_ok entry_type
returns-else-n-name_entries c = grind (arith, common_steps)
