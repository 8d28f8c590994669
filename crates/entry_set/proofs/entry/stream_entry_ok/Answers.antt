use native.Mathlib.Omega.{arith}
use Rattle.std.proofs.lemmas.Grind.{common_steps}
use Rattle.entry_set.specs.Fields.{entry_type}
use Rattle.entry_set.specs.Sound.{stream_entry_ok}
use Rattle.entry_set.proofs.entry.stream_entry_ok.Goals as goal

pub returns-then-set-eq192 : goal.returns-then-set-eq192
unfolding stream_entry_ok entry_type
returns-then-set-eq192 c = grind (arith, common_steps)

pub returns-else-set-eq192 : goal.returns-else-set-eq192
unfolding stream_entry_ok entry_type
returns-else-set-eq192 c = grind (arith, common_steps)
