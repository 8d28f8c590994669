use mathlib.Core.Path.{sym, ◌∙◌}
use native.Mathlib.Omega.{arith}
use Rattle.std.proofs.lemmas.Grind.{common_steps}
use Rattle.entry_set.specs.Sound.{well_formed}
use Rattle.entry_set.proofs.SoundLaws.{head_of}
use Rattle.entry_set.proofs.entry.well_formed.Goals as goal

pub stream_entry_ok-requires : goal.stream_entry_ok-requires
stream_entry_ok-requires c = (head_of _ (sym c.head_ok.ensures ∙ c.if-head_ok.true)).high

pub returns-then-names_ok : goal.returns-then-names_ok
unfolding well_formed
returns-then-names_ok c = grind (arith, common_steps)

pub returns-else-names_ok : goal.returns-else-names_ok
unfolding well_formed
returns-else-names_ok c = grind (arith, common_steps)
