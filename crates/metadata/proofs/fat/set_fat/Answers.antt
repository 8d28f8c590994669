use mathlib.Core.Path.{sym, ◌∙◌}
use Rattle.metadata.proofs.Stores.{fat_two, fat_one}
use Rattle.metadata.proofs.fat.set_fat.Goals as goal

pub returns-then-sys : goal.returns-then-sys
returns-then-sys _ c = (cc) ∙ sym (fat_two _ _ _ _ (cc))

pub returns-else-sys : goal.returns-else-sys
returns-else-sys _ c = (cc) ∙ sym (fat_one _ _ _ _ (cc))
