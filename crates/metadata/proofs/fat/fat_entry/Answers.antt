use Rattle.metadata.specs.Fat.{fat_entry}
use Rattle.metadata.proofs.fat.fat_entry.Goals as goal

pub returns : goal.returns
unfolding fat_entry
returns _ c = cc
