use Rattle.entry_set.specs.Fields.{no_fat_chain}
use Rattle.entry_set.proofs.entry.no_fat_chain.Goals as goal

pub returns : goal.returns
unfolding no_fat_chain
returns c = cc
