use Rattle.entry_set.specs.Fields.{is_directory}
use Rattle.entry_set.proofs.entry.is_directory.Goals as goal

pub returns : goal.returns
unfolding is_directory
returns c = cc
