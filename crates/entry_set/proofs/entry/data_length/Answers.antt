use Rattle.entry_set.specs.Fields.{data_length}
use Rattle.entry_set.proofs.entry.data_length.Goals as goal

pub returns : goal.returns
unfolding data_length
returns c = cc
