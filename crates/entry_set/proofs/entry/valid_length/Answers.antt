use Rattle.entry_set.specs.Fields.{valid_length}
use Rattle.entry_set.proofs.entry.valid_length.Goals as goal

pub returns : goal.returns
unfolding valid_length
returns c = cc
