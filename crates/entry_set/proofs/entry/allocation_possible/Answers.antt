use Rattle.entry_set.specs.Fields.{allocation_possible}
use Rattle.entry_set.proofs.entry.allocation_possible.Goals as goal

pub returns : goal.returns
unfolding allocation_possible
returns c = cc
