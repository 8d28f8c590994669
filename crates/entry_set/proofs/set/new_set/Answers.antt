use Rattle.entry_set.specs.New.{new_set, new_entries}
use Rattle.entry_set.proofs.set.new_set.Goals as goal

pub returns : goal.returns
unfolding new_set new_entries
returns c = cc
