use Rattle.entry_set.specs.New.{new_stream_entry}
use Rattle.entry_set.proofs.set.new_stream_entry.Goals as goal

pub returns : goal.returns
unfolding new_stream_entry
returns c = cc
