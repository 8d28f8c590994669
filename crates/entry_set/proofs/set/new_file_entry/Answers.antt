use Rattle.entry_set.specs.Put.{put_created}
use Rattle.entry_set.specs.New.{new_file_entry}
use Rattle.entry_set.proofs.set.new_file_entry.Goals as goal

pub returns : goal.returns
unfolding new_file_entry put_created
returns c = cc
