use Rattle.entry_set.specs.Put.{put_modified}
use Rattle.entry_set.proofs.set.set_modified.Goals as goal

pub returns : goal.returns
unfolding put_modified
returns c = cc
