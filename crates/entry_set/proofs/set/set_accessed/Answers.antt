use Rattle.entry_set.specs.Put.{put_accessed}
use Rattle.entry_set.proofs.set.set_accessed.Goals as goal

pub returns : goal.returns
unfolding put_accessed
returns c = cc
