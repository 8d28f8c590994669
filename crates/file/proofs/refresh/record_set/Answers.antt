use Rattle.file.specs.Refresh.{recorded}
use Rattle.file.proofs.refresh.record_set.Goals as goal

pub returns : goal.returns
unfolding recorded
returns _ c = ((cc), (cc))
