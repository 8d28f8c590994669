use Rattle.metadata.specs.Marks.{free_count}
use Rattle.metadata.proofs.bitmap.free_count.Goals as goal

pub returns : goal.returns
unfolding free_count
returns _ c = cc
