use Rattle.write_alloc.specs.Allocate.{new_run}
use Rattle.write_alloc.proofs.allocate.new_run.Goals as goal

pub returns : goal.returns
unfolding new_run
returns _ c = (cc, cc)
