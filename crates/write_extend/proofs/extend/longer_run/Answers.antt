use Rattle.write_extend.specs.Extend.{longer_run}
use Rattle.write_extend.proofs.extend.longer_run.Goals as goal

pub returns : goal.returns
unfolding longer_run
returns _ c = (cc, cc)
