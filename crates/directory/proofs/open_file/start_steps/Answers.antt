use Rattle.directory.specs.Internal.{start_steps}
use Rattle.directory.proofs.open_file.start_steps.Goals as goal

pub returns : goal.returns
unfolding start_steps
returns _ c = cc
