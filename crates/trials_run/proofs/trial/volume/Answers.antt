use Rattle.trials.specs.Volume.{geometry}
use Rattle.trials_run.proofs.trial.volume.Goals as goal

-- the words are those of the definition
pub returns : goal.returns
unfolding geometry
returns c = c.geometry_of.ensures
