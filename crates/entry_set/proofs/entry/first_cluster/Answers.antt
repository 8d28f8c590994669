use Rattle.entry_set.specs.Fields.{first_cluster}
use Rattle.entry_set.proofs.entry.first_cluster.Goals as goal

pub returns : goal.returns
unfolding first_cluster
returns c = cc
