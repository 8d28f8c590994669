use Rattle.metadata.specs.Cluster.{cluster_byte}
use Rattle.directory.proofs.entries.byte_at.Goals as goal

pub returns : goal.returns
unfolding cluster_byte
returns _ c = cc
