use Rattle.boot.specs.Layout.{cluster_start}
use Rattle.boot.proofs.geometry.Shaped.cluster_start.Goals as goal

pub returns : goal.returns
unfolding cluster_start
returns c = cc
