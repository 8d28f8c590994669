use native.Mathlib.Omega.{arith}
use mathlib.Core.Path.{refl}
use Rattle.boot.specs.Layout.{cluster_at}
use Rattle.boot.proofs.Clusters.{cluster_in}
use Rattle.boot.proofs.system.Places.cluster_offset.Goals as goal

pub returns : goal.returns
unfolding cluster_at
returns _ c = (refl, cluster_in c.args.self.now.y c.args.k c.args.self.now.laid (omega arith) (omega arith))
