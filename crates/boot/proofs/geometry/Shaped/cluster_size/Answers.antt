use Rattle.boot.specs.Geometry.{cluster_size}
use Rattle.boot.proofs.Powers.{shl_facts}
use native.Mathlib.Omega.{arith}
use Rattle.boot.proofs.geometry.Shaped.cluster_size.Goals as goal

pub returns : goal.returns
unfolding cluster_size
returns c = shl_facts _ 15 (omega arith) (omega arith)
