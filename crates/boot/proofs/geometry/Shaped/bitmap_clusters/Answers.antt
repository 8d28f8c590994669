use native.Mathlib.Omega.{arith}
use native.Mathlib.Nat.{div-le_self}
use Rattle.boot.specs.Geometry.{bitmap_clusters}
use Prim.Native.Nat.{◌+◌, ◌-◌, ◌/◌}
use Rattle.boot.proofs.geometry.Shaped.bitmap_clusters.Goals as goal

pub returns : goal.returns
unfolding bitmap_clusters
returns c = (cc, omega (arith, div-le_self ((c.from.result + 7) / 8 + (c.cluster_size-size.result - 1)) c.cluster_size-size.result))
