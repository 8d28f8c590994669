use native.Mathlib.Omega.{arith}
use Rattle.boot.specs.Layout.{layout_of}
use Rattle.boot.proofs.Places.{first_low}
use Rattle.boot.proofs.geometry.Shaped.layout.Goals as goal

pub cluster_start-requires : goal.cluster_start-requires
cluster_start-requires c =
    let p = c.requires in
    rw c.bitmap_first.ensures (first_low _ _ p _ (omega arith))

pub cluster_start-requires-3 : goal.cluster_start-requires-3
cluster_start-requires-3 c =
    let p = c.requires in
    rw c.bitmap_first-2.ensures (first_low _ _ p _ (omega arith))

pub returns : goal.returns
unfolding layout_of
returns c = cc
