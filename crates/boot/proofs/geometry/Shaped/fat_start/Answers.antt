use Rattle.boot.specs.Layout.{fat_start}
use Rattle.boot.proofs.geometry.Shaped.fat_start.Goals as goal

pub returns : goal.returns
unfolding fat_start
returns c = cc
