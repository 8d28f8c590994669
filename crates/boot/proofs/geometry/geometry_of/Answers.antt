use Rattle.boot.specs.Geometry.{geometry_of}
use Rattle.boot.proofs.geometry.geometry_of.Goals as goal

pub returns : goal.returns
unfolding geometry_of
returns c = cc
