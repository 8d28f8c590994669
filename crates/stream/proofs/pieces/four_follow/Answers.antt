use Rattle.stream.specs.Internal.{four_follow}
use Rattle.stream.proofs.pieces.four_follow.Goals as goal

pub returns : goal.returns
unfolding four_follow
returns _ c = cc
