use Rattle.entry_set.specs.Stamps.{stamp_at}
use Rattle.entry_set.proofs.stamp.stamp_at.Goals as goal

pub returns : goal.returns
unfolding stamp_at
returns c = cc
