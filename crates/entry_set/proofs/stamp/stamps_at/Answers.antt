use Rattle.entry_set.specs.Stamps.{stamps_at}
use Rattle.entry_set.proofs.stamp.stamps_at.Goals as goal

pub returns : goal.returns
unfolding stamps_at
returns c = cc
