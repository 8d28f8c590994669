use Rattle.entry_set.specs.Put.{refreshed}
use Rattle.entry_set.proofs.set.refreshed.Goals as goal

pub returns : goal.returns
unfolding refreshed
returns c = cc
