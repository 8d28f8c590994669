use Rattle.entry_set.specs.Put.{sealed}
use Rattle.entry_set.proofs.set.seal.Goals as goal

pub returns : goal.returns
unfolding sealed
returns c = cc
