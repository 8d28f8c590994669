use Rattle.entry_set.specs.Put.{archived}
use Rattle.entry_set.proofs.set.set_archive.Goals as goal

pub returns : goal.returns
unfolding archived
returns c = cc
