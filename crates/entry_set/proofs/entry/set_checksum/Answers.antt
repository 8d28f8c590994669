use Rattle.entry_set.specs.Fields.{set_checksum}
use Rattle.entry_set.proofs.entry.set_checksum.Goals as goal

pub returns : goal.returns
unfolding set_checksum
returns c = cc
