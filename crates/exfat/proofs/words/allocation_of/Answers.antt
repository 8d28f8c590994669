use Rattle.exfat.specs.Words.{allocation_of}
use Rattle.exfat.proofs.words.allocation_of.Goals as goal

pub returns : goal.returns
unfolding allocation_of
returns c = cc
