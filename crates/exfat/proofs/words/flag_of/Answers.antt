use mathlib.Core.Path.{refl}
use Rattle.exfat.specs.Words.{flag_of}
use Rattle.exfat.proofs.words.flag_of.Goals as goal

pub returns : goal.returns
unfolding flag_of
returns c = refl
