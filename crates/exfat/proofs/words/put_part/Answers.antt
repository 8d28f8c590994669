use Rattle.exfat.specs.Words.{part_words}
use Rattle.exfat.proofs.words.put_part.Goals as goal

pub returns : goal.returns
unfolding part_words
returns c = cc
