use Rattle.metadata.specs.Marks.{set_mark, mark_byte}
use Rattle.metadata.proofs.bitmap.mark.Goals as goal

pub returns : goal.returns
unfolding set_mark mark_byte
returns _ c = cc
