use Rattle.metadata.specs.Marks.{marked, mark_byte}
use Rattle.metadata.proofs.bitmap.allocated.Goals as goal

pub returns : goal.returns
unfolding marked mark_byte
returns _ c = cc
