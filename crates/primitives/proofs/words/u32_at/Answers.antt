use Rattle.std.proofs.Common.{◌∙◌}
use Rattle.primitives.proofs.WordLaws.{part-get}
use Rattle.primitives.proofs.words.u32_at.Goals as goal

pub returns : goal.returns
returns c = (cc) ∙ part-get 3 c.args.s.now c.args.at
