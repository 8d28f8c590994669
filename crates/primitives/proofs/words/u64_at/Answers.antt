use Rattle.std.proofs.Common.{◌∙◌}
use Rattle.primitives.proofs.WordLaws.{part-get}
use Rattle.primitives.proofs.words.u64_at.Goals as goal

pub returns : goal.returns
returns c = (cc) ∙ part-get 7 c.args.s.now c.args.at
