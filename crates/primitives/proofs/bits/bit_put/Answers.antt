use Rattle.std.proofs.Common.{sym, ◌∙◌}
use Rattle.primitives.proofs.BitLaws.{put_on, put_off}
use Rattle.primitives.proofs.bits.bit_put.Goals as goal

pub returns-then-on : goal.returns-then-on
returns-then-on c = (cc) ∙ sym (put_on _ _ _ (cc))

pub returns-else-on : goal.returns-else-on
returns-else-on c = (cc) ∙ sym (put_off _ _ _ (cc))
