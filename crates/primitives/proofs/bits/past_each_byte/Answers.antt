use Rattle.std.proofs.Common.{sym, ◌∙◌, arith}
use Rattle.primitives.proofs.ByteLaws.{to_all, to_stop, to_byte, to_end}
use Rattle.primitives.proofs.bits.past_each_byte.Goals as goal

pub loop-at-init : goal.loop-at-init
loop-at-init c = (omega arith, to_all _ _ _ _ _ (omega arith))

pub returns-then-bitmap-i : goal.returns-then-bitmap-i
returns-then-bitmap-i c = sym (sym c.loop-at.invariant.1 ∙ to_stop _ _ _ _ (omega arith) (λ z. omega arith))

pub loop-at-preserved : goal.loop-at-preserved
loop-at-preserved c = (omega arith, sym (to_byte _ _ _ _ (omega arith) (omega arith)) ∙ c.loop-at.invariant.1)

pub returns : goal.returns
returns c = sym (to_end _ _ _ _ (omega arith)) ∙ c.loop-at.invariant.1
