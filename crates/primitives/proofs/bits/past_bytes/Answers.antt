use Rattle.std.proofs.Common.{sym, ◌∙◌, arith}
use Rattle.search.proofs.Lowest.{fewest_within}
use Rattle.primitives.proofs.ByteLaws.{to_all, to_bytes}
use Rattle.primitives.proofs.bits.past_bytes.Goals as goal

pub loop-at-init : goal.loop-at-init
loop-at-init c = (omega arith, to_all _ _ _ _ _ (omega arith))

pub loop-at-preserved : goal.loop-at-preserved
loop-at-preserved c =
    let l = c.loop-at in
    (omega arith, sym (to_bytes _ _ 64 l.at _ (omega arith) (omega arith) (sym c.same_block.ensures ∙ c.if-same_block.true)) ∙ l.invariant.1)

pub returns : goal.returns
returns c = fewest_within _ _ _ _ (c.past_each_byte.ensures ∙ sym (to_all _ _ _ _ _ (omega arith)) ∙ c.loop-at.invariant.1)
