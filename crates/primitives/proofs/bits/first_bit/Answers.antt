use Rattle.std.proofs.Common.{sym, ◌∙◌, arith}
use Rattle.search.proofs.Lowest.{fewest_end, fewest_within}
use Rattle.primitives.proofs.ByteLaws.{full_byte, zero_byte, bit_here, bit_next, bit_bytes}
use Rattle.primitives.proofs.bits.first_bit.Goals as goal

pub returns-then-b-at : goal.returns-then-b-at
returns-then-b-at c =
    let l = c.loop-at in
    fewest_within _ _ _ _ (sym (sym l.invariant.1.1 ∙ bit_here _ _ l.at _ (omega arith) c.if-b-at.true))

pub loop-at-preserved-then-next-ne0 : goal.loop-at-preserved-then-next-ne0
loop-at-preserved-then-next-ne0 c =
    let l = c.loop-at in
    (omega arith, (omega arith, bit_next _ _ l.at _ (omega arith) c.if-b-at.false ∙ l.invariant.1.1))

pub loop-at-preserved-then-v-eq0 : goal.loop-at-preserved-then-v-eq0
loop-at-preserved-then-v-eq0 c =
    let l = c.loop-at in
    (omega arith, (omega arith, bit_bytes _ _ 255 (λ i h z. omega (arith, full_byte i h)) l.at _ _ _ (omega arith) c.if-b-at.false c.past_bytes-at.ensures.0 ∙ l.invariant.1.1))

pub loop-at-preserved : goal.loop-at-preserved
loop-at-preserved c =
    let l = c.loop-at in
    (omega arith, (omega arith, bit_bytes _ _ 0 (λ i h z. omega (arith, zero_byte i h)) l.at _ _ _ (omega arith) c.if-b-at.false c.past_bytes-at-else-v-eq0.ensures.0 ∙ l.invariant.1.1))

pub returns : goal.returns
returns c =
    let l = c.loop-at in
    fewest_within _ _ _ _ (sym (sym l.invariant.1.1 ∙ fewest_end _ _ _ (omega arith)))
