use Rattle.std.proofs.Common.{◌*◌, ◌/◌, take, ◌∙◌, arith, rules}
use Rattle.std.proofs.lemmas.Iterator.{YieldsList-from_slice, YieldsList-from_map}
use Rattle.std.proofs.lemmas.Iterator.Consumers.{fits_by_from_yields_list}
use Rattle.primitives.proofs.CountLaws.{count_le, whole_bytes, ones_from_sum, last_byte, no_rest}
use lib.Count.{ones}
use Rattle.primitives.proofs.count.bitmap_count.Goals as goal

pub sum-sum-requires-clause-fits : goal.sum-sum-requires-clause-fits
sum-sum-requires-clause-fits c =
    let l = c.args.bitmap.now in
    let i = c.args.count / 8 in
    fits_by_from_yields_list ones (take i l) _ _
    (YieldsList-from_map _ ones (YieldsList-from_slice (take i l) (cc)) c.map.ensures.closure (λ x r q k. search rules))
    (omega (arith, whole_bytes l i (λ k. (c.type_inv.bitmap k).fits) (omega arith), count_le l (i * 8)))

pub overflow_add-sum : goal.overflow_add-sum
overflow_add-sum c =
    let l = c.args.bitmap.now in
    let n = c.args.count in
    let i = n / 8 in
    let w = ones_from_sum l i c.sum-sum.result (λ k. (c.type_inv.bitmap k).fits) (omega arith) c.sum-sum.ensures.ran (cc) c.map.ensures.closure (λ x r q k. search rules) in
    let e = last_byte l n i (omega arith) (c.type_inv.bitmap i).fits in
    omega (arith, w, e, count_le l n)

pub returns-then-rest-ne0 : goal.returns-then-rest-ne0
returns-then-rest-ne0 c =
    let l = c.args.bitmap.now in
    let n = c.args.count in
    let i = n / 8 in
    let w = ones_from_sum l i c.sum-sum.result (λ k. (c.type_inv.bitmap k).fits) (omega arith) c.sum-sum.ensures.ran (cc) c.map.ensures.closure (λ x r q k. search rules) in
    let e = last_byte l n i (omega arith) (c.type_inv.bitmap i).fits in
    omega (arith, w, e)

pub returns-else-rest-ne0 : goal.returns-else-rest-ne0
returns-else-rest-ne0 c =
    let l = c.args.bitmap.now in
    let n = c.args.count in
    let i = n / 8 in
    ones_from_sum l i c.sum-sum.result (λ k. (c.type_inv.bitmap k).fits) (omega arith) c.sum-sum.ensures.ran (cc) c.map.ensures.closure (λ x r q k. search rules)
    ∙ no_rest l n i (omega arith) (omega arith)
