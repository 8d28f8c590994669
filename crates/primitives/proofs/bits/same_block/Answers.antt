use Rattle.std.proofs.Common.{◌≡◌, ◌+◌, ◌-◌, eqb, ◌∙◌, rules, tests, arith}
use Rattle.tables.proofs.Chains.{every_from_fold}
use Rattle.search.proofs.Chains.{every-part}
use Rattle.primitives.specs.Internal.{byte_is}
use Rattle.primitives.proofs.bits.same_block.Goals as goal

pub returns : goal.returns
unfolding byte_is
returns c =
    let i = c.args.i in
    let e : i + 64 - i ≡ 64 = omega arith in
    every_from_fold (λ x. eqb x c.args.b) _ _ c.fold.ensures.ran (cc) (λ a x b q k. search (rules, tests)) ∙ every-part _ c.args.bitmap.now i 64 (omega arith)
