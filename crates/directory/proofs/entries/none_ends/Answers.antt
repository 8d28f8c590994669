use Prim.Native.Nat.{◌*◌, ◌/◌}
use mathlib.Core.Path.{◌≡◌, ◌∙◌, sym, ap}
use native.Mathlib.Omega.{arith}
use borrow.Author.Rules.{rules}
use borrow.Author.Tests.{eqb-true, eqb-false, tests}
use lib.ListN.{length, take, length-take}
use Rattle.std.specs.List.{list_all}
use Rattle.std.specs.Slice.Iter.{chunks_exact_rest, chunks_exact_steps}
use Rattle.std.proofs.lemmas.Iterator.{YieldsList}
use Rattle.std.proofs.lemmas.Iterator.Search.{all_from_yields_List}
use Rattle.directory.proofs.EndLaws.{both_on, chunks, chunks_give, pairs_no, pairs_even, pairs_odd}
use Rattle.directory.proofs.entries.none_ends.Goals as goal
use Rattle.directory.proofs.entries.none_ends.Goals.{After-all}

turns : (c : After-all) → c.all.result ≡ list_all both_on (chunks (c.args.n / 2) (take (32 * c.args.n) c.args.part.now))
turns c =
    let b = c.chunks_exact-pairs in
    let t = b.ensures.rest in
    let y : YieldsList chunks_exact_steps (λ x. x.now) b.result (chunks (c.args.n / 2) (chunks_exact_rest b.result)) =
    record { runs = chunks_give (c.args.n / 2) b.result b.ensures.size (rw t (simp length-take (omega arith))) (rw t (simp length-take (omega arith))) } in
    all_from_yields_List both_on _ _ c.all.result c.all.ensures.ran y (λ x b q k. search (rules, tests)) ∙ ap (λ s. list_all both_on (chunks (c.args.n / 2) s)) t

pub returns-else-all : goal.returns-else-all
returns-else-all c = pairs_no c.args.part.now c.args.n c.requires.0 c.all.result (turns (goal.at.returns-else-all c).After-all) (cc)

pub returns-then-is_empty : goal.returns-then-is_empty
returns-then-is_empty c =
    let b = c.chunks_exact-pairs.ensures in
    let v = c.remainder-last.ensures in
    c.if-is_empty.true ∙ pairs_even c.args.part.now c.args.n c.requires.0 c.all.result (turns (goal.at.returns-then-is_empty c).After-all) (cc) c.remainder-last.result.now (v ∙ b.remainder) (ap length v ∙ b.remainder_len) (eqb-true (length c.remainder-last.result.now) 0 (sym c.is_empty.ensures ∙ c.if-is_empty.true))

pub returns-else-is_empty : goal.returns-else-is_empty
returns-else-is_empty c =
    let b = c.chunks_exact-pairs.ensures in
    let v = c.remainder-last.ensures in
    pairs_odd c.args.part.now c.args.n c.requires.0 c.all.result (turns (goal.at.returns-else-is_empty c).After-all) (cc) c.remainder-last.result.now (v ∙ b.remainder) (ap length v ∙ b.remainder_len) (eqb-false (length c.remainder-last.result.now) 0 (sym c.is_empty.ensures ∙ c.if-is_empty.false))
