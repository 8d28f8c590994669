use mathlib.Core.Path.{sym, ◌∙◌}
use mathlib.Core.Bool.{false≢true}
use native.Mathlib.Omega.{arith}
use borrow.Author.Tests.{leb-true, leb-false}
use borrow.Author.Rules.{rules}
use Rattle.boot.proofs.Apart.{in_heap_lem}
use Rattle.choice.proofs.ChoiceLaws.{fits_outside, fits_past, fits_in}
use Rattle.choice.proofs.choice.run_fits.Goals.{then-in_heap, else-in_heap}
use Rattle.choice.proofs.choice.run_fits.Goals as goal

pub overflow_sub-sys : goal.overflow_sub-sys
overflow_sub-sys _ c =
    let i = in_heap_lem c.args.sys.now.y.count c.args.near (cc) in
    omega arith

pub run_is_free-requires : goal.run_is_free-requires
run_is_free-requires _ c =
    elim c.if-in_heap.branch [
      | then-in_heap w ↦ (let i = in_heap_lem c.args.sys.now.y.count c.args.near (cc) in let h = leb-true c.args.n w.from.result (cc) in search rules)
      | else-in_heap w ↦ absurd (false≢true (cc))
    ]

pub returns-then-n-from : goal.returns-then-n-from
returns-then-n-from _ c =
    elim c.if-in_heap.branch [
      | then-in_heap w ↦
          let i = in_heap_lem c.args.sys.now.y.count c.args.near (cc) in
          let h = leb-true c.args.n w.from.result (cc) in
          c.run_is_free.ensures ∙ sym (fits_in _ _ _ _ (cc) (omega arith))
      | else-in_heap w ↦ absurd (false≢true (cc))
    ]

pub returns-else-n-from : goal.returns-else-n-from
returns-else-n-from _ c =
    elim c.if-in_heap.branch [
      | then-in_heap w ↦
          let i = in_heap_lem c.args.sys.now.y.count c.args.near (cc) in
          let h = leb-false c.args.n w.from.result (cc) in
          c.if-n-from.false ∙ sym (fits_past _ _ _ _ (cc) (omega arith))
      | else-in_heap w ↦ c.if-n-from.false ∙ sym (fits_outside _ _ _ _ (cc))
    ]
