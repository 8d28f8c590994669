use mathlib.Core.Path.{sym, ◌∙◌}
use native.Mathlib.Omega.{arith}
use Rattle.write_shrink.proofs.Cutting.{end_none, end_run, end_some, last_heap}
use borrow.Author.Rules.{rules}
use borrow.Author.Tests.{not-true, not-false}
use Rattle.write_shrink.proofs.shrink.end_kept.Goals.{else-keep-ne0-via-then-keep-ne0+else-not-a, else-keep-ne0-via-else-keep-ne0}
use Rattle.write_shrink.proofs.shrink.end_kept.Goals as goal

pub set_fat-requires : goal.set_fat-requires
set_fat-requires _ c =
    let p = c.requires in
    let h = last_heap _ _ _ _ _ _ (λ z. omega arith) p.1.1 p.1.0 in
    (omega arith, search rules)

pub returns-then-not-a : goal.returns-then-not-a
returns-then-not-a _ c = (cc) ∙ sym (end_some _ _ _ _ _ _ _ (λ z. omega arith) (not-true _ c.if-not-a.true))

pub returns-else-keep-ne0 : goal.returns-else-keep-ne0
returns-else-keep-ne0 _ c =
    elim c.else-keep-ne0.branch [
      | else-keep-ne0-via-then-keep-ne0+else-not-a w ↦ sym (end_run _ _ _ _ (not-false _ w.if-not-a.false))
      | else-keep-ne0-via-else-keep-ne0 w ↦ sym (end_none _ _ _ _ _ _ _ (omega arith))
    ]
