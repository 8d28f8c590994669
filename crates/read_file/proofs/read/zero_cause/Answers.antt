use lib.ListN.{length}
use mathlib.Core.Path.{sym, ◌∙◌}
use borrow.Author.Tests.{eqb-true, eqb-false}
use Rattle.read_file.proofs.ReadSteps.{zero-empty, zero_tested}
use Rattle.read_file.proofs.read.zero_cause.Goals as goal
use Rattle.read_file.proofs.read.zero_cause.Goals.{else-not-is_empty-via-then-not-is_empty+else-all_zero, else-not-is_empty-via-else-not-is_empty}

pub returns-then-all_zero : goal.returns-then-all_zero
returns-then-all_zero c =
    zero_tested _ _ (eqb-false (length c.args.zeros.now) 0 (sym c.is_empty.ensures ∙ c.if-not-is_empty.true)) (sym c.all_zero.ensures ∙ c.if-all_zero.true)

pub returns : goal.returns
returns c =
    elim c.else-not-is_empty.branch [
      | else-not-is_empty-via-then-not-is_empty+else-all_zero w ↦
          zero_tested _ _ (eqb-false (length c.args.zeros.now) 0 (sym c.is_empty.ensures ∙ w.if-not-is_empty.true)) (sym w.all_zero.ensures ∙ w.if-all_zero.false)
      | else-not-is_empty-via-else-not-is_empty w ↦ zero-empty _ (eqb-true (length c.args.zeros.now) 0 (sym c.is_empty.ensures ∙ w.if-not-is_empty.false))
    ]
