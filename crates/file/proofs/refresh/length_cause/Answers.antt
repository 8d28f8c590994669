use Rattle.std.proofs.Common.{sym, arith, leb-false, leb-true}
use Rattle.file.proofs.RefreshLaws.{length_met, length_kept}
use Rattle.file.proofs.refresh.length_cause.Goals as goal

pub returns-then-needed-there : goal.returns-then-needed-there
returns-then-needed-there _ c = sym (length_kept _ _ _ _ _ (omega arith))

pub returns-then-enough : goal.returns-then-enough
returns-then-enough _ c = sym (length_kept _ _ _ _ _ (leb-true _ _ (cc)))

pub returns : goal.returns
returns _ c = sym (length_met _ _ _ _ _ (leb-false _ _ (cc)))
