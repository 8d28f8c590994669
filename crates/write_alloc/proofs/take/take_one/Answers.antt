use mathlib.Core.Path.{sym, ◌∙◌}
use native.Mathlib.Omega.{arith}
use Rattle.write_alloc.proofs.Taking.{one_first, one_more}
use Rattle.write_alloc.proofs.take.take_one.Goals as goal

pub returns-then-prev-ne0 : goal.returns-then-prev-ne0
returns-then-prev-ne0 _ c = (cc) ∙ sym (one_more _ _ _ _ (λ z. omega arith))

pub returns-else-prev-ne0 : goal.returns-else-prev-ne0
returns-else-prev-ne0 _ c = (cc) ∙ sym (one_first _ _ _ _ (omega arith))
