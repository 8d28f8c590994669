use mathlib.Core.Path.{sym, ◌∙◌}
use native.Mathlib.Omega.{arith}
use Rattle.choice.proofs.FirstLaws.{first_after, first_before}
use Rattle.choice.proofs.choice.first_usable.Goals as goal

pub returns-in-Some : goal.returns-in-Some
returns-in-Some _ c = let s = c.in-Some.ensures in sym (first_after _ _ _ (omega arith) (omega arith) _ s.0 (omega arith))

pub returns : goal.returns
returns _ c = c.unwrap_or.ensures ∙ sym (first_before _ _ _ (omega arith) (omega arith) c.in_default.ensures _ c.next_usable-2.ensures)
