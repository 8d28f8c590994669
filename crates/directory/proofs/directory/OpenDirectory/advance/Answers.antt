use mathlib.Core.Path.{sym, ◌∙◌}
use native.Mathlib.Omega.{arith}
use Rattle.directory.proofs.CursorLaws.{next_here, next_over}
use Rattle.directory.proofs.directory.OpenDirectory.advance.Goals as goal

pub returns-then-e-self : goal.returns-then-e-self
returns-then-e-self _ c = sym (next_here _ _ _ _ (omega arith))

pub returns : goal.returns
returns _ c = (cc) ∙ sym (next_over _ _ _ _ (omega arith))
