use mathlib.Core.Path.{sym, ◌∙◌}
use native.Mathlib.Omega.{arith}
use Rattle.stream.proofs.ChainLaws.{run_wrong, run_number}
use Rattle.stream.proofs.walk.read_run.Goals as goal

pub returns-then-from : goal.returns-then-from
returns-then-from _ c = sym (run_wrong _ _ _ _ _ (λ z. omega arith))

pub returns : goal.returns
returns _ c = (cc) ∙ sym (run_number _ _ _ _ _ (omega arith))
