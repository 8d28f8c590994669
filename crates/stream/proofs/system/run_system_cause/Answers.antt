use mathlib.Core.Path.{sym}
use mathlib.Core.Bool.{true, false}
use native.Mathlib.Omega.{arith}
use Rattle.stream.proofs.SystemLaws.{run-system}
use Rattle.stream.proofs.system.run_system_cause.Goals as goal

pub returns-then-none_set : goal.returns-then-none_set
returns-then-none_set c = sym (run-system _ _ _ true (omega arith) (cc))

pub returns-else-none_set : goal.returns-else-none_set
returns-else-none_set c = sym (run-system _ _ _ false (omega arith) (cc))
