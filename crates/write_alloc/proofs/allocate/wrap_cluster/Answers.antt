use native.Mathlib.Omega.{arith}
use Rattle.std.proofs.lemmas.Grind.{common_steps}
use Rattle.boot.specs.Causes.{wrap}
use Rattle.write_alloc.proofs.allocate.wrap_cluster.Goals as goal

pub returns-then-k-count : goal.returns-then-k-count
unfolding wrap
returns-then-k-count c = grind (arith, common_steps)

pub returns-else-k-count : goal.returns-else-k-count
unfolding wrap
returns-else-k-count c = grind (arith, common_steps)
