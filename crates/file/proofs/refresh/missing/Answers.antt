use Rattle.std.proofs.Common.{arith}
use Rattle.file.specs.Refresh.{missing}
use Rattle.file.proofs.refresh.missing.Goals as goal

pub overflow_cast-result : goal.overflow_cast-result
unfolding missing
overflow_cast-result _ c = omega (arith, c.clusters_for.ensures, c.saturating_sub.ensures, c.requires)

pub returns : goal.returns
unfolding missing
returns _ c = omega (arith, c.clusters_for.ensures, c.saturating_sub.ensures)
