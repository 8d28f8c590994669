use mathlib.Core.Path.{refl}
use native.Mathlib.Omega.{arith}
use Rattle.entry_set.specs.New.{unit_at}
use Rattle.entry_set.proofs.set.unit_at.Goals as goal

pub returns : goal.returns
unfolding unit_at
returns c = (refl, omega arith)
