use mathlib.Core.Path.{refl}
use native.Mathlib.Omega.{arith}
use Rattle.entry_set.specs.Fields.{name_entries}
use Rattle.entry_set.proofs.set.name_entries.Goals as goal

pub returns : goal.returns
unfolding name_entries
returns c = (refl, omega arith)
