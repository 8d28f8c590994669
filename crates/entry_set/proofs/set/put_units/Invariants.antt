use mathlib.Core.Path.{◌≡◌}
use Rattle.entry_set.specs.New.{put_units}
use Rattle.entry_set.proofs.set.put_units.Given as goal

abbrev pub invariant-loop-i : goal.invariant-loop-i
invariant-loop-i l = l.set ≡ put_units l.initial.set l.name l.i
