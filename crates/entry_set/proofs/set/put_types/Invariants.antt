use mathlib.Core.Path.{◌≡◌}
use Rattle.entry_set.specs.New.{put_types}
use Rattle.entry_set.proofs.set.put_types.Given as goal

abbrev pub invariant-loop-i : goal.invariant-loop-i
invariant-loop-i l = l.set ≡ put_types l.initial.set l.i
