use mathlib.Core.Path.{◌≡◌}
use Rattle.entry_set.specs.Put.{cleared}
use Rattle.entry_set.proofs.set.cleared.Given as goal

abbrev pub invariant-loop-i : goal.invariant-loop-i
invariant-loop-i l = l.set ≡ cleared l.initial.set l.i
