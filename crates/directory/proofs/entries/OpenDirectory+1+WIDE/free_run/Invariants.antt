use Prim.Native.Nat.{◌-◌, ◌≤◌}
use mathlib.Core.Path.{◌≡◌}
use Rattle.directory.specs.Internal.{bytes, nth_entry}
use Rattle.directory.proofs.RoomLaws.{Passed}
use Rattle.directory.proofs.entries.OpenDirectory+1+WIDE.free_run.Given as goal

abbrev pub invariant-loop-base : goal.invariant-loop-base
invariant-loop-base _ l = (l.base ≤ l.total) × ((l.e ≡ nth_entry l.self l.base) × Passed (bytes l.self) l.need l.base)

abbrev pub decreases-loop-base : goal.decreases-loop-base
decreases-loop-base _ l = l.total - l.base
