use Prim.Native.Nat.{◌-◌, ◌*◌, ◌/◌, ◌≤◌}
use mathlib.Core.Path.{◌≡◌}
use lib.ListN.{length}
use Rattle.directory.proofs.WindowLaws.{Passing}
use Rattle.directory.proofs.entries.used_windows.Given as goal

abbrev pub invariant-loop-at : goal.invariant-loop-at
invariant-loop-at l = (32 * (l.at / 32) ≡ l.at) × ((l.at ≤ 32800) × Passing l.part l.n l.first (l.at / 32))

abbrev pub decreases-loop-at : goal.decreases-loop-at
decreases-loop-at l = length l.part - l.at
