use mathlib.Core.Bool.{true, false}
use mathlib.Core.Path.{◌≡◌}
use Prim.Native.Nat.{◌+◌, ◌-◌, ◌≤◌}
use Rattle.tables.specs.Lists.{every}
use Rattle.boot.specs.Layout.{in_heap}
use Rattle.metadata.specs.Fat.{fat_entry}
use Rattle.stream.specs.Internal.{along}
use Rattle.stream.specs.Pieces.{following}
use Rattle.stream.proofs.pieces.following.Given as goal

abbrev pub invariant-loop-done : goal.invariant-loop-done
invariant-loop-done _ l = (l.done ≤ l.n) × ((every (in_heap l.sys.y.count) (along (fat_entry l.sys.y l.vol) false (l.k + l.done) (l.n - l.done + 1)) ≡ true) × (l.done + following (l.k + l.done) (along (fat_entry l.sys.y l.vol) false (fat_entry l.sys.y l.vol (l.k + l.done)) (l.n - l.done)) ≡ following l.k (along (fat_entry l.sys.y l.vol) false (fat_entry l.sys.y l.vol l.k) l.n)))

abbrev pub decreases-loop-done : goal.decreases-loop-done
decreases-loop-done _ l = l.n - l.done
