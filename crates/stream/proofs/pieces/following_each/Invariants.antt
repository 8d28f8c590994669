use mathlib.Core.Bool.{true, false}
use mathlib.Core.Path.{◌≡◌}
use Prim.Native.Nat.{◌+◌, ◌-◌}
use Rattle.tables.specs.Lists.{every}
use Rattle.boot.specs.Layout.{in_heap}
use Rattle.metadata.specs.Fat.{fat_entry}
use Rattle.stream.specs.Internal.{along}
use Rattle.stream.specs.Pieces.{following}
use Rattle.stream.proofs.pieces.following_each.Given as goal

abbrev pub invariant-loop-i : goal.invariant-loop-i
invariant-loop-i _ l = (every (in_heap l.sys.y.count) (along (fat_entry l.sys.y l.vol) false (l.k + l.i) (l.n - l.i + 1)) ≡ true) × (l.i + following (l.k + l.i) (along (fat_entry l.sys.y l.vol) false (fat_entry l.sys.y l.vol (l.k + l.i)) (l.n - l.i)) ≡ following l.k (along (fat_entry l.sys.y l.vol) false (fat_entry l.sys.y l.vol l.k) l.n))
