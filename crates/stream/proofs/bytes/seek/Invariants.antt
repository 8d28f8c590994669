use Prim.Native.Nat.{◌-◌}
use mathlib.Core.Path.{◌≡◌}
use mathlib.Core.Bool.{true}
use Rattle.tables.specs.Lists.{every}
use Rattle.boot.specs.Layout.{in_heap}
use Rattle.metadata.specs.Fat.{fat_entry}
use Rattle.stream.specs.Internal.{along, reached}
use Rattle.stream.proofs.bytes.seek.Given as goal

abbrev pub invariant-loop : goal.invariant-loop
invariant-loop _ l = (every (in_heap l.sys.y.count) (along (fat_entry l.sys.y l.vol) l.fn.run l.k (l.steps - l.counter)) ≡ true) × (reached (fat_entry l.sys.y l.vol) l.fn.run l.k (l.steps - l.counter) ≡ reached (fat_entry l.sys.y l.vol) l.fn.run l.first l.steps)
