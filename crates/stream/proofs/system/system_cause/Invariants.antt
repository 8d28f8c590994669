use Prim.Native.Nat.{◌-◌}
use mathlib.Core.Bool.{true}
use mathlib.Core.Path.{◌≡◌}
use Rattle.tables.specs.Lists.{every}
use Rattle.boot.specs.Layout.{in_heap}
use Rattle.metadata.specs.Fat.{fat_entry}
use Rattle.stream.specs.Internal.{along}
use Rattle.stream.specs.Stream.{system_cause}
use Rattle.stream.proofs.system.system_cause.Given as goal

abbrev pub invariant-loop : goal.invariant-loop
invariant-loop _ l = (every (in_heap l.sys.y.count) (along (fat_entry l.sys.y l.vol) l.fn.run l.k (l.n - l.counter)) ≡ true) × (system_cause l.sys.map.now (along (fat_entry l.sys.y l.vol) l.fn.run l.k (l.n - l.counter)) ≡ system_cause l.sys.map.now (along (fat_entry l.sys.y l.vol) l.fn.run l.first l.n))
