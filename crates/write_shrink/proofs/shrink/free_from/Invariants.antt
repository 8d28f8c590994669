use Prim.Native.Nat.{◌-◌}
use mathlib.Core.Bool.{true}
use mathlib.Core.Path.{◌≡◌}
use Rattle.tables.specs.Lists.{every, Distinct}
use Rattle.boot.specs.Layout.{in_heap}
use Rattle.metadata.specs.Fat.{fat_entry}
use Rattle.stream.specs.Internal.{along}
use Rattle.write_shrink.specs.Shrink.{free_all}
use Rattle.write_shrink.proofs.shrink.free_from.Given as goal

abbrev pub invariant-loop : goal.invariant-loop
invariant-loop _ l = (every (in_heap l.sys.y.count) (along (fat_entry l.sys.y l.vol) l.run l.k (l.n - l.counter)) ≡ true) × (Distinct (along (fat_entry l.sys.y l.vol) l.run l.k (l.n - l.counter)) × (free_all l.sys.y l.vol (along (fat_entry l.sys.y l.vol) l.run l.k (l.n - l.counter)) ≡ free_all l.sys.y l.initial.vol (along (fat_entry l.sys.y l.initial.vol) l.run l.first l.n)))
