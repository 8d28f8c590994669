use Prim.Native.Nat.{◌-◌}
use mathlib.Core.Bool.{true}
use mathlib.Core.Path.{◌≡◌}
use lib.ListN.{take, drop}
use Rattle.primitives.specs.Splice.{splice}
use Rattle.tables.specs.Lists.{every}
use Rattle.boot.specs.Layout.{in_heap}
use Rattle.metadata.specs.Fat.{fat_entry}
use Rattle.stream.specs.Internal.{along}
use Rattle.stream.proofs.list.write_clusters.Given as goal

abbrev pub invariant-loop-place : goal.invariant-loop-place
invariant-loop-place _ l = (l.place-items ≡ splice l.initial.place-items 0 (take l.place-index (along (fat_entry l.sys.y l.vol) l.a.no_fat_chain l.a.first l.a.count))) × ((drop l.place-index (along (fat_entry l.sys.y l.vol) l.a.no_fat_chain l.a.first l.a.count) ≡ along (fat_entry l.sys.y l.vol) l.a.no_fat_chain l.k (l.a.count - l.place-index)) × (every (in_heap l.sys.y.count) (along (fat_entry l.sys.y l.vol) l.a.no_fat_chain l.k (l.a.count - l.place-index)) ≡ true))
