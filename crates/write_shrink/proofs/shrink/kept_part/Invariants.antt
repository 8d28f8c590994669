use Prim.Native.Nat.{◌+◌, ◌-◌, ◌<◌}
use mathlib.Core.Bool.{true}
use mathlib.Core.Path.{◌≡◌}
use Rattle.tables.specs.Lists.{every}
use Rattle.boot.specs.Layout.{in_heap}
use Rattle.metadata.specs.Fat.{fat_entry}
use Rattle.stream.specs.Internal.{after, along}
use Rattle.write_shrink.specs.Internal.{kept_part}
use Rattle.write_shrink.proofs.Cutting.{walk_kept}
use Rattle.write_shrink.proofs.shrink.kept_part.Given as goal

abbrev pub invariant-loop : goal.invariant-loop
invariant-loop _ l = (l.last < l.sys.y.count + 2) × ((l.next ≡ after (fat_entry l.sys.y l.vol) l.run l.last) × ((every (in_heap l.sys.y.count) (along (fat_entry l.sys.y l.vol) l.run l.next (l.n - l.counter)) ≡ true) × (walk_kept (fat_entry l.sys.y l.vol) l.run l.rising l.last (l.n - l.counter) ≡ kept_part (fat_entry l.sys.y l.vol) l.run l.first l.n)))
