use Prim.Native.Nat.{◌-◌}
use Rattle.metadata.specs.Fat.{fat_entry}
use Rattle.stream.specs.Internal.{along}
use Rattle.stream.specs.Bytes.{store_at}
use Rattle.stream.proofs.ByteWalkLaws.{Storing}
use Rattle.stream.proofs.bytes.store.Given as goal

abbrev pub invariant-loop-piece : goal.invariant-loop-piece
invariant-loop-piece _ l = Storing l.sys.y l.vol l.walk l.src (store_at l.sys.y l.initial.vol (along (fat_entry l.sys.y l.initial.vol) l.fn.a.no_fat_chain l.fn.a.first l.fn.a.count) l.at l.src)

abbrev pub decreases-loop-piece : goal.decreases-loop-piece
decreases-loop-piece _ l = l.walk.end - l.walk.from
