use Prim.Native.Nat.{◌-◌}
use lib.ListN.{length, take, drop}
use Rattle.metadata.specs.Fat.{fat_entry}
use Rattle.stream.specs.Internal.{along}
use Rattle.stream.specs.Bytes.{bytes_of}
use Rattle.stream.proofs.ByteWalkLaws.{Reading}
use Rattle.stream.proofs.bytes.read.Given as goal

abbrev pub invariant-loop-piece : goal.invariant-loop-piece
invariant-loop-piece _ l = Reading l.sys.y l.vol l.dst l.walk (take (length l.initial.dst) (drop l.at (bytes_of l.sys.y l.vol (along (fat_entry l.sys.y l.vol) l.fn.a.no_fat_chain l.fn.a.first l.fn.a.count))))

abbrev pub decreases-loop-piece : goal.decreases-loop-piece
decreases-loop-piece _ l = l.walk.end - l.walk.from
