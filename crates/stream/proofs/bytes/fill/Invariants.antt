use Prim.Native.Nat.{◌+◌, ◌-◌, ◌/◌}
use mathlib.Core.Path.{◌≡◌}
use mathlib.Core.Bool.{false}
use lib.ListN.{replicate}
use Rattle.metadata.specs.Fat.{fat_entry}
use Rattle.stream.specs.Internal.{along, reached}
use Rattle.stream.specs.Bytes.{store_at}
use Rattle.stream.proofs.ByteWalkLaws.{Storing, Reaching}
use Rattle.stream.proofs.bytes.fill.Given as goal

abbrev pub invariant-loop-piece : goal.invariant-loop-piece
invariant-loop-piece _ l =
    record {
      storing : Storing l.sys.y l.vol l.walk (replicate l.n 0) (store_at l.sys.y l.initial.vol (along (fat_entry l.sys.y l.initial.vol) l.a.no_fat_chain l.a.first l.a.count) l.at (replicate l.n 0));
      same_run : l.walk.run ≡ l.a.no_fat_chain;
      reaching : l.a.no_fat_chain ≡ false → Reaching l.sys.y l.vol l.walk l.last (reached (fat_entry l.sys.y l.initial.vol) l.a.no_fat_chain l.a.first ((l.at + l.n - 1) / l.sys.y.size));
    }

abbrev pub decreases-loop-piece : goal.decreases-loop-piece
decreases-loop-piece _ l = l.walk.end - l.walk.from
