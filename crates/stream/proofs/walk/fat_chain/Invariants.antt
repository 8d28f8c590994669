use Prim.Native.Nat.{◌+◌, ◌-◌, ◌≤◌, ◌<◌}
use mathlib.Core.Bool.{not}
use mathlib.Core.Path.{◌≡◌}
use Rattle.metadata.specs.Fat.{fat_entry}
use Rattle.metadata.specs.Marks.{marked}
use Rattle.stream.specs.Chain.{read_chain}
use Rattle.stream.specs.Internal.{barred, walked}
use Rattle.stream.proofs.ChainLaws.{walk_at, chain_left}
use Rattle.stream.proofs.walk.fat_chain.Given as goal

abbrev pub invariant-loop-before : goal.invariant-loop-before
invariant-loop-before _ l = (2 ≤ l.k) × ((l.k < l.sys.y.count + 2) × (walk_at (marked l.sys.y l.vol) (λ j. not (barred l.sys.y l.sys.map.now l.root j)) l.goal 0 l.before l.all l.clear l.seen (chain_left l.sys.y.count (fat_entry l.sys.y l.vol) (l.sys.y.count - l.before) l.k) ≡ walked (marked l.sys.y l.vol) (λ j. not (barred l.sys.y l.sys.map.now l.root j)) l.goal (read_chain l.sys.y.count (fat_entry l.sys.y l.vol) l.first)))
