use Prim.Native.Nat.{◌+◌, ◌-◌, ◌≤◌}
use mathlib.Core.Path.{◌≡◌}
use Rattle.tables.specs.Count.{count}
use Rattle.metadata.specs.Usable.{is_usable}
use Rattle.choice.proofs.choice.counts_to.Given as goal

abbrev pub invariant-loop : goal.invariant-loop
invariant-loop _ l = (2 ≤ l.k) × ((l.k ≤ l.end) × (l.counter + count (is_usable l.sys.y l.vol l.sys.map.now) l.k (l.end - l.k) ≡ count (is_usable l.sys.y l.vol l.sys.map.now) 2 l.sys.y.count))
