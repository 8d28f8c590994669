use Prim.Native.Nat.{ℕ, ◌-◌, ◌≤◌, ◌<◌}
use mathlib.Core.Path.{◌≡◌}
use mathlib.Core.Bool.{false}
use mathlib.Core.List.{List}
use Rattle.boot.specs.declared.layout.Layout.{Layout}
use Rattle.metadata.specs.Usable.{is_usable}
use Rattle.metadata.proofs.usable.next_usable.Given as goal

-- none of the clusters from k to at is usable
abbrev pub NoneTo : (y : Layout) (d m : List ℕ) (k at : ℕ) → Type 0
NoneTo y d m k at = (j : ℕ) → k ≤ j → j < at → is_usable y d m j ≡ false

abbrev pub invariant-loop-at : goal.invariant-loop-at
invariant-loop-at _ l = (l.k ≤ l.at) × ((l.at ≤ l.end) × NoneTo l.sys.y l.vol l.sys.map.now l.k l.at)

abbrev pub decreases-loop-at : goal.decreases-loop-at
decreases-loop-at _ l = l.end - l.at
