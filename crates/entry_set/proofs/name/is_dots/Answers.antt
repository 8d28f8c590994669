use mathlib.Core.Path.{◌≡◌, refl}
use mathlib.Core.Bool.{◌||◌}
use mathlib.Core.List.{List, [], ◌∷◌}
use Prim.Native.Nat.{ℕ}
use native.Mathlib.Omega.{arith}
use lib.Dec.{eqb}
use lib.Pointwise.{pointwise}
use Rattle.std.proofs.lemmas.Grind.{common_steps}
use Rattle.entry_set.specs.Name.{is_dots}
use Rattle.entry_set.proofs.name.is_dots.Goals as goal

dots_are : (l : List ℕ) → is_dots l ≡ pointwise eqb l (46 ∷ []) || pointwise eqb l (46 ∷ 46 ∷ [])
unfolding is_dots
dots_are [] = refl
dots_are (x ∷ []) = grind (arith, common_steps)
dots_are (x ∷ y ∷ []) = grind (arith, common_steps)
dots_are (x ∷ y ∷ z ∷ l) = grind (arith, common_steps)

pub returns-then-eq : goal.returns-then-eq
returns-then-eq c = grind (arith, dots_are)

pub returns-else-eq : goal.returns-else-eq
returns-else-eq c = grind (arith, dots_are)
