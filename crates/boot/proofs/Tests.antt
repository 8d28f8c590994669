-- Tests and facts: what the parts of a list of tests say. Assumes nothing.
use mathlib.Core.Path.{◌≡◌, refl}
use mathlib.Core.List.{List, [], ◌∷◌}
use mathlib.Core.Bool.{Bool, true}
use Rattle.tables.proofs.Cases.{and_left, and_right, and_both}
use Rattle.boot.specs.Limits.{all}

-- each test of a list holds
abbrev pub Each : List Bool → Type 0
Each [] = Unit
Each (b ∷ bs) = (b ≡ true) × Each bs

pub each_of : (bs : List Bool) → all bs ≡ true → Each bs
each_of [] e = tt
each_of (b ∷ bs) e = (and_left b (all bs) e, each_of bs (and_right b (all bs) e))

pub of_each : (bs : List Bool) → Each bs → all bs ≡ true
of_each [] f = refl
of_each (b ∷ bs) f = and_both b (all bs) f.0 (of_each bs f.1)
