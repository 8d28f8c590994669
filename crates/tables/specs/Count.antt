-- The numbers lo, .. , lo + n - 1 that pass a test: how many they are, and their list, lowest first.
use Rattle.std.specs.Prelude.{Bool, true, false, cond, List, [], ◌∷◌, ℕ, zero, suc, ◌+◌}

-- 1 for true, 0 for false
abbrev pub one : Bool → ℕ
one true = 1
one false = 0

-- how many pass
unfoldable pub count : (ℕ → Bool) → ℕ → ℕ → ℕ
count p lo zero = 0
count p lo (suc n) = one (p lo) + count p (suc lo) n

-- those that pass, lowest first
unfoldable pub keep : (ℕ → Bool) → ℕ → ℕ → List ℕ
keep p lo zero = []
keep p lo (suc n) = cond (p lo) (lo ∷ keep p (suc lo) n) (keep p (suc lo) n)
