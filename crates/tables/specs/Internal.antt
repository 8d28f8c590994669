-- Tables with several entries changed, and a table cut to the keys that a test passes: what only proofs speak of.
use Rattle.std.specs.Prelude.{Bool, cond, List, [], ◌∷◌, ℕ}
use Rattle.tables.specs.Table.{upd}

module _ {ℓ} {A : Type ℓ} where
  -- the table with v at each key of a list
  unfoldable pub upd_all : (ℕ → A) → List ℕ → A → ℕ → A
  upd_all f [] v = f
  upd_all f (k ∷ ks) v = upd (upd_all f ks v) k v

  -- the table with z at each key that the test does not pass
  unfoldable pub only : (ℕ → Bool) → A → (ℕ → A) → ℕ → A
  only p z f k = cond (p k) (f k) z
