-- Total tables, ℕ → A: one entry changed.
use Rattle.std.specs.Prelude.{cond, ℕ, eqb}

module _ {ℓ} {A : Type ℓ} where
  -- the table with v at key k
  unfoldable pub upd : (ℕ → A) → ℕ → A → ℕ → A
  upd f k v j = cond (eqb j k) v (f j)
