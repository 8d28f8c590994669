-- What only contracts of inner functions, and proofs, speak of: no promise of a public call and no clause of the claim needs it.
use Rattle.std.specs.Prelude.{Bool, cond, ℕ, zero, suc, ◌+◌}

-- one past the last of the n numbers from low that fails; low where none does
unfoldable pub past_failing : (ℕ → Bool) → ℕ → ℕ → ℕ
past_failing u low zero = low
past_failing u low (suc n) = cond (u (low + n)) (past_failing u low n) (low + n + 1)
