-- Searches over a test of numbers: all of a row, the lowest row, the least number.
use Rattle.std.specs.Prelude.{Bool, true, ◌&&◌, cond, ℕ, zero, suc, ◌+◌, ◌-◌, Option, Some, None}

-- the n numbers from k all pass
unfoldable pub all_from : (ℕ → Bool) → ℕ → ℕ → Bool
all_from u k zero = true
all_from u k (suc n) = all_from u k n && u (k + n)

-- the lowest of the starts s, .. , s + tries - 1 from which n numbers pass
unfoldable pub first_run : (ℕ → Bool) → ℕ → ℕ → ℕ → Option ℕ
first_run u n zero s = None
first_run u n (suc tries) s = cond (all_from u s n) (Some s) (first_run u n tries (s + 1))

-- the lowest run of n numbers that pass which starts at or after s and ends below end
unfoldable pub run_from : (u : ℕ → Bool) (end n s : ℕ) → Option ℕ
run_from u end n s = first_run u n (end + 1 - (n + s)) s

-- the least of the numbers g, g + 1, .. that a test takes, n of them tried
unfoldable pub fewest : (ℕ → Bool) → ℕ → ℕ → ℕ
fewest p zero g = g
fewest p (suc n) g = cond (p g) g (fewest p n (g + 1))
