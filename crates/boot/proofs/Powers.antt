-- Powers of two. Assumes nothing.
use Prim.Native.Nat.{ℕ, ◌*◌, ◌%◌, ◌^◌, ◌≤◌}
use mathlib.Core.Path.{◌≡◌, refl, ◌∙◌}
use native.Mathlib.Omega.{arith}
use native.Mathlib.Nat.{one-mul}
use lib.Dec.{lit<}
use lib.Pow.{shl_exact, pow_mono, pow_pos}

pub shl_one : (s : ℕ) → s ≤ 15 → (1 * 2 ^ s) % 2 ^ 64 ≡ 2 ^ s
shl_one s h = shl_exact 1 s 64 (lit< tt) (omega arith) ∙ one-mul (2 ^ s)

-- 1 shifted by s, with its bounds
pub shl_facts : (s k : ℕ) → s ≤ k → k ≤ 15
    → ((1 * 2 ^ s) % 2 ^ 64 ≡ 2 ^ s) × ((1 ≤ (1 * 2 ^ s) % 2 ^ 64) × ((1 * 2 ^ s) % 2 ^ 64 ≤ 2 ^ k))
shl_facts s k h l = let e = shl_one s (omega arith) in rw e (refl, (pow_pos s, pow_mono h))
