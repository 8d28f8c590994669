-- The clusters that a length takes: none for 0, enough for its bytes, no fewer for a longer one. Assumes nothing.
use mathlib.Core.Path.{◌≡◌, ap}
use mathlib.Core.Logic.{◌≢◌}
use Prim.Native.Nat.{ℕ, suc, ◌+◌, ◌-◌, ◌*◌, ◌/◌, ◌≤◌, ◌<◌}
use native.Mathlib.Decide.{dec_le}
use native.Mathlib.Nat.{suc-mul, mul-le-mul_right, lt-div-mul-add, div-mul-le_self}
use native.Mathlib.Omega.{arith}
use Rattle.entry_set.specs.Fields.{clusters_for}

module _ (size : ℕ) (pos : 1 ≤ size) where
  pub clusters_hold : (len : ℕ) → len ≤ clusters_for size len * size
  unfolding clusters_for
  clusters_hold len = omega (arith, lt-div-mul-add {a = len + (size - 1)} {b = size} pos)

  -- fewer do not
  pub clusters_below : (len h : ℕ) → h < clusters_for size len → h * size < len
  unfolding clusters_for
  clusters_below len h l =
      omega (arith, suc-mul h size, mul-le-mul_right {m = suc h} {n = (len + (size - 1)) / size} size l, div-mul-le_self (len + (size - 1)) size)

  pub clusters_least : (len h : ℕ) → len ≤ h * size → clusters_for size len ≤ h
  clusters_least len h l =
      elim (dec_le (clusters_for size len) h) [
        | yes p ↦ p
        | no p ↦ absurd (omega (arith, clusters_below len h (omega arith)))
      ]

  pub clusters_mono : (a b : ℕ) → a ≤ b → clusters_for size a ≤ clusters_for size b
  clusters_mono a b l = clusters_least a (clusters_for size b) (omega (arith, clusters_hold b))

  pub clusters_none : (len : ℕ) → len ≡ 0 → clusters_for size len ≡ 0
  clusters_none len z = let l : len ≤ 0 * size = omega arith in omega (arith, clusters_least len 0 l)

  pub clusters_some : (len : ℕ) → len ≢ 0 → clusters_for size len ≢ 0
  clusters_some len n z = n (omega (arith, clusters_hold len, ap (λ (x : ℕ). x * size) z))
