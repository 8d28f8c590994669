-- The places of clusters: the one product with the cluster size is here, and `cluster_at` stays shut elsewhere. Assumes nothing.
use Prim.Native.Nat.{ℕ, suc, ◌+◌, ◌-◌, ◌*◌, ◌≤◌, ◌<◌}
use native.Mathlib.Omega.{arith}
use native.Mathlib.Nat.{suc-mul, mul-le-mul_right}
use Rattle.boot.specs.declared.layout.Layout.{Layout}
use Rattle.boot.specs.Internal.{Laid}

-- rows of s do not overlap
pub mul-step : (a b s : ℕ) → a < b → a * s + s ≤ b * s
mul-step a b s h = omega (arith, suc-mul a s, mul-le-mul_right {m = suc a} {n = b} s h)

-- a cluster lies in the volume
pub cluster_in : (y : Layout) (k : ℕ) → Laid y → 2 ≤ k → k < y.count + 2 → y.heap + (k - 2) * y.size + y.size ≤ y.len
cluster_in y k h a b = omega (arith, mul-step (k - 2) y.count y.size (omega arith))
