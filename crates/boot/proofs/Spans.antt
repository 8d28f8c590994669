-- The clusters of a bitmap, whole, are apart from other clusters and from those of the other bitmap. Assumes nothing.
use mathlib.Core.Path.{◌≡◌}
use mathlib.Core.Logic.{◌≢◌, ⊎_elim}
use mathlib.Core.Bool.{true, false}
use Prim.Native.Nat.{ℕ, ◌+◌, ◌*◌, ◌≤◌, ◌<◌}
use native.Mathlib.Omega.{arith}
use Rattle.boot.specs.declared.layout.Layout.{Layout}
use Rattle.boot.specs.Layout.{cluster_at, in_heap, in_run, is_bitmap_cluster}
use Rattle.boot.specs.Internal.{Laid, Apart}
use Rattle.boot.proofs.Apart.{run_out, or_left, or_right, in_heap_lem, cluster_apart, run_before, apart_lem}

module _ (y : Layout) (l : Laid y) (a : Apart y) where
  -- a byte of a bitmap's clusters from first on, and one of a cluster outside them
  span_other : (first k i r : ℕ) → 2 ≤ first → in_heap y.count k ≡ true → in_run first y.span k ≡ false → i < y.span * y.size → r < y.size
      → cluster_at y first + i ≢ cluster_at y k + r
  span_other first k i r h u o b q =
      let v = in_heap_lem y.count k u in
      ⊎_elim (λ c. omega (arith, cluster_apart y l a k first v.0 c)) (λ c. omega (arith, run_before y l a first y.span k h c))
      (run_out first y.span k o)

  -- a byte of either bitmap's clusters, and one of a cluster that is no bitmap's
  module _ (k i r : ℕ) (h : in_heap y.count k ≡ true) (o : is_bitmap_cluster y k ≡ false) (b : i < y.span * y.size) (q : r < y.size) where
    pub span0_cluster : y.bitmap0 + i ≢ cluster_at y k + r
    unfolding is_bitmap_cluster
    span0_cluster =
        omega (arith, a.at0, span_other y.first0 k i r a.low0 h (or_left (in_run y.first0 y.span k) (in_run y.first1 y.span k) o) b q)

    pub span1_cluster : y.bitmap1 + i ≢ cluster_at y k + r
    unfolding is_bitmap_cluster
    span1_cluster =
        omega (arith, a.at1, span_other y.first1 k i r a.low1 h (or_right (in_run y.first0 y.span k) (in_run y.first1 y.span k) o) b q)

  -- a byte of each of two bitmaps' clusters
  pub span_span : (i j : ℕ) → y.two ≡ true → i < y.span * y.size → j < y.span * y.size → y.bitmap0 + i ≢ y.bitmap1 + j
  span_span i j t b c =
      ⊎_elim (λ u. omega (arith, a.at0, a.at1, run_before y l a y.first0 y.span y.first1 a.low0 u))
      (λ u. omega (arith, a.at0, a.at1, run_before y l a y.first1 y.span y.first0 a.low1 u))
      (apart_lem _ _ _ (a.bitmaps t))
