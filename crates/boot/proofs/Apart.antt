-- The regions of a layout are apart: FATs, bitmaps, and clusters that are no bitmap's. Assumes nothing.
use mathlib.Core.Path.{◌≡◌, refl, sym, ◌∙◌, ap, subst}
use mathlib.Core.Logic.{◌≢◌, ◌⊎◌, inl, inr, ⊎_elim}
use mathlib.Core.Bool.{Bool, true, false, ◌&&◌, ◌||◌, false≢true}
use Prim.Native.Nat.{ℕ, zero, suc, ◌+◌, ◌-◌, ◌*◌, ◌≤◌, ◌<◌}
use native.Mathlib.Decide.{dec_lt}
use native.Mathlib.Nat.{add-mul, mul-le-mul_right}
use native.Mathlib.Omega.{arith}
use lib.Dec.{eqb, leb, ltb}
use borrow.Author.Tests.{eqb-true, eq-eqb, leb-true, ltb-true, le-leb, lt-ltb}
use Rattle.tables.proofs.Cases.{and_left, and_right, and_both, or-true}
use Rattle.boot.specs.declared.geometry.Geometry.{Geometry}
use Rattle.boot.specs.declared.layout.Layout.{Layout}
use Rattle.boot.specs.Geometry.{number_of_fats, active_fat, cluster_count, bitmap0, bitmap_bytes, bitmap_clusters}
use Rattle.boot.specs.Limits.{apart}
use Rattle.boot.specs.Internal.{Accepted, Laid, Apart}
use Rattle.boot.specs.Layout.{fat_start, cluster_start, bitmap_first, layout_of, cluster_at, in_heap, in_run, is_bitmap_cluster}
use Rattle.boot.proofs.Clusters.{mul-step}
use Rattle.boot.proofs.Places.{first_zero, first_suc, first_low, fat_heap, fat_fat, bytes_le}

-- ---- a geometry that keeps the limits has such a layout

start_at : (g : Geometry) (len k : ℕ) → cluster_start g k ≡ cluster_at (layout_of g len) k
unfolding cluster_start cluster_at layout_of
start_at g len k = omega arith

module _ (g : Geometry) (len : ℕ) (p : Accepted g len) where
  active_is : (i n : ℕ) → active_fat g ≡ i → number_of_fats g ≡ n → i < n → n ≤ 2
      → eqb (fat_start g i) (fat_start g 0) && eqb (cluster_start g (bitmap_first g i)) (cluster_start g (bitmap0 g))
      || eqb n 2 && (eqb (fat_start g i) (fat_start g (n - 1)) && eqb (cluster_start g (bitmap_first g i)) (cluster_start g (bitmap_first g (n - 1)))) ≡ true
  active_is zero n a b h l = rw (first_zero g, eq-eqb (fat_start g 0) (fat_start g 0) refl, eq-eqb (cluster_start g (bitmap0 g)) (cluster_start g (bitmap0 g)) refl) refl
  active_is (suc zero) (suc (suc zero)) a b h l =
      rw (eq-eqb (fat_start g 1) (fat_start g 1) refl, eq-eqb (cluster_start g (bitmap_first g 1)) (cluster_start g (bitmap_first g 1)) refl) (or-true _)
  active_is (suc zero) zero a b h l = absurd (omega arith)
  active_is (suc zero) (suc zero) a b h l = absurd (omega arith)
  active_is (suc zero) (suc (suc (suc n))) a b h l = absurd (omega arith)
  active_is (suc (suc i)) n a b h l = absurd (omega arith)

  -- with two FATs the last one is the second
  last : eqb (number_of_fats g) 2 ≡ true → number_of_fats g - 1 ≡ 1
  last t = omega (arith, eqb-true (number_of_fats g) 2 t)

  pub apart_of : Apart (layout_of g len)
  unfolding layout_of
  apart_of =
      let s = p.shape in
      record {
        active = active_is (active_fat g) (number_of_fats g) refl refl s.active_in s.fats_high;
        fats = λ t. subst (λ (x : ℕ). fat_start g 0 + 4 * (cluster_count g + 2) ≤ fat_start g x) (sym (last t)) (fat_fat g len p);
        fat0_heap = fat_heap g len p 0 (omega arith);
        fat1_heap = fat_heap g len p (number_of_fats g - 1) (omega arith);
        at0 = start_at g len (bitmap0 g);
        at1 = start_at g len (bitmap_first g (number_of_fats g - 1));
        low0 = p.bitmaps.low0;
        low1 = first_low g len p (number_of_fats g - 1) (omega arith);
        holds = bytes_le g;
        bitmaps = λ t. subst (λ (x : ℕ). apart (bitmap0 g) x (bitmap_clusters g) ≡ true)
            (sym (ap (bitmap_first g) (last t) ∙ first_suc g 0)) (p.bitmaps.share_none (eqb-true (number_of_fats g) 2 t));
      }

-- ---- the tests of a layout that is apart, as facts

pub apart_lem : (a b n : ℕ) → apart a b n ≡ true → (a + n ≤ b) ⊎ (b + n ≤ a)
unfolding apart
apart_lem a b n e = by (leb (a + n) b) refl
  where
    by : (s : Bool) → leb (a + n) b ≡ s → (a + n ≤ b) ⊎ (b + n ≤ a)
    by true p = inl (leb-true _ _ p)
    by false p = inr (leb-true _ _ (rw p at e))

pub active_lem : (y : Layout) → Apart y → ((y.fat ≡ y.fat0) × (y.bitmap ≡ y.bitmap0)) ⊎ ((y.two ≡ true) × (y.fat ≡ y.fat1) × (y.bitmap ≡ y.bitmap1))
active_lem y a = by (eqb y.fat y.fat0 && eqb y.bitmap y.bitmap0) refl
  where
    both : (p q r s : ℕ) → eqb p q && eqb r s ≡ true → (p ≡ q) × (r ≡ s)
    both p q r s e = (eqb-true p q (and_left (eqb p q) (eqb r s) e), eqb-true r s (and_right (eqb p q) (eqb r s) e))

    by : (t : Bool) → eqb y.fat y.fat0 && eqb y.bitmap y.bitmap0 ≡ t → ((y.fat ≡ y.fat0) × (y.bitmap ≡ y.bitmap0)) ⊎ ((y.two ≡ true) × (y.fat ≡ y.fat1) × (y.bitmap ≡ y.bitmap1))
    by true p = inl (both _ _ _ _ p)
    by false p =
        let e : y.two && (eqb y.fat y.fat1 && eqb y.bitmap y.bitmap1) ≡ true = rw p at a.active in
        let b = both _ _ _ _ (and_right y.two (eqb y.fat y.fat1 && eqb y.bitmap y.bitmap1) e) in
        inr (and_left y.two (eqb y.fat y.fat1 && eqb y.bitmap y.bitmap1) e, b.0, b.1)

-- ---- membership tests and their facts

-- a cluster of a run
run_facts : (first n k : ℕ) → in_run first n k ≡ true → (first ≤ k) × (k < first + n)
unfolding in_run
run_facts first n k e =
    (leb-true first k (and_left (leb first k) (ltb k (first + n)) e), ltb-true k (first + n) (and_right (leb first k) (ltb k (first + n)) e))

run-true : (first n k : ℕ) → first ≤ k → k < first + n → in_run first n k ≡ true
unfolding in_run
run-true first n k l h = and_both (leb first k) (ltb k (first + n)) (le-leb first k l) (lt-ltb k (first + n) h)

-- a cluster outside a run is before it or after it
pub run_out : (first n k : ℕ) → in_run first n k ≡ false → (k < first) ⊎ (first + n ≤ k)
run_out first n k e =
    elim (dec_lt k first) [
      | yes h ↦ inl h
      | no h ↦ (elim (dec_lt k (first + n)) [
        | yes l ↦ absurd (false≢true (sym e ∙ run-true first n k (omega arith) l))
        | no l ↦ inr (omega arith)
      ])
    ]

pub in_heap_lem : (count k : ℕ) → in_heap count k ≡ true → (2 ≤ k) × (k < count + 2)
unfolding in_heap
in_heap_lem count k e = let f = run_facts 2 count k e in (f.0, omega arith)

pub heap_in : (count k : ℕ) → 2 ≤ k → k < count + 2 → in_heap count k ≡ true
unfolding in_heap
heap_in count k l h = run-true 2 count k l (omega arith)

-- a cluster of either bitmap
pub bitmap_second : (y : Layout) (k : ℕ) → in_run y.first0 y.span k ≡ false → is_bitmap_cluster y k ≡ in_run y.first1 y.span k
unfolding is_bitmap_cluster
bitmap_second y k e = rw e refl

pub or_left : (a b : Bool) → a || b ≡ false → a ≡ false
or_left true b e = e
or_left false b e = refl

pub or_right : (a b : Bool) → a || b ≡ false → b ≡ false
or_right true b e = absurd (false≢true (sym e))
or_right false b e = e

-- ---- no byte is in two places

module _ (y : Layout) (l : Laid y) (a : Apart y) where
  pub cluster_apart : (k j : ℕ) → 2 ≤ k → k < j → cluster_at y k + y.size ≤ cluster_at y j
  unfolding cluster_at
  cluster_apart k j h b = omega (arith, mul-step (k - 2) (j - 2) y.size (omega arith))

  pub cluster_start_lem : (k : ℕ) → y.heap ≤ cluster_at y k
  unfolding cluster_at
  cluster_start_lem k = omega arith

  pub cluster_end : (k : ℕ) → in_heap y.count k ≡ true → cluster_at y k + y.size ≤ y.len
  unfolding cluster_at
  cluster_end k h =
      let i = in_heap_lem y.count k h in
      omega (arith, mul-step (k - 2) y.count y.size (omega arith))

  -- a cluster after a run of n clusters
  pub run_before : (first n k : ℕ) → 2 ≤ first → first + n ≤ k → cluster_at y first + n * y.size ≤ cluster_at y k
  unfolding cluster_at
  run_before first n k h b =
      omega (arith, add-mul (first - 2) n y.size, mul-le-mul_right {m = first - 2 + n} {n = k - 2} y.size (omega arith))

  -- bytes of two clusters
  pub cluster_cluster : (k j r s : ℕ) → in_heap y.count k ≡ true → in_heap y.count j ≡ true → k ≢ j → r < y.size → s < y.size
      → cluster_at y k + r ≢ cluster_at y j + s
  cluster_cluster k j r s h i d p q =
      let u = in_heap_lem y.count k h in
      let v = in_heap_lem y.count j i in
      elim (dec_lt k j) [
        | yes b ↦ omega (arith, cluster_apart k j u.0 b)
        | no b ↦ omega (arith, cluster_apart j k v.0 (omega arith))
      ]

  -- a byte of a bitmap from cluster first on, and one of a cluster outside it
  bitmap_other : (first k i r : ℕ) → 2 ≤ first → in_heap y.count k ≡ true → in_run first y.span k ≡ false
      → i < bitmap_bytes y.count → r < y.size → cluster_at y first + i ≢ cluster_at y k + r
  bitmap_other first k i r h u o b q =
      let v = in_heap_lem y.count k u in
      let w = a.holds in
      ⊎_elim (λ c. omega (arith, cluster_apart k first v.0 c)) (λ c. omega (arith, run_before first y.span k h c))
      (run_out first y.span k o)

  -- a byte of either bitmap, and one of a cluster that is no bitmap's
  pub bitmap0_cluster : (k i r : ℕ) → in_heap y.count k ≡ true → is_bitmap_cluster y k ≡ false → i < bitmap_bytes y.count → r < y.size
      → y.bitmap0 + i ≢ cluster_at y k + r
  unfolding is_bitmap_cluster
  bitmap0_cluster k i r h o b q =
      omega (arith, a.at0, bitmap_other y.first0 k i r a.low0 h (or_left (in_run y.first0 y.span k) (in_run y.first1 y.span k) o) b q)

  pub bitmap1_cluster : (k i r : ℕ) → in_heap y.count k ≡ true → is_bitmap_cluster y k ≡ false → i < bitmap_bytes y.count → r < y.size
      → y.bitmap1 + i ≢ cluster_at y k + r
  unfolding is_bitmap_cluster
  bitmap1_cluster k i r h o b q =
      omega (arith, a.at1, bitmap_other y.first1 k i r a.low1 h (or_right (in_run y.first0 y.span k) (in_run y.first1 y.span k) o) b q)

  -- a byte of each of two bitmaps
  pub bitmap_bitmap : (i j : ℕ) → y.two ≡ true → i < bitmap_bytes y.count → j < bitmap_bytes y.count → y.bitmap0 + i ≢ y.bitmap1 + j
  bitmap_bitmap i j t b c =
      let w = a.holds in
      ⊎_elim (λ u. omega (arith, a.at0, a.at1, run_before y.first0 y.span y.first1 a.low0 u))
      (λ u. omega (arith, a.at0, a.at1, run_before y.first1 y.span y.first0 a.low1 u))
      (apart_lem _ _ _ (a.bitmaps t))

  -- every bitmap byte lies past every FAT entry
  pub fat_bitmap : (i : ℕ) → (y.heap ≤ y.bitmap0 + i) × (y.heap ≤ y.bitmap1 + i)
  fat_bitmap i = (omega (arith, a.at0, cluster_start_lem y.first0), omega (arith, a.at1, cluster_start_lem y.first1))
