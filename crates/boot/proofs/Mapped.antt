-- Where the limits hold, a bitmap's clusters are in the system map. Assumes nothing.
use mathlib.Core.Path.{◌≡◌, refl, sym, ◌∙◌, ap}
use mathlib.Core.Bool.{Bool, true, false, ◌&&◌}
use mathlib.Core.List.{List}
use Prim.Native.Nat.{ℕ, zero, suc, ◌+◌, ◌-◌, ◌≤◌, ◌<◌}
use native.Mathlib.Decide.{ℕ_discrete}
use native.Mathlib.Omega.{arith}
use lib.Dec.{leb}
use borrow.Author.Tests.{ne_eqb, leb-true, ltb-true}
use Rattle.tables.proofs.Cases.{and_left, and_right}
use Rattle.boot.specs.declared.geometry.Geometry.{Geometry}
use Rattle.boot.specs.Geometry.{number_of_fats, cluster_count, bitmap0, bitmap1, bitmap_clusters}
use Rattle.boot.specs.Limits.{all, shape_tests, room_tests, map_tests, in_map, all_in_map, run_in_map, apart, second_bitmap, limits}
use Rattle.boot.specs.Layout.{layout_of, bitmap_first, in_run, is_bitmap_cluster}
use Rattle.boot.proofs.Tests.{each_of}
use Rattle.boot.proofs.Accepted.{accepted_of}
use Rattle.boot.proofs.Places.{first_zero, first_suc}
use Rattle.boot.proofs.Apart.{bitmap_second}

all_at : (m : List ℕ) (first n k : ℕ) → all_in_map m first n ≡ true → first ≤ k → k < first + n → in_map m k ≡ true
unfolding all_in_map
all_at m first zero k e l h = absurd (omega arith)
all_at m first (suc n) k e l h =
    elim (ℕ_discrete k first) [
      | yes q ↦ ap (in_map m) q ∙ and_left (in_map m first) (all_in_map m (first + 1) n) e
      | no q ↦ all_at m (first + 1) n k (and_right (in_map m first) (all_in_map m (first + 1) n) e) (omega arith) (omega arith)
    ]

run_at : (m : List ℕ) (count first n k : ℕ) → run_in_map m count first n ≡ true → in_run first n k ≡ true → in_map m k ≡ true
unfolding run_in_map in_run
run_at m count first n k e r =
    all_at m first n k (and_right (leb (first + n) (count + 2)) _ (and_right (leb 2 first) _ e))
    (leb-true first k (and_left (leb first k) _ r)) (ltb-true k (first + n) (and_right (leb first k) _ r))

module _ (g : Geometry) (len : ℕ) (m : List ℕ) (l : limits g len m ≡ true) where
  maps : (run_in_map m (cluster_count g) (bitmap0 g) (bitmap_clusters g) ≡ true) × (second_bitmap g m ≡ true)
  unfolding limits map_tests
  maps =
      let t = each_of (map_tests g m) (and_right (all (room_tests g len)) _ (and_right (all (shape_tests g)) _ l)) in
      (t.1.0, t.1.1.0)

  second_run : (n : ℕ) → number_of_fats g ≡ n → 1 ≤ n → n ≤ 2 → run_in_map m (cluster_count g) (bitmap_first g (n - 1)) (bitmap_clusters g) ≡ true
  second_run zero e a b = absurd (omega arith)
  second_run (suc zero) e a b = ap (λ (x : ℕ). run_in_map m (cluster_count g) x (bitmap_clusters g)) (first_zero g) ∙ maps.0
  second_run (suc (suc zero)) e a b =
      ap (λ (x : ℕ). run_in_map m (cluster_count g) x (bitmap_clusters g)) (first_suc g 0)
      ∙ and_left (run_in_map m (cluster_count g) (bitmap1 g) (bitmap_clusters g)) _ second
    where
      second : run_in_map m (cluster_count g) (bitmap1 g) (bitmap_clusters g) && apart (bitmap0 g) (bitmap1 g) (bitmap_clusters g) ≡ true
      second = let t = maps.1 in unfold second_bitmap in (rw (ne_eqb (number_of_fats g) 1 (λ z. omega arith)) at t)
  second_run (suc (suc (suc n))) e a b = absurd (omega arith)

  pub mapped : (k : ℕ) → is_bitmap_cluster (layout_of g len) k ≡ true → in_map m k ≡ true
  unfolding layout_of
  mapped k e = by (in_run (bitmap0 g) (bitmap_clusters g) k) refl
    where
      by : (b : Bool) → in_run (bitmap0 g) (bitmap_clusters g) k ≡ b → in_map m k ≡ true
      by true q = run_at m (cluster_count g) (bitmap0 g) (bitmap_clusters g) k maps.0 q
      by false q =
          let s = (accepted_of g len m l).shape in
          run_at m (cluster_count g) (bitmap_first g (number_of_fats g - 1)) (bitmap_clusters g) k
          (second_run (number_of_fats g) refl s.fats_low s.fats_high) (sym (bitmap_second (layout_of g len) k q) ∙ e)
