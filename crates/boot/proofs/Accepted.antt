-- Where the limits hold, the geometry's facts hold. Assumes nothing.
use mathlib.Core.Path.{◌≡◌}
use mathlib.Core.Bool.{true, ◌&&◌}
use mathlib.Core.List.{List}
use Prim.Native.Nat.{ℕ, ◌+◌, ◌*◌, ◌≤◌}
use native.Mathlib.Omega.{arith}
use lib.Dec.{leb}
use lib.ListN.{length}
use borrow.Author.Tests.{leb-true, eqb-true, ne_eqb}
use Rattle.boot.specs.declared.geometry.Geometry.{Geometry}
use Rattle.boot.specs.Geometry.{number_of_fats, cluster_count, bitmap0, bitmap1, bitmap_bytes, bitmap_clusters}
use Rattle.boot.specs.Limits.{all, shape_tests, room_tests, map_tests, all_in_map, run_in_map, apart, second_bitmap, limits}
use Rattle.boot.specs.Layout.{layout_of}
use Rattle.boot.specs.Internal.{Bitmaps, Accepted}
use Rattle.tables.proofs.Cases.{and_left, and_right}
use Rattle.boot.proofs.Tests.{each_of}
use Rattle.boot.proofs.Limits.{shape_of, room_of}

-- a run that is in the map lies in the heap
run_facts : (m : List ℕ) (count first n : ℕ) → run_in_map m count first n ≡ true → (2 ≤ first) × (first + n ≤ count + 2)
unfolding run_in_map
run_facts m count first n e =
    let r = and_right (leb 2 first) (leb (first + n) (count + 2) && all_in_map m first n) e in (
      leb-true _ _ (and_left (leb 2 first) (leb (first + n) (count + 2) && all_in_map m first n) e),
      leb-true _ _ (and_left (leb (first + n) (count + 2)) (all_in_map m first n) r),
    )

-- what is said of a second bitmap
second_facts : (g : Geometry) (m : List ℕ) → number_of_fats g ≡ 2 → second_bitmap g m ≡ true
    → (run_in_map m (cluster_count g) (bitmap1 g) (bitmap_clusters g) ≡ true) × (apart (bitmap0 g) (bitmap1 g) (bitmap_clusters g) ≡ true)
unfolding second_bitmap
second_facts g m h e =
    let r = run_in_map m (cluster_count g) (bitmap1 g) (bitmap_clusters g) in
    let a = apart (bitmap0 g) (bitmap1 g) (bitmap_clusters g) in
    let b : r && a ≡ true = rw (ne_eqb (number_of_fats g) 1 (λ z. omega arith)) at e in
    (and_left r a b, and_right r a b)

maps_of : (g : Geometry) (m : List ℕ) → all (map_tests g m) ≡ true → (length m ≡ bitmap_bytes (cluster_count g)) × Bitmaps g
unfolding map_tests
maps_of g m e =
    let t = each_of (map_tests g m) e in
    let r = run_facts m _ _ _ t.1.0 in (
      eqb-true _ _ t.0,
      record {
        low0 = r.0;
        high0 = r.1;
        low1 = λ h. (run_facts m _ _ _ (second_facts g m h t.1.1.0).0).0;
        high1 = λ h. (run_facts m _ _ _ (second_facts g m h t.1.1.0).0).1;
        share_none = λ h. (second_facts g m h t.1.1.0).1;
      },
    )

module _ (g : Geometry) (len : ℕ) (m : List ℕ) (e : limits g len m ≡ true) where
  tests : (all (shape_tests g) ≡ true) × (all (room_tests g len) ≡ true) × (all (map_tests g m) ≡ true)
  tests =
      let s = all (shape_tests g) in
      let r = all (room_tests g len) in
      let t = all (map_tests g m) in
      let b : s && (r && t) ≡ true = unfold limits in e in
      (and_left s (r && t) b, and_left r t (and_right s (r && t) b), and_right r t (and_right s (r && t) b))

  pub accepted_of : Accepted g len
  accepted_of = record { shape = shape_of g tests.0; room = room_of g len tests.1; bitmaps = (maps_of g m tests.2).1 }

  pub map-length : length m ≡ bitmap_bytes (cluster_count g)
  map-length = (maps_of g m tests.2).0

  -- the map has a bit for each cluster
  pub map_wide : (layout_of g len).count ≤ 8 * length m
  unfolding layout_of
  map_wide = omega (arith, map-length)
