-- The tests of the limits and the facts that they say. Assumes nothing.
use Prim.Native.Nat.{ℕ, zero, suc, ◌+◌}
use mathlib.Core.List.{List}
use mathlib.Core.Path.{◌≡◌, refl, ap, ◌∙◌}
use mathlib.Core.Bool.{Bool, true, ◌&&◌}
use borrow.Author.Tests.{ltb-true, leb-true}
use Rattle.boot.specs.declared.geometry.Geometry.{Geometry}
use Rattle.boot.specs.Limits.{all, shape_tests, room_tests, in_map, all_in_map}
use Rattle.boot.specs.Internal.{Shape, RoomFacts}
use Rattle.search.specs.Search.{all_from}
use Rattle.search.proofs.Runs.{all_first}
use Rattle.boot.proofs.Tests.{each_of}

pub shape_of : (g : Geometry) → all (shape_tests g) ≡ true → Shape g
unfolding shape_tests
shape_of g e =
    let t = each_of (shape_tests g) e in
    record {
      sector_low = leb-true _ _ t.0;
      sector_high = leb-true _ _ t.1.0;
      cluster_high = leb-true _ _ t.1.1.0;
      fat_low = leb-true _ _ t.1.1.1.0;
      fats_low = leb-true _ _ t.1.1.1.1.0;
      fats_high = leb-true _ _ t.1.1.1.1.1.0;
      active_in = ltb-true _ _ t.1.1.1.1.1.1.0;
      count_low = leb-true _ _ t.1.1.1.1.1.1.1.0;
      count_high = leb-true _ _ t.1.1.1.1.1.1.1.1.0;
    }

pub room_of : (g : Geometry) (len : ℕ) → all (room_tests g len) ≡ true → RoomFacts g len
unfolding room_tests
room_of g len e =
    let t = each_of (room_tests g len) e in
    record {
      fat_holds = leb-true _ _ t.0;
      heap_past = leb-true _ _ t.1.0;
      heap_in = leb-true _ _ t.1.1.0;
      len_high = leb-true _ _ t.1.1.1.0;
    }

-- ---- runs in the system map

pub each_in_map : (m : List ℕ) (k n : ℕ) → all_from (in_map m) k n ≡ all_in_map m k n
unfolding all_from all_in_map
each_in_map m k zero = refl
each_in_map m k (suc n) = all_first (in_map m) k n ∙ ap (λ (b : Bool). in_map m k && b) (each_in_map m (k + 1) n)
