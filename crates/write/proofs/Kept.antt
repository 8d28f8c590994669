-- What no call changes, on any volume, and what holds of every list of calls there. Assumes nothing.
use mathlib.Core.Path.{◌≡◌, refl, sym, ◌∙◌, ap, subst}
use mathlib.Core.Bool.{Bool, true, false}
use mathlib.Core.List.{List, [], ◌∷◌}
use Prim.Native.Nat.{ℕ, ◌+◌, ◌*◌, ◌≤◌, ◌<◌}
use native.Mathlib.Omega.{arith}
use lib.ListN.{length, get_or}
use Rattle.boot.specs.declared.geometry.Geometry.{Geometry}
use Rattle.boot.specs.declared.layout.Layout.{Layout}
use Rattle.boot.specs.Geometry.{fat_offset, sector_size, bitmap_bytes}
use Rattle.boot.specs.Limits.{limits}
use Rattle.boot.specs.Layout.{in_heap}
use Rattle.metadata.specs.Marks.{marked}
use Rattle.kept.specs.Outer.{Outer}
use Rattle.kept.specs.Copies.{Twins, fat0_at, fat1_at, bitmap0_at, bitmap1_at}
use Rattle.kept.specs.Kept.{RestKept, Intact}
use Rattle.metadata.proofs.Stores.{usable-not_free, free_marked}
use Rattle.kept.proofs.OuterKeeps.{outer_keeps, before_fats, length_keeps}
use Rattle.kept.proofs.BitmapKeeps.{BitsKept, bits_keeps, rest_keeps}
use Rattle.kept.proofs.TwinKeeps.{FatTwins, BitmapTwins, fat_keeps, bitmap_keeps}
use Rattle.kept.proofs.IntactKeeps.{OthersIntact, intact_keeps}
use Rattle.write.specs.Calls.{Call, step, run}
use Rattle.write.specs.Consistent.{lay}
use Rattle.write.specs.Demand.{call_slot, Foreign, Lost}
use Rattle.write.proofs.Scene.{lay_same, fits_of}
use Rattle.write.proofs.Answers.{broken-number, refused_volume}
use Rattle.write.proofs.Reached.{Reach, step_keeps}

-- ---- bytes of no cluster

pub outer_kept : (g : Geometry) (m d : List ℕ) (c : Call) (p : ℕ) → Outer (lay g d) p → get_or (step g m d c).volume p 0 ≡ get_or d p 0
outer_kept g m d c = step_keeps g m d c (λ e f. (p : ℕ) → Outer (lay g d) p → get_or f p 0 ≡ get_or e p 0) (outer_keeps (lay g d) _)

pub boot_kept : (g : Geometry) (m d : List ℕ) (c : Call) (p : ℕ) → p < fat_offset g * sector_size g → get_or (step g m d c).volume p 0 ≡ get_or d p 0
boot_kept g m d c p h = by (limits g (length d) m) refl
  where
    by : (b : Bool) → limits g (length d) m ≡ b → get_or (step g m d c).volume p 0 ≡ get_or d p 0
    by true l = outer_kept g m d c p (unfold lay in (before_fats g (length d) (unfold lay in (fits_of g m d l).apart) p h))
    by false l = ap (λ (v : List ℕ). get_or v p 0) (refused_volume g m d c (λ z. omega (arith, broken-number g m d l c)))

-- ---- bitmaps and FATs

pub bits_kept : (g : Geometry) (m d : List ℕ) (c : Call) (k : ℕ) → (lay g d).count + 2 ≤ k → k < 8 * bitmap_bytes (lay g d).count + 2
    → marked (lay g d) (step g m d c).volume k ≡ marked (lay g d) d k
bits_kept g m d c = step_keeps g m d c (BitsKept (lay g d)) (bits_keeps (lay g d) _)

pub bitmap_rest_kept : (g : Geometry) (m d : List ℕ) (c : Call) → RestKept (lay g d) d (step g m d c).volume
bitmap_rest_kept g m d c = step_keeps g m d c (RestKept (lay g d)) (rest_keeps (lay g d) _)

pub fats_alike : (g : Geometry) (m d : List ℕ) (c : Call) → (lay g d).two ≡ true → (k : ℕ) → in_heap (lay g d).count k ≡ true
    → Twins (fat0_at (lay g d) d k) (fat1_at (lay g d) d k) (fat0_at (lay g d) (step g m d c).volume k) (fat1_at (lay g d) (step g m d c).volume k)
fats_alike g m d c two = step_keeps g m d c (FatTwins (lay g d)) (fat_keeps (lay g d) two _)

pub bitmaps_alike : (g : Geometry) (m d : List ℕ) (c : Call) → (lay g d).two ≡ true → (i : ℕ) → i < bitmap_bytes (lay g d).count
    → Twins (bitmap0_at (lay g d) d i) (bitmap1_at (lay g d) d i) (bitmap0_at (lay g d) (step g m d c).volume i) (bitmap1_at (lay g d) (step g m d c).volume i)
bitmaps_alike g m d c two = step_keeps g m d c (BitmapTwins (lay g d)) (bitmap_keeps (lay g d) two _)

-- ---- clusters that a call does not reach

pub foreign_kept : (g : Geometry) (m d : List ℕ) (c : Call) (k : ℕ) → Foreign g m d (call_slot c (step g m d c).answer.slot) k
    → Intact (lay g d) d (step g m d c).volume k
foreign_kept g m d c k f =
    step_keeps g m d c (OthersIntact (lay g d) (Reach g m d (call_slot c (step g m d c).answer.slot)))
    (intact_keeps (lay g d) (Reach g m d (call_slot c (step g m d c).answer.slot))) k f.heap (λ r. r f)

-- a marked cluster of no stream is foreign to every call
pub lost_foreign : (g : Geometry) (m d : List ℕ) (i k : ℕ) → Lost g d k → Foreign g m d i k
lost_foreign g m d i k l = record {
  heap = l.heap;
  not_usable = usable-not_free (lay g d) d m k (free_marked (lay g d) d m k l.mark);
  not_root = l.off_root;
  not_file = l.off_files i;
}

-- ---- every list of calls

pub length_kept : (g : Geometry) (m d : List ℕ) (c : Call) → length (step g m d c).volume ≡ length d
length_kept g m d c = step_keeps g m d c (λ e f. length f ≡ length e) (length_keeps (lay g d) _)

pub run_outer_kept : (g : Geometry) (m d : List ℕ) (cs : List Call) (p : ℕ) → Outer (lay g d) p → get_or (run g m d cs) p 0 ≡ get_or d p 0
unfolding run
run_outer_kept g m d [] p o = refl
run_outer_kept g m d (c ∷ cs) p o =
    run_outer_kept g m (step g m d c).volume cs p
    (subst (λ (y : Layout). Outer y p) (sym (lay_same g d (step g m d c).volume (length_kept g m d c))) o)
    ∙ outer_kept g m d c p o
