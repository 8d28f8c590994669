-- Each store keeps the bytes of no cluster, and the length. Assumes nothing.
use mathlib.Core.Path.{◌≡◌, refl, ◌∙◌}
use mathlib.Core.Logic.{◌≢◌, inl, ⊎_elim}
use mathlib.Core.Bool.{true}
use mathlib.Core.List.{List}
use Prim.Native.Nat.{ℕ, ◌+◌, ◌-◌, ◌*◌, ◌/◌, ◌%◌, ◌≤◌, ◌<◌}
use native.Mathlib.Nat.{mul-le-mul_right, add-mul}
use native.Mathlib.Omega.{arith}
use lib.ListN.{length, get_or}
use Rattle.primitives.specs.Bits.{put_bit}
use Rattle.primitives.proofs.SpliceLaws.{splice_off}
use Rattle.boot.specs.declared.geometry.Geometry.{Geometry}
use Rattle.boot.specs.declared.layout.Layout.{Layout}
use Rattle.boot.specs.Geometry.{fat_offset, fat_length, number_of_fats, sector_size, bitmap_bytes}
use Rattle.boot.specs.Layout.{fat_start, layout_of, cluster_at, in_heap}
use Rattle.boot.specs.Internal.{Apart}
use Rattle.boot.proofs.Apart.{in_heap_lem, cluster_start_lem}
use Rattle.metadata.specs.Fat.{set_fat}
use Rattle.metadata.specs.Marks.{mark_byte, put_byte, set_mark}
use Rattle.metadata.specs.Cluster.{put_bytes}
use Rattle.kept.specs.Outer.{Outer}
use Rattle.metadata.proofs.Frame.{Fits, length_fat, length_mark, length_bytes, fat_out, byte_out, fits_in}
use Rattle.metadata.proofs.View.{plain_heap}
use Rattle.metadata.proofs.Keeps.{Keeps}

-- ---- bytes of no cluster

module _ (y : Layout) where
  fat_off : (d : List ℕ) (k v p : ℕ) → in_heap y.count k ≡ true → Outer y p → get_or (set_fat y d k v) p 0 ≡ get_or d p 0
  fat_off d k v p h o = fat_out y d k v p (λ r. o.off_fat0 k r h) (λ _ r. o.off_fat1 k r h)

  -- a bitmap's bytes lie in the heap
  bitmap_inside : (d : List ℕ) → Fits y d → (i p : ℕ) → i < bitmap_bytes y.count → Outer y p → (p ≢ y.bitmap0 + i) × (p ≢ y.bitmap1 + i)
  bitmap_inside d w i p b o = (
    λ e. out y.first0 y.bitmap0 w.apart.low0 w.laid.run0_in w.apart.at0 e,
    λ e. out y.first1 y.bitmap1 w.apart.low1 w.laid.run1_in w.apart.at1 e,
  )
    where
      out : (first at : ℕ) → 2 ≤ first → first + y.span ≤ y.count + 2 → at ≡ cluster_at y first → p ≡ at + i → ⊥
      out first at low high q e =
          let c : cluster_at y first ≡ y.heap + (first - 2) * y.size = unfold cluster_at in refl in
          let u : (first - 2 + y.span) * y.size ≤ y.count * y.size = mul-le-mul_right {m = first - 2 + y.span} {n = y.count} y.size (omega arith) in
          let v : (first - 2 + y.span) * y.size ≡ (first - 2) * y.size + y.span * y.size = add-mul (first - 2) y.span y.size in
          let x = w.apart.holds in
          ⊎_elim (λ l. omega arith) (λ l. omega arith) o.off_heap

  byte_off : (d : List ℕ) → Fits y d → (i b p : ℕ) → i < bitmap_bytes y.count → Outer y p → get_or (put_byte y d i b) p 0 ≡ get_or d p 0
  byte_off d w i b p h o =
      let n = bitmap_inside d w i p h o in
      byte_out y d i b p n.0 (λ _. n.1)

  pub outer_keeps : (P : ℕ → Type 0) → Keeps y P (λ d e. (p : ℕ) → Outer y p → get_or e p 0 ≡ get_or d p 0)
  outer_keeps P = record {
    same = λ d p o. refl;
    again = λ d e f u v p o. v p o ∙ u p o;
    fat = λ d w k v h p o. fat_off d k v p h.0 o;
    mark = λ d w k on h p o.
        let r = in_heap_lem y.count k h.0 in
        unfold set_mark in (byte_off d w ((k - 2) / 8) (put_bit (mark_byte y d k) ((k - 2) % 8) on) p (omega arith) o);
    put = λ d w k j bs q _ r p o.
        let h = plain_heap y k q in
        let u = cluster_start_lem y w.laid w.apart k in
        let v = cluster_past d w k h in
        unfold put_bytes in (splice_off d (cluster_at y k + j) bs (fits_in y d w k j bs h r) p (λ t b z. ⊎_elim (λ l. omega arith) (λ l. omega arith) o.off_heap));
  }
    where
      cluster_past : (d : List ℕ) → Fits y d → (k : ℕ) → in_heap y.count k ≡ true → cluster_at y k + y.size ≤ y.heap + y.count * y.size
      cluster_past d w k h =
          let r = in_heap_lem y.count k h in
          let c : cluster_at y k ≡ y.heap + (k - 2) * y.size = unfold cluster_at in refl in
          let u : (k - 2 + 1) * y.size ≤ y.count * y.size = mul-le-mul_right {m = k - 2 + 1} {n = y.count} y.size (omega arith) in
          let v : (k - 2 + 1) * y.size ≡ (k - 2) * y.size + 1 * y.size = add-mul (k - 2) 1 y.size in
          omega arith

-- ---- the boot region

-- every byte before the FATs is of no cluster
pub before_fats : (g : Geometry) (len : ℕ) → Apart (layout_of g len) → (p : ℕ) → p < fat_offset g * sector_size g → Outer (layout_of g len) p
unfolding layout_of
before_fats g len a p h = record {
  off_fat0 = λ k r i b e. omega (arith, first);
  off_fat1 = λ k r i b e. omega (arith, second);
  off_heap = inl (omega (arith, first, a.fat0_heap));
}
  where
    first : fat_offset g * sector_size g ≤ fat_start g 0
    first = unfold fat_start in (mul-le-mul_right {m = fat_offset g} {n = fat_offset g + 0 * fat_length g} (sector_size g) (omega arith))

    second : fat_offset g * sector_size g ≤ fat_start g (number_of_fats g - 1)
    second =
        unfold fat_start in (mul-le-mul_right {m = fat_offset g} {n = fat_offset g + (number_of_fats g - 1) * fat_length g} (sector_size g) (omega arith))

-- ---- the length

pub length_keeps : (y : Layout) (P : ℕ → Type 0) → Keeps y P (λ d e. length e ≡ length d)
length_keeps y P = record {
  same = λ d. refl;
  again = λ d e f u v. v ∙ u;
  fat = λ d w k v h. length_fat y d k v;
  mark = λ d w k on h. length_mark y d k on;
  put = λ d w k j bs p _ r. length_bytes y d w k j bs (plain_heap y k p) r;
}
