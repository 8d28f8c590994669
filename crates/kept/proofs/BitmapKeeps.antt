-- Each store keeps the bits past C of the bitmap that is read, and the bytes behind every bitmap. Assumes nothing.
use mathlib.Core.Path.{◌≡◌, refl, sym, ◌∙◌, ap}
use mathlib.Core.Bool.{Bool, true}
use mathlib.Core.List.{List}
use Prim.Native.Nat.{ℕ, ◌+◌, ◌-◌, ◌*◌, ◌/◌, ◌%◌, ◌≤◌, ◌<◌}
use native.Mathlib.Decide.{ℕ_discrete}
use native.Mathlib.Omega.{arith}
use lib.Dec.{eqb}
use lib.ListN.{length, get_or}
use Rattle.primitives.specs.Bits.{bit_of, put_bit}
use Rattle.primitives.proofs.BitLaws.{put_other}
use Rattle.primitives.proofs.SpliceLaws.{splice_off}
use Rattle.boot.specs.declared.layout.Layout.{Layout}
use Rattle.boot.specs.Geometry.{bitmap_bytes}
use Rattle.boot.specs.Layout.{cluster_at, in_heap}
use Rattle.boot.proofs.Apart.{in_heap_lem, bitmap0_cluster, bitmap1_cluster, fat_bitmap}
use Rattle.boot.proofs.Spans.{span0_cluster, span1_cluster, span_span}
use Rattle.metadata.specs.Marks.{mark_byte, marked, set_mark}
use Rattle.metadata.specs.Cluster.{put_bytes}
use Rattle.kept.specs.Copies.{bitmap0_at, bitmap1_at}
use Rattle.kept.specs.Kept.{RestKept}
use Rattle.metadata.proofs.Frame.{Fits, by_active, byte_active, byte_other, byte_out, fits_in, mark_fat}
use Rattle.metadata.proofs.View.{plain, plain_heap, plain_off}
use Rattle.metadata.proofs.Keeps.{Keeps}
use Rattle.kept.proofs.RegionLaws.{fat_heap}

-- ---- bits past C

module _ (y : Layout) (d : List ℕ) (w : Fits y d) where
  mark_past : (k : ℕ) (on : Bool) (j : ℕ) → in_heap y.count k ≡ true → y.count + 2 ≤ j → j < 8 * bitmap_bytes y.count + 2
      → marked y (set_mark y d k on) j ≡ marked y d j
  unfolding marked mark_byte set_mark
  mark_past k on j h low high =
      let u = in_heap_lem y.count k h in
      let b = put_bit (get_or d (y.bitmap + (k - 2) / 8) 0) ((k - 2) % 8) on in
      elim (ℕ_discrete ((j - 2) / 8) ((k - 2) / 8)) [
        | yes e ↦ rw (e, byte_active y d w ((k - 2) / 8) b (omega arith))
            (ap (λ (x : ℕ). eqb x 1) (put_other (get_or d (y.bitmap + (k - 2) / 8) 0) ((k - 2) % 8) on ((j - 2) % 8) (λ q. omega arith)))
        | no e ↦ rw (byte_other y d w ((k - 2) / 8) ((j - 2) / 8) b (omega arith) (omega arith) e) refl
      ]

  bytes_past : (k j : ℕ) (bs : List ℕ) (i : ℕ) → plain y k ≡ true → j + length bs ≤ y.size → y.count + 2 ≤ i → i < 8 * bitmap_bytes y.count + 2
      → marked y (put_bytes y d k j bs) i ≡ marked y d i
  unfolding marked mark_byte put_bytes
  bytes_past k j bs i p f low high =
      let h = plain_heap y k p in
      let o = plain_off y k p in
      ap (λ (x : ℕ). eqb (bit_of x ((i - 2) % 8)) 1)
      (splice_off d (cluster_at y k + j) bs (fits_in y d w k j bs h f) (y.bitmap + (i - 2) / 8)
      (λ s b e. by_active y d w
      (λ _ q. bitmap0_cluster y w.laid w.apart k ((i - 2) / 8) (j + s) h o (omega arith) (omega arith) (omega arith))
      (λ _ _ q. bitmap1_cluster y w.laid w.apart k ((i - 2) / 8) (j + s) h o (omega arith) (omega arith) (omega arith))))

-- marks of no cluster, in the bitmap that is read
abbrev pub BitsKept : Layout → List ℕ → List ℕ → Type 0
BitsKept y d e = (k : ℕ) → y.count + 2 ≤ k → k < 8 * bitmap_bytes y.count + 2 → marked y e k ≡ marked y d k

pub bits_keeps : (y : Layout) (P : ℕ → Type 0) → Keeps y P (BitsKept y)
bits_keeps y P = record {
  same = λ d k a b. refl;
  again = λ d e f u v k a b. v k a b ∙ u k a b;
  fat = λ d w k v h j a b. mark_fat y d w k v j (in_heap_lem y.count k h.0).1;
  mark = λ d w k on h j a b. mark_past y d w k on j h.0 a b;
  put = λ d w k j bs p _ r i a b. bytes_past y d w k j bs i p r a b;
}

-- ---- the bytes behind a bitmap

pub rest_keeps : (y : Layout) (P : ℕ → Type 0) → Keeps y P (RestKept y)
unfolding RestKept bitmap0_at bitmap1_at
rest_keeps y P = record {
  same = λ d i _ _. (refl, λ _. refl);
  again = λ d e f u v i a b. ((v i a b).0 ∙ (u i a b).0, λ t. (v i a b).1 t ∙ (u i a b).1 t);
  fat = λ d w k v own i a b.
      let z = fat_bitmap y w.laid w.apart i in
      (fat_heap y d w k v (y.bitmap0 + i) own.0 z.0, λ t. fat_heap y d w k v (y.bitmap1 + i) own.0 z.1);
  mark = λ d w k on own i a b.
      let r = in_heap_lem y.count k own.0 in
      let n : (k - 2) / 8 < bitmap_bytes y.count = omega arith in
      let m = w.apart.holds in
      let x = put_bit (mark_byte y d k) ((k - 2) % 8) on in
      let apart = span_span y w.laid w.apart in
      unfold set_mark in (
        byte_out y d ((k - 2) / 8) x (y.bitmap0 + i) (λ e. omega arith) (λ t e. apart i ((k - 2) / 8) t b (omega arith) e),
        λ t. byte_out y d ((k - 2) / 8) x (y.bitmap1 + i) (λ e. apart ((k - 2) / 8) i t (omega arith) b (sym e)) (λ _ e. omega arith),
      );
  put = λ d w k j bs p _ f i a b.
      let h = plain_heap y k p in
      let o = plain_off y k p in
      unfold put_bytes in (
        splice_off d (cluster_at y k + j) bs (fits_in y d w k j bs h f) (y.bitmap0 + i)
            (λ s c e. span0_cluster y w.laid w.apart k i (j + s) h o b (omega arith) (omega arith)),
        λ _. splice_off d (cluster_at y k + j) bs (fits_in y d w k j bs h f) (y.bitmap1 + i)
            (λ s c e. span1_cluster y w.laid w.apart k i (j + s) h o b (omega arith) (omega arith)),
      );
}
