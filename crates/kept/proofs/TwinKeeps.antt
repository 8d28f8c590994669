-- Each store goes to both of two FATs and to both of two bitmaps: what it changes in one it makes alike in both. Assumes nothing.
use mathlib.Core.Path.{◌≡◌, refl, sym, ◌∙◌, ap}
use mathlib.Core.Logic.{inl, inr, ⊎_elim}
use mathlib.Core.Bool.{true}
use mathlib.Core.List.{List}
use Prim.Native.Nat.{ℕ, ◌+◌, ◌-◌, ◌*◌, ◌/◌, ◌%◌, ◌≤◌, ◌<◌}
use native.Mathlib.Decide.{ℕ_discrete}
use native.Mathlib.Omega.{arith}
use lib.ListN.{length, get_or, set, length-set}
use lib.Seq.{get_or-set_same, get_or-set_other}
use Rattle.primitives.specs.Bits.{put_bit}
use Rattle.primitives.specs.Words.{get_le, put_le}
use Rattle.primitives.proofs.WordLaws.{length_put, get_put, get_put_below}
use Rattle.primitives.proofs.SpliceLaws.{splice_off}
use Rattle.boot.specs.declared.layout.Layout.{Layout}
use Rattle.boot.specs.Geometry.{bitmap_bytes}
use Rattle.boot.specs.Layout.{cluster_at, in_heap}
use Rattle.boot.proofs.Apart.{in_heap_lem, bitmap0_cluster, bitmap1_cluster, bitmap_bitmap, fat_bitmap}
use Rattle.metadata.specs.Fat.{set_fat}
use Rattle.metadata.specs.Marks.{mark_byte, put_byte, set_mark}
use Rattle.metadata.specs.Cluster.{put_bytes}
use Rattle.metadata.proofs.Stores.{fat_two, byte_two}
use Rattle.metadata.proofs.Frame.{Fits, fits_in}
use Rattle.metadata.proofs.View.{plain, plain_heap, plain_off}
use Rattle.kept.specs.Copies.{Twins, fat0_at, fat1_at, bitmap0_at, bitmap1_at}
use Rattle.metadata.proofs.Keeps.{Keeps}
use Rattle.kept.proofs.RegionLaws.{fat_heap, mark_below, put_below, entries_below, entries_other}

twins_again : (a b a₁ b₁ a₂ b₂ : ℕ) → Twins a b a₁ b₁ → Twins a₁ b₁ a₂ b₂ → Twins a b a₂ b₂
unfolding Twins
twins_again a b a₁ b₁ a₂ b₂ u v =
    ⊎_elim (λ q. ⊎_elim (λ p. inl (q.0 ∙ p.0, q.1 ∙ p.1)) (λ p. inr (q.0 ∙ p ∙ sym q.1)) u) inr v

kept_twins : (a b a₁ b₁ : ℕ) → a₁ ≡ a → b₁ ≡ b → Twins a b a₁ b₁
unfolding Twins
kept_twins a b a₁ b₁ p q = inl (p, q)

alike_twins : (a b a₁ b₁ : ℕ) → a₁ ≡ b₁ → Twins a b a₁ b₁
unfolding Twins
alike_twins a b a₁ b₁ p = inr p

module _ (y : Layout) (two : y.two ≡ true) (d : List ℕ) (w : Fits y d) where
  -- a FAT entry stored
  fat_twins : (k v j : ℕ) → in_heap y.count k ≡ true → in_heap y.count j ≡ true
      → Twins (fat0_at y d j) (fat1_at y d j) (fat0_at y (set_fat y d k v) j) (fat1_at y (set_fat y d k v) j)
  unfolding fat0_at fat1_at
  fat_twins k v j h i =
      let p = in_heap_lem y.count k h in
      let q = in_heap_lem y.count j i in
      let f = w.apart.fats two in
      let l = w.laid in
      let n = w.long in
      let d₁ = put_le 4 d (y.fat0 + 4 * k) v in
      elim (ℕ_discrete j k) [
        | yes e ↦ rw (fat_two y d k v two)
            (alike_twins _ _ _ _
            (ap (λ (x : ℕ). get_le 4 (put_le 4 d₁ (y.fat1 + 4 * k) v) (y.fat0 + 4 * x)) e
            ∙ get_put_below 4 4 d₁ (y.fat0 + 4 * k) (y.fat1 + 4 * k) v (omega arith) ∙ get_put 4 d (y.fat0 + 4 * k) v (omega arith)
            ∙ sym (ap (λ (x : ℕ). get_le 4 (put_le 4 d₁ (y.fat1 + 4 * k) v) (y.fat1 + 4 * x)) e
            ∙ get_put 4 d₁ (y.fat1 + 4 * k) v (omega (arith, length_put 4 d (y.fat0 + 4 * k) v)))))
        | no e ↦ let r = entries_other y d w k v j h i e in kept_twins _ _ _ _ r.0 (r.1 two)
      ]

  -- where the bytes below the heap are kept, the FATs are
  below_twins : (e : List ℕ) → ((p : ℕ) → p < y.heap → get_or e p 0 ≡ get_or d p 0) → (j : ℕ) → in_heap y.count j ≡ true
      → Twins (fat0_at y d j) (fat1_at y d j) (fat0_at y e j) (fat1_at y e j)
  unfolding fat0_at fat1_at
  below_twins e k j i = let r = entries_below y d w e k j i in kept_twins _ _ _ _ r.0 r.1

  -- a bitmap byte stored
  byte_twins : (i b j : ℕ) → i < bitmap_bytes y.count → j < bitmap_bytes y.count
      → Twins (bitmap0_at y d j) (bitmap1_at y d j) (bitmap0_at y (put_byte y d i b) j) (bitmap1_at y (put_byte y d i b) j)
  unfolding bitmap0_at bitmap1_at
  byte_twins i b j h g =
      let l = w.laid in
      let n = w.long in
      let d₁ = set d (y.bitmap0 + i) b in
      let apart = bitmap_bitmap y w.laid w.apart in
      rw (byte_two y d i b two)
      (elim (ℕ_discrete j i) [
        | yes e ↦ alike_twins _ _ _ _
            (ap (λ (x : ℕ). get_or (set d₁ (y.bitmap1 + i) b) (y.bitmap0 + x) 0) e
            ∙ get_or-set_other d₁ (y.bitmap1 + i) (y.bitmap0 + i) b 0 (apart i i two h h) ∙ get_or-set_same d (y.bitmap0 + i) b 0 (omega arith)
            ∙ sym (ap (λ (x : ℕ). get_or (set d₁ (y.bitmap1 + i) b) (y.bitmap1 + x) 0) e
            ∙ get_or-set_same d₁ (y.bitmap1 + i) b 0 (rw length-set (omega arith))))
        | no e ↦ kept_twins _ _ _ _
            (get_or-set_other d₁ (y.bitmap1 + i) (y.bitmap0 + j) b 0 (apart j i two g h) ∙ get_or-set_other d (y.bitmap0 + i) (y.bitmap0 + j) b 0 (λ z. e (omega arith)))
            (get_or-set_other d₁ (y.bitmap1 + i) (y.bitmap1 + j) b 0 (λ z. e (omega arith))
            ∙ get_or-set_other d (y.bitmap0 + i) (y.bitmap1 + j) b 0 (λ z. apart i j two h g (sym z)))
      ])

  -- a FAT store leaves the bitmaps
  fat_bitmaps : (k v j : ℕ) → in_heap y.count k ≡ true
      → Twins (bitmap0_at y d j) (bitmap1_at y d j) (bitmap0_at y (set_fat y d k v) j) (bitmap1_at y (set_fat y d k v) j)
  unfolding bitmap0_at bitmap1_at
  fat_bitmaps k v j h =
      let z = fat_bitmap y w.laid w.apart j in
      kept_twins _ _ _ _ (fat_heap y d w k v (y.bitmap0 + j) h z.0) (fat_heap y d w k v (y.bitmap1 + j) h z.1)

  -- and so do bytes stored in a cluster that is no bitmap's
  put_bitmaps : (k j : ℕ) (bs : List ℕ) (i : ℕ) → plain y k ≡ true → j + length bs ≤ y.size → i < bitmap_bytes y.count
      → Twins (bitmap0_at y d i) (bitmap1_at y d i) (bitmap0_at y (put_bytes y d k j bs) i) (bitmap1_at y (put_bytes y d k j bs) i)
  unfolding bitmap0_at bitmap1_at put_bytes
  put_bitmaps k j bs i p f g =
      let h = plain_heap y k p in
      let o = plain_off y k p in
      kept_twins _ _ _ _
      (splice_off d (cluster_at y k + j) bs (fits_in y d w k j bs h f) (y.bitmap0 + i)
      (λ s b e. bitmap0_cluster y w.laid w.apart k i (j + s) h o g (omega arith) (omega arith)))
      (splice_off d (cluster_at y k + j) bs (fits_in y d w k j bs h f) (y.bitmap1 + i)
      (λ s b e. bitmap1_cluster y w.laid w.apart k i (j + s) h o g (omega arith) (omega arith)))

-- a cluster's entry, and a byte of the bitmaps
abbrev pub FatTwins : Layout → List ℕ → List ℕ → Type 0
FatTwins y d e = (k : ℕ) → in_heap y.count k ≡ true → Twins (fat0_at y d k) (fat1_at y d k) (fat0_at y e k) (fat1_at y e k)

abbrev pub BitmapTwins : Layout → List ℕ → List ℕ → Type 0
BitmapTwins y d e = (i : ℕ) → i < bitmap_bytes y.count → Twins (bitmap0_at y d i) (bitmap1_at y d i) (bitmap0_at y e i) (bitmap1_at y e i)

pub fat_keeps : (y : Layout) → y.two ≡ true → (P : ℕ → Type 0) → Keeps y P (FatTwins y)
fat_keeps y two P = record {
  same = λ d k h. kept_twins _ _ _ _ refl refl;
  again = λ d e f u v k h. twins_again _ _ _ _ _ _ (u k h) (v k h);
  fat = λ d w k v h j i. fat_twins y two d w k v j h.0 i;
  mark = λ d w k on h j i. below_twins y two d w (set_mark y d k on) (mark_below y d w k on) j i;
  put = λ d w k j bs p _ r i h. below_twins y two d w (put_bytes y d k j bs) (λ q. put_below y d w k j bs q (plain_heap y k p) r) i h;
}

pub bitmap_keeps : (y : Layout) → y.two ≡ true → (P : ℕ → Type 0) → Keeps y P (BitmapTwins y)
bitmap_keeps y two P = record {
  same = λ d i h. kept_twins _ _ _ _ refl refl;
  again = λ d e f u v i h. twins_again _ _ _ _ _ _ (u i h) (v i h);
  fat = λ d w k v h i g. fat_bitmaps y two d w k v i h.0;
  mark = λ d w k on h i g.
      let r = in_heap_lem y.count k h.0 in
      unfold set_mark in (byte_twins y two d w ((k - 2) / 8) (put_bit (mark_byte y d k) ((k - 2) % 8) on) i (omega arith) g);
  put = λ d w k j bs p _ r i g. put_bitmaps y two d w k j bs i p r g;
}
