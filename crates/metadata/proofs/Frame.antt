-- Each store changes its own view of the volume at its own key, and no other view. The views: FAT entries, marks, bytes of
-- clusters that are no bitmap's, and the length. Assumes nothing.
use mathlib.Core.Path.{◌≡◌, refl, sym, ◌∙◌, ap}
use mathlib.Core.Logic.{◌≢◌, ⊎_elim}
use mathlib.Core.Bool.{Bool, true, false}
use mathlib.Core.List.{List}
use Prim.Native.Nat.{ℕ, ◌+◌, ◌-◌, ◌*◌, ◌/◌, ◌%◌, ◌^◌, ◌≤◌, ◌<◌}
use native.Mathlib.Decide.{ℕ_discrete}
use native.Mathlib.Nat.{mod-eq_of_lt}
use native.Mathlib.Omega.{arith}
use lib.Dec.{eqb}
use lib.ListN.{length, get_or, set, length-set}
use lib.Seq.{get_or-set_same, get_or-set_other}
use Rattle.primitives.specs.Bits.{bit_of, put_bit}
use Rattle.primitives.specs.Words.{get_le, put_le}
use Rattle.primitives.specs.Splice.{splice}
use Rattle.primitives.proofs.BitLaws.{put_same, put_other}
use Rattle.primitives.proofs.WordLaws.{length_put, put_off, get_same, get_put, get_put_below}
use Rattle.primitives.proofs.SpliceLaws.{length-splice, splice_off}
use Rattle.boot.specs.declared.layout.Layout.{Layout}
use Rattle.boot.specs.declared.system.Places.{Places}
use Rattle.boot.specs.Geometry.{bitmap_bytes}
use Rattle.boot.specs.Internal.{Laid, Apart}
use Rattle.boot.specs.Layout.{cluster_at, in_heap, is_bitmap_cluster}
use Rattle.boot.proofs.Apart.{active_lem, in_heap_lem, cluster_start_lem, cluster_end, cluster_cluster, bitmap0_cluster, bitmap1_cluster, bitmap_bitmap, fat_bitmap}
use Rattle.metadata.specs.Fat.{END, fat_entry, set_fat}
use Rattle.metadata.specs.Marks.{mark_byte, marked, put_byte, set_mark}
use Rattle.metadata.specs.Cluster.{cluster_byte, put_bytes}
use Rattle.metadata.proofs.Stores.{fat_two, fat_one, byte_two, byte_one}

-- a volume that a layout fits
pub record Fits (y : Layout) (d : List ℕ) : Type 0 where
  pub laid : Laid y
  pub apart : Apart y
  pub long : length d ≡ y.len

-- as a system's layout does
pub fits : {W : ℕ} (s : Places 1 W) (d : List ℕ) → length d ≡ s.y.len → Fits s.y d
fits s d e = record { laid = s.laid; apart = s.apart (omega arith); long = e }

-- it depends on the volume's length alone
pub fits_kept : (y : Layout) (d e : List ℕ) → length e ≡ length d → Fits y d → Fits y e
fits_kept y d e h w = record { laid = w.laid; apart = w.apart; long = h ∙ w.long }

-- by cases of the number of FATs
pub by_two {ℓ} : {P : Type ℓ} (y : Layout) → (y.two ≡ true → P) → (y.two ≡ false → P) → P
by_two {P = P} y t f = go y.two refl
  where
    go : (b : Bool) → y.two ≡ b → P
    go true e = t e
    go false e = f e

-- ---- lengths

module _ (y : Layout) (d : List ℕ) where
  pub length_fat : (k v : ℕ) → length (set_fat y d k v) ≡ length d
  length_fat k v =
      by_two y (λ t. rw (fat_two y d k v t) (length_put 4 (put_le 4 d (y.fat0 + 4 * k) v) (y.fat1 + 4 * k) v ∙ length_put 4 d (y.fat0 + 4 * k) v))
      (λ t. rw (fat_one y d k v t) (length_put 4 d (y.fat0 + 4 * k) v))

  pub length_byte : (i b : ℕ) → length (put_byte y d i b) ≡ length d
  length_byte i b = by_two y (λ t. rw (byte_two y d i b t) (simp length-set)) (λ t. rw (byte_one y d i b t) (simp length-set))

  pub length_mark : (k : ℕ) (on : Bool) → length (set_mark y d k on) ≡ length d
  unfolding set_mark
  length_mark k on = length_byte ((k - 2) / 8) (put_bit (mark_byte y d k) ((k - 2) % 8) on)

  -- ---- what a store leaves as it was, byte by byte

  pub fat_out : (k v p : ℕ) → ((r : ℕ) → r < 4 → p ≡ y.fat0 + 4 * k + r → ⊥) → (y.two ≡ true → (r : ℕ) → r < 4 → p ≡ y.fat1 + 4 * k + r → ⊥)
      → get_or (set_fat y d k v) p 0 ≡ get_or d p 0
  fat_out k v p h i =
      by_two y (λ t. rw (fat_two y d k v t) (put_off 4 (put_le 4 d (y.fat0 + 4 * k) v) (y.fat1 + 4 * k) v p (i t) ∙ put_off 4 d (y.fat0 + 4 * k) v p h))
      (λ t. rw (fat_one y d k v t) (put_off 4 d (y.fat0 + 4 * k) v p h))

  pub byte_out : (i b p : ℕ) → p ≢ y.bitmap0 + i → (y.two ≡ true → p ≢ y.bitmap1 + i) → get_or (put_byte y d i b) p 0 ≡ get_or d p 0
  byte_out i b p h j =
      by_two y
      (λ t. rw (byte_two y d i b t) (get_or-set_other (set d (y.bitmap0 + i) b) (y.bitmap1 + i) p b 0 (j t) ∙ get_or-set_other d (y.bitmap0 + i) p b 0 h))
      (λ t. rw (byte_one y d i b t) (get_or-set_other d (y.bitmap0 + i) p b 0 h))

module _ (y : Layout) (d : List ℕ) (w : Fits y d) where
  -- the active FAT and bitmap are the first ones, or the second ones of two
  pub by_active {ℓ} : {P : Type ℓ} → (y.fat ≡ y.fat0 → y.bitmap ≡ y.bitmap0 → P)
      → (y.two ≡ true → y.fat ≡ y.fat1 → y.bitmap ≡ y.bitmap1 → P) → P
  by_active f s = ⊎_elim (λ a. f a.0 a.1) (λ a. s a.0 a.1 a.2) (active_lem y w.apart)

  -- ---- a FAT entry stored

  -- both FATs have the entry
  fat_first : (k v : ℕ) → k < y.count + 2 → get_le 4 (set_fat y d k v) (y.fat0 + 4 * k) ≡ v % 256 ^ 4
  fat_first k v h =
      let l = w.laid in
      let n = w.long in
      by_two y
      (λ t. let f = w.apart.fats t in
      rw (fat_two y d k v t)
      (get_put_below 4 4 (put_le 4 d (y.fat0 + 4 * k) v) (y.fat0 + 4 * k) (y.fat1 + 4 * k) v (omega arith) ∙ get_put 4 d (y.fat0 + 4 * k) v (omega arith)))
      (λ t. rw (fat_one y d k v t) (get_put 4 d (y.fat0 + 4 * k) v (omega arith)))

  fat_second : (k v : ℕ) → k < y.count + 2 → y.two ≡ true → get_le 4 (set_fat y d k v) (y.fat1 + 4 * k) ≡ v % 256 ^ 4
  fat_second k v h t =
      let l = w.laid in
      let n = w.long in
      rw (fat_two y d k v t) (get_put 4 (put_le 4 d (y.fat0 + 4 * k) v) (y.fat1 + 4 * k) v (omega (arith, length_put 4 d (y.fat0 + 4 * k) v)))

  pub fat_fat_same : (k v : ℕ) → k < y.count + 2 → v < 2 ^ 32 → fat_entry y (set_fat y d k v) k ≡ v
  unfolding fat_entry
  fat_fat_same k v h b =
      let at : (x : ℕ) → y.fat ≡ x → get_le 4 (set_fat y d k v) (x + 4 * k) ≡ v % 256 ^ 4 → get_le 4 (set_fat y d k v) (y.fat + 4 * k) ≡ v
      = λ x e g. ap (λ (x : ℕ). get_le 4 (set_fat y d k v) (x + 4 * k)) e ∙ g ∙ mod-eq_of_lt b in
      by_active (λ f _. at y.fat0 f (fat_first k v h)) (λ t f _. at y.fat1 f (fat_second k v h t))

  pub fat_fat_other : (k v j : ℕ) → k < y.count + 2 → j < y.count + 2 → j ≢ k → fat_entry y (set_fat y d k v) j ≡ fat_entry y d j
  unfolding fat_entry
  fat_fat_other k v j h i n =
      get_same 4 (set_fat y d k v) d (y.fat + 4 * j) (y.fat + 4 * j)
      (λ r b. fat_out y d k v (y.fat + 4 * j + r)
      (λ s c e. by_active (λ f _. omega arith) (λ t f _. let g = w.apart.fats t in omega arith))
      (λ t s c e. let g = w.apart.fats t in by_active (λ f _. omega arith) (λ _ f _. omega arith)))

  pub mark_fat : (k v j : ℕ) → k < y.count + 2 → marked y (set_fat y d k v) j ≡ marked y d j
  unfolding marked mark_byte
  mark_fat k v j h =
      let a = w.apart in
      let z = fat_bitmap y w.laid w.apart ((j - 2) / 8) in
      let past : y.heap ≤ y.bitmap + (j - 2) / 8 = by_active (λ _ b. omega arith) (λ _ _ b. omega arith) in
      ap (λ (x : ℕ). eqb (bit_of x ((j - 2) % 8)) 1)
      (fat_out y d k v (y.bitmap + (j - 2) / 8) (λ r b e. omega arith) (λ t r b e. omega arith))

  pub cluster_fat : (k v j r : ℕ) → k < y.count + 2 → cluster_byte y (set_fat y d k v) j r ≡ cluster_byte y d j r
  unfolding cluster_byte
  cluster_fat k v j r h =
      let a = w.apart in
      let z = cluster_start_lem y w.laid w.apart j in
      fat_out y d k v (cluster_at y j + r) (λ s b e. omega arith) (λ t s b e. omega arith)

  -- ---- a mark stored

  -- the active bitmap has the byte
  pub byte_active : (i b : ℕ) → i < bitmap_bytes y.count → get_or (put_byte y d i b) (y.bitmap + i) 0 ≡ b
  byte_active i b h =
      let l = w.laid in
      let n = w.long in
      let at0 : get_or (set d (y.bitmap0 + i) b) (y.bitmap0 + i) 0 ≡ b = get_or-set_same d (y.bitmap0 + i) b 0 (omega arith) in
      let first : get_or (put_byte y d i b) (y.bitmap0 + i) 0 ≡ b =
      by_two y
      (λ t. rw (byte_two y d i b t)
      (get_or-set_other (set d (y.bitmap0 + i) b) (y.bitmap1 + i) (y.bitmap0 + i) b 0 (bitmap_bitmap y w.laid w.apart i i t h h) ∙ at0))
      (λ t. rw (byte_one y d i b t) at0) in
      let second : y.two ≡ true → get_or (put_byte y d i b) (y.bitmap1 + i) 0 ≡ b =
      λ t. rw (byte_two y d i b t) (get_or-set_same (set d (y.bitmap0 + i) b) (y.bitmap1 + i) b 0 (rw length-set (omega arith))) in
      let at : (x : ℕ) → y.bitmap ≡ x → get_or (put_byte y d i b) (x + i) 0 ≡ b → get_or (put_byte y d i b) (y.bitmap + i) 0 ≡ b
      = λ x e g. ap (λ (x : ℕ). get_or (put_byte y d i b) (x + i) 0) e ∙ g in
      by_active (λ _ e. at y.bitmap0 e first) (λ t _ e. at y.bitmap1 e (second t))

  -- and its other bytes stay
  pub byte_other : (i j b : ℕ) → i < bitmap_bytes y.count → j < bitmap_bytes y.count → j ≢ i
      → get_or (put_byte y d i b) (y.bitmap + j) 0 ≡ get_or d (y.bitmap + j) 0
  byte_other i j b h g n =
      byte_out y d i b (y.bitmap + j)
      (λ e. by_active (λ _ f. omega arith) (λ t _ f. bitmap_bitmap y w.laid w.apart i j t h g (omega arith)))
      (λ t e. by_active (λ _ f. bitmap_bitmap y w.laid w.apart j i t g h (omega arith)) (λ _ _ f. omega arith))

  pub mark_mark_same : (k : ℕ) (on : Bool) → in_heap y.count k ≡ true → marked y (set_mark y d k on) k ≡ on
  unfolding marked mark_byte set_mark
  mark_mark_same k on h =
      let i = in_heap_lem y.count k h in
      rw (byte_active ((k - 2) / 8) (put_bit (get_or d (y.bitmap + (k - 2) / 8) 0) ((k - 2) % 8) on) (omega arith))
      (put_same (get_or d (y.bitmap + (k - 2) / 8) 0) ((k - 2) % 8) on)

  pub mark_mark_other : (k : ℕ) (on : Bool) (j : ℕ) → in_heap y.count k ≡ true → in_heap y.count j ≡ true → j ≢ k
      → marked y (set_mark y d k on) j ≡ marked y d j
  unfolding marked mark_byte set_mark
  mark_mark_other k on j h g n =
      let u = in_heap_lem y.count k h in
      let v = in_heap_lem y.count j g in
      let b = put_bit (get_or d (y.bitmap + (k - 2) / 8) 0) ((k - 2) % 8) on in
      elim (ℕ_discrete ((j - 2) / 8) ((k - 2) / 8)) [
        | yes e ↦ rw (e, byte_active ((k - 2) / 8) b (omega arith))
            (ap (λ (x : ℕ). eqb x 1) (put_other (get_or d (y.bitmap + (k - 2) / 8) 0) ((k - 2) % 8) on ((j - 2) % 8) (λ q. n (omega arith))))
        | no e ↦ rw (byte_other ((k - 2) / 8) ((j - 2) / 8) b (omega arith) (omega arith) e) refl
      ]

  pub fat_mark : (k : ℕ) (on : Bool) (j : ℕ) → j < y.count + 2 → fat_entry y (set_mark y d k on) j ≡ fat_entry y d j
  unfolding fat_entry set_mark
  fat_mark k on j h =
      let a = w.apart in
      let z = fat_bitmap y w.laid w.apart ((k - 2) / 8) in
      let end : y.fat + 4 * (y.count + 2) ≤ y.heap = by_active (λ f _. omega arith) (λ _ f _. omega arith) in
      get_same 4 (put_byte y d ((k - 2) / 8) (put_bit (mark_byte y d k) ((k - 2) % 8) on)) d (y.fat + 4 * j) (y.fat + 4 * j)
      (λ r b. byte_out y d ((k - 2) / 8) (put_bit (mark_byte y d k) ((k - 2) % 8) on) (y.fat + 4 * j + r) (omega arith) (λ t. omega arith))

  pub cluster_mark : (k : ℕ) (on : Bool) (j r : ℕ) → in_heap y.count k ≡ true → in_heap y.count j ≡ true → is_bitmap_cluster y j ≡ false
      → r < y.size → cluster_byte y (set_mark y d k on) j r ≡ cluster_byte y d j r
  unfolding cluster_byte set_mark
  cluster_mark k on j r h g o b =
      let u = in_heap_lem y.count k h in
      byte_out y d ((k - 2) / 8) (put_bit (mark_byte y d k) ((k - 2) % 8) on) (cluster_at y j + r)
      (λ e. bitmap0_cluster y w.laid w.apart j ((k - 2) / 8) r g o (omega arith) b (sym e))
      (λ t e. bitmap1_cluster y w.laid w.apart j ((k - 2) / 8) r g o (omega arith) b (sym e))

  -- ---- bytes stored in a cluster

  pub fits_in : (k j : ℕ) (bs : List ℕ) → in_heap y.count k ≡ true → j + length bs ≤ y.size → cluster_at y k + j + length bs ≤ length d
  fits_in k j bs h f = let n = w.long in omega (arith, cluster_end y w.laid w.apart k h)

  pub length_bytes : (k j : ℕ) (bs : List ℕ) → in_heap y.count k ≡ true → j + length bs ≤ y.size → length (put_bytes y d k j bs) ≡ length d
  unfolding put_bytes
  length_bytes k j bs h f = length-splice d (cluster_at y k + j) bs (fits_in k j bs h f)

  pub bytes_other : (k j : ℕ) (bs : List ℕ) (i r : ℕ) → in_heap y.count k ≡ true → in_heap y.count i ≡ true → i ≢ k
      → j + length bs ≤ y.size → r < y.size → cluster_byte y (put_bytes y d k j bs) i r ≡ cluster_byte y d i r
  unfolding cluster_byte put_bytes
  bytes_other k j bs i r h g n f b =
      splice_off d (cluster_at y k + j) bs (fits_in k j bs h f) (cluster_at y i + r)
      (λ s c e. cluster_cluster y w.laid w.apart i k r (j + s) g h n b (omega arith) (omega arith))

  pub fat_bytes_lem : (k j : ℕ) (bs : List ℕ) (i : ℕ) → in_heap y.count k ≡ true → j + length bs ≤ y.size → i < y.count + 2
      → fat_entry y (put_bytes y d k j bs) i ≡ fat_entry y d i
  unfolding fat_entry put_bytes
  fat_bytes_lem k j bs i h f b =
      let a = w.apart in
      let z = cluster_start_lem y w.laid w.apart k in
      let end : y.fat + 4 * (y.count + 2) ≤ y.heap = by_active (λ p _. omega arith) (λ _ p _. omega arith) in
      get_same 4 (splice d (cluster_at y k + j) bs) d (y.fat + 4 * i) (y.fat + 4 * i)
      (λ r c. splice_off d (cluster_at y k + j) bs (fits_in k j bs h f) (y.fat + 4 * i + r) (λ s q e. omega arith))

  pub mark_bytes : (k j : ℕ) (bs : List ℕ) (i : ℕ) → in_heap y.count k ≡ true → is_bitmap_cluster y k ≡ false → j + length bs ≤ y.size
      → in_heap y.count i ≡ true → marked y (put_bytes y d k j bs) i ≡ marked y d i
  unfolding marked mark_byte put_bytes
  mark_bytes k j bs i h o f g =
      let u = in_heap_lem y.count i g in
      ap (λ (x : ℕ). eqb (bit_of x ((i - 2) % 8)) 1)
      (splice_off d (cluster_at y k + j) bs (fits_in k j bs h f) (y.bitmap + (i - 2) / 8)
      (λ s b e. by_active
      (λ _ p. bitmap0_cluster y w.laid w.apart k ((i - 2) / 8) (j + s) h o (omega arith) (omega arith) (omega arith))
      (λ _ _ p. bitmap1_cluster y w.laid w.apart k ((i - 2) / 8) (j + s) h o (omega arith) (omega arith) (omega arith))))

-- the clusters of a heap are not the end of a chain
pub small : (y : Layout) (d : List ℕ) → Fits y d → y.count + 2 ≤ END
small y d w = let l = w.laid in omega (arith, l.count_high)
