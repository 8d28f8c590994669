-- What a store does to the bytes of streams, and what leaves them as they were. Assumes nothing.
use mathlib.Core.Path.{◌≡◌, refl, sym, ◌∙◌, ap, ap₂, subst}
use mathlib.Core.Logic.{◌≢◌}
use mathlib.Core.Bool.{Bool, true}
use mathlib.Core.List.{List, [], ◌∷◌, ◌++◌, append_assoc}
use Prim.Native.Nat.{ℕ, zero, suc, ◌+◌, ◌-◌, ◌*◌, ◌≤◌, ◌<◌}
use native.Mathlib.Decide.{dec_le}
use native.Mathlib.Nat.{suc-mul}
use native.Mathlib.Omega.{arith}
use lib.ListN.{length, get_or, take, drop, length-append, length-take, length-drop, take-append-drop, drop_of_length-le, get_or-append}
use lib.Seq.{take-append_seam, length-take-le, take_all, take-append-add, take-append-le, drop-append-le, drop-append-add, take_at, drop_at, get_or-take, get_or-drop, get_or-append-add, ext_get_or}
use Rattle.primitives.specs.Splice.{splice}
use Rattle.primitives.proofs.SpliceLaws.{splice-nil, length-splice, splice_join}
use Rattle.tables.specs.Lists.{Mem, here, there, Distinct, more, every}
use Rattle.tables.proofs.ListLaws.{every_head, every_tail, every_mem, mem_every}
use Rattle.boot.specs.declared.layout.Layout.{Layout}
use Rattle.boot.specs.Layout.{cluster_at, in_heap}
use Rattle.boot.proofs.Apart.{in_heap_lem}
use Rattle.metadata.specs.Fat.{fat_entry}
use Rattle.metadata.specs.Marks.{marked}
use Rattle.metadata.specs.Cluster.{cluster_byte, put_bytes}
use Rattle.metadata.proofs.Frame.{Fits, fits_kept, length_bytes, bytes_other, fat_bytes_lem, mark_bytes}
use Rattle.metadata.proofs.View.{plain, plain_heap, plain_off}
use Rattle.stream.specs.Internal.{along}
use Rattle.stream.specs.Bytes.{cluster_bytes, bytes_of, store_at}
use Rattle.stream.proofs.BytesSteps.{every_take, along_same, store_past, store_here, store_nothing, length_cluster, length_bytes_of}

-- ---- parts of lists

pub take_short : (n : ℕ) (s : List ℕ) → length (take n s) ≤ n
take_short zero s = omega arith
take_short (suc n) [] = omega arith
take_short (suc n) (x ∷ s) = omega (arith, take_short n s)

-- a part of the first, or of the second, of two lists
pub splice_left : (c r : List ℕ) (at : ℕ) (s : List ℕ) → at + length s ≤ length c → splice (c ++ r) at s ≡ splice c at s ++ r
unfolding splice
splice_left c r at s h =
    ap₂ (λ (u v : List ℕ). u ++ s ++ v) (take-append-le at c r (omega arith)) (drop-append-le (at + length s) c r h)
    ∙ sym (append_assoc (take at c ++ s) (drop (at + length s) c) r)

pub splice_right : (c r : List ℕ) (p at : ℕ) (s : List ℕ) → p ≡ length c + at → splice (c ++ r) p s ≡ c ++ splice r at s
unfolding splice
splice_right c r p at s e =
    let z : p + length s ≡ length c + (at + length s) = omega arith in
    ap₂ (λ (u v : List ℕ). u ++ s ++ v) (ap (λ (x : ℕ). take x (c ++ r)) e ∙ take-append-add c r at)
    (ap (λ (x : ℕ). drop x (c ++ r)) z ∙ drop-append-add c r (at + length s))
    ∙ ap (λ (u : List ℕ). u ++ drop (at + length s) r) (append_assoc c (take at r) s) ∙ append_assoc c (take at r ++ s) (drop (at + length s) r)

-- a part over the border of two lists, the first of which it fills from `at` on
splice_over : (c r : List ℕ) (at : ℕ) (s t : List ℕ) → at + length s ≡ length c → splice (c ++ r) at (s ++ t) ≡ splice c at s ++ splice r 0 t
splice_over c r at s t e =
    let n = length-append c r in
    let k = length-splice c at s (omega arith) in
    sym (splice_join (c ++ r) at s t (at + length s) (omega arith) refl)
    ∙ ap (λ (u : List ℕ). splice u (at + length s) t) (splice_left c r at s (omega arith))
    ∙ splice_right (splice c at s) r (at + length s) 0 t (omega arith)

-- the part itself
pub splice_part : (d : List ℕ) (at : ℕ) (s : List ℕ) → at + length s ≤ length d → take (length s) (drop at (splice d at s)) ≡ s
unfolding splice
splice_part d at s h =
    let n : length (take at d) ≡ at = length-take-le at d (omega arith) in
    ap (λ (l : List ℕ). take (length s) (drop at l)) (append_assoc (take at d) s (drop (at + length s) d))
    ∙ ap (take (length s)) (drop_at (take at d) (s ++ drop (at + length s) d) at n) ∙ take-append_seam s (drop (at + length s) d)

-- ---- the bytes of a cluster

module _ (y : Layout) (d : List ℕ) (k : ℕ) where
  pub cluster_at_lem : (r : ℕ) → r < y.size → get_or (cluster_bytes y d k) r 0 ≡ cluster_byte y d k r
  unfolding cluster_bytes cluster_byte
  cluster_at_lem r h = get_or-take y.size (drop (cluster_at y k) d) r 0 h ∙ get_or-drop (cluster_at y k) d r 0

-- volumes of one length whose bytes in the cluster are the same
pub cluster_cong : (y : Layout) (d e : List ℕ) (k : ℕ) → length e ≡ length d
    → ((r : ℕ) → r < y.size → cluster_byte y e k r ≡ cluster_byte y d k r) → cluster_bytes y e k ≡ cluster_bytes y d k
cluster_cong y d e k n h =
    ext_get_or 0 (cluster_bytes y e k) (cluster_bytes y d k) same
    (λ i b. let l : i < y.size = omega (arith, short) in cluster_at_lem y e k i l ∙ h i l ∙ sym (cluster_at_lem y d k i l))
  where
    short : length (cluster_bytes y e k) ≤ y.size
    short = unfold cluster_bytes in (take_short y.size (drop (cluster_at y k) e))

    same : length (cluster_bytes y e k) ≡ length (cluster_bytes y d k)
    same = unfold cluster_bytes in (rw (length-take, length-take, length-drop, length-drop, n) refl)

-- bytes stored in the cluster
pub cluster_put : (y : Layout) (d : List ℕ) → Fits y d → (k j : ℕ) (bs : List ℕ) → in_heap y.count k ≡ true → j + length bs ≤ y.size
    → cluster_bytes y (put_bytes y d k j bs) k ≡ splice (cluster_bytes y d k) j bs
unfolding put_bytes cluster_bytes
cluster_put y d w k j bs h f =
    let p = cluster_at y k in
    let a = take p d in
    let s = drop p d in
    let c = take y.size s in
    let b = drop y.size s in
    let n : length c ≡ y.size = length_cluster y d w.laid w.long k h in
    let l : length s ≡ length d - p = length-drop p d in
    let i : length a ≡ p = length-take-le p d (omega (arith, length-take y.size s)) in
    let whole : a ++ (c ++ b) ≡ d = ap (λ (r : List ℕ). a ++ r) (take-append-drop y.size s) ∙ take-append-drop p d in
    let q : splice d (p + j) bs ≡ a ++ (splice c j bs ++ b) =
    ap (λ (r : List ℕ). splice r (p + j) bs) (sym whole) ∙ splice_right a (c ++ b) (p + j) j bs (omega arith)
    ∙ ap (λ (r : List ℕ). a ++ r) (splice_left c b j bs (omega arith)) in
    ap (λ (r : List ℕ). take y.size (drop p r)) q ∙ ap (take y.size) (drop_at a (splice c j bs ++ b) p i)
    ∙ take_at (splice c j bs) b y.size (length-splice c j bs (omega arith) ∙ n)

-- ---- the bytes of a list of clusters

module _ (y : Layout) where
  -- they depend on the clusters' bytes alone
  pub bytes_cong : (d e ks : List ℕ) → ((k : ℕ) → Mem k ks → cluster_bytes y e k ≡ cluster_bytes y d k) → bytes_of y e ks ≡ bytes_of y d ks
  unfolding bytes_of
  bytes_cong d e [] h = refl
  bytes_cong d e (k ∷ ks) h = ap₂ (λ (u v : List ℕ). u ++ v) (h k (here refl)) (bytes_cong d e ks (λ j m. h j (there m)))

  pub bytes_append : (d js ks : List ℕ) → bytes_of y d (js ++ ks) ≡ bytes_of y d js ++ bytes_of y d ks
  unfolding bytes_of
  bytes_append d [] ks = refl
  bytes_append d (j ∷ js) ks =
      ap (λ (r : List ℕ). cluster_bytes y d j ++ r) (bytes_append d js ks) ∙ sym (append_assoc (cluster_bytes y d j) (bytes_of y d js) (bytes_of y d ks))

module _ (y : Layout) (d : List ℕ) (w : Fits y d) where
  pub length_of : (ks : List ℕ) → every (in_heap y.count) ks ≡ true → length (bytes_of y d ks) ≡ length ks * y.size
  length_of = length_bytes_of y d w.laid w.long

  -- byte r of the cluster at place m
  pub byte_of : (ks : List ℕ) (m r : ℕ) → every (in_heap y.count) ks ≡ true → m < length ks → r < y.size
      → get_or (bytes_of y d ks) (m * y.size + r) 0 ≡ cluster_byte y d (get_or ks m 0) r
  unfolding bytes_of
  byte_of [] m r e h b = absurd (omega arith)
  byte_of (k ∷ ks) zero r e h b =
      let n = length_cluster y d w.laid w.long k (every_head (in_heap y.count) k ks e) in
      let z : 0 * y.size + r ≡ r = omega arith in
      ap (λ (x : ℕ). get_or (cluster_bytes y d k ++ bytes_of y d ks) x 0) z ∙ get_or-append (cluster_bytes y d k) (bytes_of y d ks) 0 r (omega arith)
      ∙ cluster_at_lem y d k r b
  byte_of (k ∷ ks) (suc m) r e h b =
      let n = length_cluster y d w.laid w.long k (every_head (in_heap y.count) k ks e) in
      let z : suc m * y.size + r ≡ length (cluster_bytes y d k) + (m * y.size + r) = omega (arith, suc-mul m y.size) in
      ap (λ (x : ℕ). get_or (cluster_bytes y d k ++ bytes_of y d ks) x 0) z ∙ get_or-append-add (cluster_bytes y d k) (bytes_of y d ks) (m * y.size + r) 0
      ∙ byte_of ks m r (every_tail (in_heap y.count) k ks e) (omega arith) b

  -- at the border of clusters
  module _ (m : ℕ) (ks : List ℕ) (h : m ≤ length ks) (e : every (in_heap y.count) ks ≡ true) where
    pub take_of : take (m * y.size) (bytes_of y d ks) ≡ bytes_of y d (take m ks)
    take_of =
        let n : length (take m ks) ≡ m = length-take-le m ks h in
        let i : every (in_heap y.count) (take m ks) ≡ true = every_take (in_heap y.count) m ks e in
        ap (λ (l : List ℕ). take (m * y.size) (bytes_of y d l)) (sym (take-append-drop m ks))
        ∙ ap (take (m * y.size)) (bytes_append y d (take m ks) (drop m ks))
        ∙ take_at (bytes_of y d (take m ks)) (bytes_of y d (drop m ks)) (m * y.size) (length_of (take m ks) i ∙ ap (λ (x : ℕ). x * y.size) n)

  -- bytes stored in another cluster
  pub cluster_apart : (k j : ℕ) (bs : List ℕ) (i : ℕ) → in_heap y.count k ≡ true → j + length bs ≤ y.size → in_heap y.count i ≡ true → i ≢ k
      → cluster_bytes y (put_bytes y d k j bs) i ≡ cluster_bytes y d i
  cluster_apart k j bs i h f g n =
      cluster_cong y d (put_bytes y d k j bs) i (length_bytes y d w k j bs h f) (λ r b. bytes_other y d w k j bs i r h g n f b)

pub plain_in_heap : (y : Layout) (ks : List ℕ) → every (plain y) ks ≡ true → every (in_heap y.count) ks ≡ true
plain_in_heap y ks e = mem_every (in_heap y.count) ks (λ k m. plain_heap y k (every_mem (plain y) ks e k m))

-- ---- what every store in a list of clusters keeps

-- a fact that is kept by bytes stored in one of the clusters
pub store_keeps : (y : Layout) (P : List ℕ → Type 0) (ks : List ℕ) → every (in_heap y.count) ks ≡ true
    → ((d : List ℕ) (k j : ℕ) (bs : List ℕ) → Fits y d → Mem k ks → in_heap y.count k ≡ true → j + length bs ≤ y.size → P d → P (put_bytes y d k j bs))
    → (d : List ℕ) (at : ℕ) (bs : List ℕ) → Fits y d → P d → P (store_at y d ks at bs)
store_keeps y P [] e f d at bs w p = unfold store_at in p
store_keeps y P (k ∷ ks) e f d at bs w p =
    let h = every_head (in_heap y.count) k ks e in
    let t = every_tail (in_heap y.count) k ks e in
    let s = take (y.size - at) bs in
    elim (dec_le y.size at) [
      | yes b ↦ subst P (sym (store_past y d k ks at bs b)) (store_keeps y P ks t (λ d k j bs w m. f d k j bs w (there m)) d (at - y.size) bs w p)
      | no b ↦
          let l : at + length s ≤ y.size = omega (arith, take_short (y.size - at) bs) in
          subst P (sym (store_here y d k ks at bs (omega arith)))
          (store_keeps y P ks t (λ d k j bs w m. f d k j bs w (there m)) (put_bytes y d k at s) 0 (drop (y.size - at) bs)
          (fits_kept y d (put_bytes y d k at s) (length_bytes y d w k at s h l) w) (f d k at s w (here refl) h l p))
    ]

module _ (y : Layout) (d : List ℕ) (w : Fits y d) (ks : List ℕ) (e : every (in_heap y.count) ks ≡ true) (at : ℕ) (bs : List ℕ) where
  pub length_store : length (store_at y d ks at bs) ≡ length d
  length_store = store_keeps y (λ l. length l ≡ length d) ks e (λ l k j s v m h f p. length_bytes y l v k j s h f ∙ p) d at bs w refl

  pub fat_store : (i : ℕ) → i < y.count + 2 → fat_entry y (store_at y d ks at bs) i ≡ fat_entry y d i
  fat_store i b = store_keeps y (λ l. fat_entry y l i ≡ fat_entry y d i) ks e (λ l k j s v m h f p. fat_bytes_lem y l v k j s i h f b ∙ p) d at bs w refl

  -- so the clusters of every stream are the same
  pub along_store : (run : Bool) (k n : ℕ) → every (in_heap y.count) (along (fat_entry y d) run k n) ≡ true
      → along (fat_entry y (store_at y d ks at bs)) run k n ≡ along (fat_entry y d) run k n
  along_store run k n h =
      sym (along_same y.count (fat_entry y d) (fat_entry y (store_at y d ks at bs)) (λ j i. sym (fat_store j (in_heap_lem y.count j i).1)) run k n h)

  pub mark_store : every (plain y) ks ≡ true → (i : ℕ) → in_heap y.count i ≡ true → marked y (store_at y d ks at bs) i ≡ marked y d i
  mark_store o i g =
      store_keeps y (λ l. marked y l i ≡ marked y d i) ks e
      (λ l k j s v m h f p. mark_bytes y l v k j s i h (plain_off y k (every_mem (plain y) ks o k m)) f g ∙ p) d at bs w refl

  -- a cluster that is none of them, and a list of such
  pub cluster_store : (i : ℕ) → in_heap y.count i ≡ true → (Mem i ks → ⊥) → cluster_bytes y (store_at y d ks at bs) i ≡ cluster_bytes y d i
  cluster_store i g o =
      store_keeps y (λ l. cluster_bytes y l i ≡ cluster_bytes y d i) ks e
      (λ l k j s v m h f p. cluster_apart y l v k j s i h f g (λ q. o (subst (λ (x : ℕ). Mem x ks) (sym q) m)) ∙ p) d at bs w refl

  pub bytes_store_apart : (js : List ℕ) → every (in_heap y.count) js ≡ true → ((k : ℕ) → Mem k js → Mem k ks → ⊥)
      → bytes_of y (store_at y d ks at bs) js ≡ bytes_of y d js
  bytes_store_apart js g o =
      bytes_cong y d (store_at y d ks at bs) js (λ k m. cluster_store k (every_mem (in_heap y.count) js g k m) (o k m))

-- ---- the bytes of the stream itself

-- the first cluster's bytes and the rest, where the store begins in the first one
splice_split : (c r : List ℕ) (at : ℕ) (bs : List ℕ) (n : ℕ) → at + n ≡ length c
    → splice c at (take n bs) ++ splice r 0 (drop n bs) ≡ splice (c ++ r) at bs
splice_split c r at bs n e =
    elim (dec_le n (length bs)) [
      | yes h ↦
          sym (splice_over c r at (take n bs) (drop n bs) (omega (arith, length-take-le n bs h))) ∙ ap (splice (c ++ r) at) (take-append-drop n bs)
      | no h ↦
          let q : take n bs ≡ bs = take_all n bs (omega arith) in
          let z : drop n bs ≡ [] = drop_of_length-le bs {i = n} (omega arith) in
          rw (q, z, splice-nil r 0) (sym (splice_left c r at bs (omega arith)))
    ]

pub bytes_store : (y : Layout) (d : List ℕ) → Fits y d → (ks : List ℕ) → Distinct ks → every (in_heap y.count) ks ≡ true → (at : ℕ) (bs : List ℕ)
    → at + length bs ≤ length ks * y.size → bytes_of y (store_at y d ks at bs) ks ≡ splice (bytes_of y d ks) at bs
bytes_store y d w [] u e at [] b = unfold bytes_of in (sym (splice-nil [] at))
bytes_store y d w [] u e at (x ∷ bs) b = absurd (omega arith)
bytes_store y d w (k ∷ ks) (more o u) e at bs b =
    let h = every_head (in_heap y.count) k ks e in
    let t = every_tail (in_heap y.count) k ks e in
    let c = cluster_bytes y d k in
    let r = bytes_of y d ks in
    let n = length_cluster y d w.laid w.long k h in
    let z = suc-mul (length ks) y.size in
    let s = take (y.size - at) bs in
    let q = drop (y.size - at) bs in
    elim (dec_le y.size at) [
      | yes f ↦
          ap (λ (l : List ℕ). bytes_of y l (k ∷ ks)) (store_past y d k ks at bs f)
          ∙ cons_of y (store_at y d ks (at - y.size) bs) k ks c (splice r (at - y.size) bs)
          (cluster_store y d w ks t (at - y.size) bs k h o) (bytes_store y d w ks u t (at - y.size) bs (omega arith))
          ∙ sym (splice_right c r at (at - y.size) bs (omega arith)) ∙ ap (λ (l : List ℕ). splice l at bs) (unfold bytes_of in refl)
      | no f ↦
          let d₁ = put_bytes y d k at s in
          let l : at + length s ≤ y.size = omega (arith, take_short (y.size - at) bs) in
          let w₁ = fits_kept y d d₁ (length_bytes y d w k at s h l) w in
          let first : cluster_bytes y (store_at y d₁ ks 0 q) k ≡ splice c at s = cluster_store y d₁ w₁ ks t 0 q k h o ∙ cluster_put y d w k at s h l in
          let kept : bytes_of y d₁ ks ≡ r =
          bytes_cong y d d₁ ks
          (λ j m. cluster_apart y d w k at s j h l (every_mem (in_heap y.count) ks t j m) (λ i. o (subst (λ (x : ℕ). Mem x ks) i m))) in
          let rest : bytes_of y (store_at y d₁ ks 0 q) ks ≡ splice r 0 q =
          bytes_store y d₁ w₁ ks u t 0 q (omega (arith, length-drop (y.size - at) bs)) ∙ ap (λ (l : List ℕ). splice l 0 q) kept in
          ap (λ (l : List ℕ). bytes_of y l (k ∷ ks)) (store_here y d k ks at bs (omega arith))
          ∙ cons_of y (store_at y d₁ ks 0 q) k ks (splice c at s) (splice r 0 q) first rest
          ∙ splice_split c r at bs (y.size - at) (omega arith) ∙ ap (λ (l : List ℕ). splice l at bs) (unfold bytes_of in refl)
    ]
  where
    cons_of : (y : Layout) (d : List ℕ) (k : ℕ) (ks c r : List ℕ) → cluster_bytes y d k ≡ c → bytes_of y d ks ≡ r → bytes_of y d (k ∷ ks) ≡ c ++ r
    cons_of y d k ks c r p q = unfold bytes_of in (ap₂ (λ (u v : List ℕ). u ++ v) p q)

-- what was stored is read back
pub read_back : (y : Layout) (d : List ℕ) → Fits y d → (ks : List ℕ) → Distinct ks → every (in_heap y.count) ks ≡ true → (at : ℕ) (bs : List ℕ)
    → at + length bs ≤ length ks * y.size → take (length bs) (drop at (bytes_of y (store_at y d ks at bs) ks)) ≡ bs
read_back y d w ks u e at bs b =
    let n = length_of y d w ks e in
    ap (λ (l : List ℕ). take (length bs) (drop at l)) (bytes_store y d w ks u e at bs b) ∙ splice_part (bytes_of y d ks) at bs (omega arith)

-- ---- stores one after the other

-- a store that the first cluster has room for
pub store_first : (y : Layout) (d : List ℕ) (k : ℕ) (ks : List ℕ) (at : ℕ) (bs : List ℕ) → at < y.size → at + length bs ≤ y.size
    → store_at y d (k ∷ ks) at bs ≡ put_bytes y d k at bs
store_first y d k ks at bs low h =
    let n = y.size - at in
    store_here y d k ks at bs low
    ∙ ap₂ (λ (u v : List ℕ). store_at y (put_bytes y d k at u) ks 0 v) (take_all n bs (omega arith)) (drop_of_length-le bs {i = n} (omega arith))
    ∙ store_nothing y (put_bytes y d k at bs) ks 0

-- ---- stores in the front, and in the rest, of a list of clusters

pub store_front : (y : Layout) (d js ks : List ℕ) (at : ℕ) (bs : List ℕ) → at + length bs ≤ length js * y.size
    → store_at y d (js ++ ks) at bs ≡ store_at y d js at bs
store_front y d [] ks at [] h = store_nothing y d ks at ∙ (unfold store_at in refl)
store_front y d [] ks at (b ∷ bs) h = absurd (omega arith)
store_front y d (j ∷ js) ks at bs h =
    let z = suc-mul (length js) y.size in
    let n = y.size - at in
    elim (dec_le y.size at) [
      | yes f ↦ store_past y d j (js ++ ks) at bs f ∙ store_front y d js ks (at - y.size) bs (omega arith) ∙ sym (store_past y d j js at bs f)
      | no f ↦
          store_here y d j (js ++ ks) at bs (omega arith)
          ∙ store_front y (put_bytes y d j at (take n bs)) js ks 0 (drop n bs) (omega (arith, length-drop n bs)) ∙ sym (store_here y d j js at bs (omega arith))
    ]
