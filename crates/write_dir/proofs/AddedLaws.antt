-- Clusters added to a directory, one at a time, and zeroed. Assumes nothing.
use mathlib.Core.Path.{◌≡◌, refl, sym, ◌∙◌, ap, ap₂, subst}
use mathlib.Core.Logic.{⊎_elim}
use mathlib.Core.Bool.{true, false, false≢true}
use mathlib.Core.List.{List, [], ◌∷◌, ◌++◌, append_assoc, append-nil}
use Prim.Native.Nat.{ℕ, zero, suc, ◌+◌, ◌-◌, ◌≤◌, ◌<◌}
use native.Mathlib.Numerals.{sub-one}
use native.Mathlib.Omega.{arith}
use lib.ListN.{length, get_or, replicate, length-append, length-replicate}
use Rattle.primitives.proofs.SpliceLaws.{splice_whole}
use Rattle.tables.specs.Lists.{Mem, here, there, every, last_or}
use Rattle.tables.specs.Count.{count}
use Rattle.tables.proofs.Cases.{not_so}
use Rattle.tables.proofs.ListLaws.{mem_append, mem_left, mem_right, every_mem, mem_every}
use Rattle.tables.proofs.CountLaws.{count_cong}
use Rattle.boot.specs.declared.layout.Layout.{Layout}
use Rattle.boot.specs.Limits.{in_map}
use Rattle.boot.specs.Layout.{in_heap, is_bitmap_cluster}
use Rattle.boot.proofs.Apart.{in_heap_lem, heap_in}
use Rattle.metadata.specs.Fat.{fat_entry}
use Rattle.metadata.specs.Marks.{marked}
use Rattle.metadata.specs.Usable.{is_free, is_usable}
use Rattle.metadata.specs.Cluster.{put_bytes}
use Rattle.metadata.proofs.Frame.{Fits, fits_kept, length_bytes, fat_bytes_lem, mark_bytes, small}
use Rattle.metadata.proofs.View.{plain, plain_heap}
use Rattle.metadata.proofs.Counting.{marked_count, usable_facts}
use Rattle.stream.specs.declared.allocation.Allocation.{Allocation}
use Rattle.stream.specs.Chain.{listed}
use Rattle.stream.specs.Stream.{number_of, stream_of, clusters_of, clusters_in}
use Rattle.stream.specs.Bytes.{cluster_bytes}
use Rattle.stream.proofs.ChainLaws.{stream_listed}
use Rattle.stream.proofs.StreamLaws.{Read, read_facts}
use Rattle.stream.proofs.BytesSteps.{length_cluster}
use Rattle.stream.proofs.BytesLaws.{cluster_cong, cluster_put, cluster_apart}
use Rattle.stream.proofs.Distinct.{read_length, stream_frame}
use Rattle.write_alloc.specs.Outcome.{success, Answer, Outcome}
use Rattle.write_extend.specs.Extend.{extend_in}
use Rattle.write_alloc.proofs.GrowLaws.{fresh_unmarked}
use Rattle.write_extend.proofs.EnoughLaws.{Extended, extend_done, usable_grown}
use Rattle.write_alloc.specs.declared.answer.Updated.{Updated}
use Rattle.write_dir.specs.Place.{GrownDirectory, grow_one, grow_by}
use Rattle.write_dir.specs.Internal.{standing, added_of, Growable}

-- ---- lists

one-new : (l : List ℕ) → length l ≡ 1 → l ≡ get_or l 0 0 ∷ []
one-new [] e = absurd (omega arith)
one-new (k ∷ []) e = refl
one-new (k ∷ j ∷ l) e = absurd (omega arith)

last_is : (z : ℕ) (xs : List ℕ) (k : ℕ) → last_or z (xs ++ k ∷ []) ≡ k
unfolding last_or
last_is z [] k = refl
last_is z (x ∷ xs) k = last_is x xs k

nothing_in : {k : ℕ} → Mem k [] → ⊥
nothing_in {k} m = none [] m refl
  where
    none : (l : List ℕ) → Mem k l → length l ≡ 0 → ⊥
    none (x ∷ xs) (here e) q = omega arith
    none (x ∷ xs) (there n) q = omega arith
    none [] x'' q = elim x'' [ ]

-- ---- a directory that grew

-- the volume and directory of w: d with the clusters `new` taken, each full of zeros, and the directory reads as `old` followed by them
pub record Zeroed (y : Layout) (d m : List ℕ) (w : GrownDirectory) (old new : List ℕ) : Type 0 where
  pub long : length w.volume ≡ length d
  pub reads : stream_of y w.volume w.directory ≡ listed (old ++ new)
  pub plains : every (plain y) new ≡ true
  pub unmarked : (k : ℕ) → Mem k new → marked y d k ≡ false
  pub marks_new : (k : ℕ) → Mem k new → marked y w.volume k ≡ true
  pub marks_kept : (k : ℕ) → in_heap y.count k ≡ true → (Mem k new → ⊥) → marked y w.volume k ≡ marked y d k
  pub fat_kept : (k : ℕ) → in_heap y.count k ≡ true → (Mem k old → ⊥) → (Mem k new → ⊥) → fat_entry y w.volume k ≡ fat_entry y d k
  pub bytes_kept : (k : ℕ) → plain y k ≡ true → (Mem k new → ⊥) → cluster_bytes y w.volume k ≡ cluster_bytes y d k
  pub zeros : (k : ℕ) → Mem k new → cluster_bytes y w.volume k ≡ replicate y.size 0
  pub usable : count (is_usable y w.volume m) 2 y.count + length new ≡ count (is_usable y d m) 2 y.count
  pub counts : marked_count y w.volume ≡ marked_count y d + length new
  pub hint_in : in_heap y.count w.hint ≡ true

module _ (y : Layout) (d m : List ℕ) (w : GrownDirectory) (old new : List ℕ) (z : Zeroed y d m w old new) where
  pub zeroed_clusters : clusters_in y w.volume w.directory ≡ old ++ new
  unfolding clusters_in
  zeroed_clusters = ap clusters_of z.reads

  pub zeroed_count : w.directory.count ≡ length old + length new
  zeroed_count =
      sym (read_length y.count (fat_entry y w.volume) (marked y w.volume) w.directory (old ++ new)
      (read_facts y.count (fat_entry y w.volume) (marked y w.volume) w.directory (old ++ new) (unfold stream_of in z.reads)))
      ∙ length-append old new

-- no cluster is added
none_zeroed : (y : Layout) (m : List ℕ) (w : GrownDirectory) (ks : List ℕ) → stream_of y w.volume w.directory ≡ listed ks → in_heap y.count w.hint ≡ true
    → Zeroed y w.volume m w ks []
none_zeroed y m w ks e h = record {
  long = refl;
  reads = e ∙ ap listed (sym (append-nil ks));
  plains = unfold every in refl;
  unmarked = λ k i. absurd (nothing_in i);
  marks_new = λ k i. absurd (nothing_in i);
  marks_kept = λ _ _ _. refl;
  fat_kept = λ _ _ _ _. refl;
  bytes_kept = λ _ _ _. refl;
  zeros = λ k i. absurd (nothing_in i);
  usable = omega arith;
  counts = omega arith;
  hint_in = h;
}

-- ---- one cluster

module _ (y : Layout) (m : List ℕ) (w : GrownDirectory) (fits : Fits y w.volume) (mapped : (k : ℕ) → is_bitmap_cluster y k ≡ true → in_map m k ≡ true)
    (ks : List ℕ) (e : stream_of y w.volume w.directory ≡ listed ks) (hint_in : in_heap y.count w.hint ≡ true)
    (h : 1 ≤ count (is_usable y w.volume m) 2 y.count) where
  abbrev d : List ℕ
  d = w.volume

  abbrev o : Outcome
  o = extend_in y w.volume m w.directory 1 w.hint

  took : Extended y d m o ks 1
  took = extend_done y d m fits w.directory ks e 1 w.hint hint_in h

  abbrev d₁ : List ℕ
  d₁ = (extend_in y w.volume m w.directory 1 w.hint).volume

  abbrev k : ℕ
  k = (extend_in y w.volume m w.directory 1 w.hint).answer.allocation.last

  fits₁ : Fits y d₁
  fits₁ = fits_kept y d d₁ took.grows.long fits

  read₁ : Read y.count (fat_entry y d₁) (marked y d₁) o.answer.allocation (ks ++ took.new)
  read₁ = read_facts y.count (fat_entry y d₁) (marked y d₁) o.answer.allocation (ks ++ took.new) (unfold stream_of in took.grows.reads)

  -- it is the last one of the directory
  new_is : took.new ≡ k ∷ []
  new_is =
      let q = one-new took.new took.many in
      let x : ℕ = get_or took.new 0 0 in
      let n = read_length y.count (fat_entry y d₁) (marked y d₁) o.answer.allocation (ks ++ took.new) read₁ in
      let l : last_or 0 (ks ++ took.new) ≡ k = read₁.last (λ z. omega (arith, length-append ks took.new, took.many)) 0 in
      let i : x ≡ k = sym (ap (λ (l : List ℕ). last_or 0 (ks ++ l)) q ∙ last_is 0 ks x) ∙ l in
      q ∙ ap (λ (z : ℕ). z ∷ []) i

  in_new : Mem k took.new
  in_new = subst (Mem k) (sym new_is) (here refl)

  pub added_heap : in_heap y.count (extend_in y w.volume m w.directory 1 w.hint).answer.allocation.last ≡ true
  added_heap = every_mem (in_heap y.count) took.new took.grows.fresh.heap k in_new

  -- a usable cluster is no bitmap's
  added_off : is_bitmap_cluster y k ≡ false
  added_off =
      not_so (is_bitmap_cluster y k)
      (λ b. false≢true (sym (usable_facts y d m k (every_mem (is_usable y d m) took.new took.grows.fresh.usable k in_new)).1 ∙ mapped k b))

  added_plain : plain y k ≡ true
  added_plain = unfold plain in (rw (added_heap, added_off) refl)

  abbrev bs : List ℕ
  bs = replicate y.size 0

  room : 0 + length bs ≤ y.size
  room = omega (arith, length-replicate {A = ℕ} y.size 0)

  abbrev d₂ : List ℕ
  d₂ = put_bytes y d₁ k 0 bs

  fat₂ : (i : ℕ) → in_heap y.count i ≡ true → fat_entry y d₂ i ≡ fat_entry y d₁ i
  fat₂ i g = fat_bytes_lem y d₁ fits₁ k 0 bs i added_heap room (in_heap_lem y.count i g).1

  mark₂ : (i : ℕ) → in_heap y.count i ≡ true → marked y d₂ i ≡ marked y d₁ i
  mark₂ i g = mark_bytes y d₁ fits₁ k 0 bs i added_heap added_off room g

  heap₁ : (i : ℕ) → Mem i (ks ++ took.new) → in_heap y.count i ≡ true
  heap₁ i j = every_mem (in_heap y.count) (ks ++ took.new) read₁.heap i j

  reads₂ : stream_of y d₂ o.answer.allocation ≡ listed (ks ++ took.new)
  unfolding stream_of
  reads₂ =
      stream_frame y.count (fat_entry y d₁) (fat_entry y d₂) (marked y d₁) (marked y d₂) o.answer.allocation (ks ++ took.new) (small y d fits)
      (λ i j. fat₂ i (heap₁ i j)) (λ i j. mark₂ i (heap₁ i j)) took.grows.reads

  usable₂ : (i : ℕ) → in_heap y.count i ≡ true → is_usable y d₂ m i ≡ is_usable y d₁ m i
  usable₂ i g = unfold is_usable in (unfold is_free in (rw (fat₂ i g, mark₂ i g) refl))

  marks : every (marked y d) ks ≡ true
  marks = (read_facts y.count (fat_entry y d) (marked y d) w.directory ks (unfold stream_of in e)).marks

  count₂ : count (is_usable y d₂ m) 2 y.count ≡ count (is_usable y d₁ m) 2 y.count
  count₂ = count_cong (is_usable y d₁ m) (is_usable y d₂ m) 2 y.count (λ i l b. usable₂ i (heap_in y.count i l (omega arith)))

  marked₂ : marked_count y d₂ ≡ marked_count y d₁
  unfolding marked_count
  marked₂ = count_cong (marked y d₁) (marked y d₂) 2 y.count (λ i l b. mark₂ i (heap_in y.count i l (omega arith)))

  kept₁ : (i : ℕ) → plain y i ≡ true → cluster_bytes y d₁ i ≡ cluster_bytes y d i
  kept₁ i p = cluster_cong y d d₁ i took.grows.long (λ r b. took.grows.bytes_kept i r p b)

  pub grow_one_lem : Zeroed y w.volume m (grow_one y m w) ks ((extend_in y w.volume m w.directory 1 w.hint).answer.allocation.last ∷ [])
  unfolding grow_one
  grow_one_lem =
      let g = took.grows in
      subst (Zeroed y d m (standing d₂ o.answer.allocation o.answer.hint) ks) new_is
      (record {
        long = length_bytes y d₁ fits₁ k 0 bs added_heap room ∙ g.long;
        reads = reads₂;
        plains = mem_every (plain y) took.new (λ i j. subst (λ (x : ℕ). plain y x ≡ true) (sym (only-new i j)) added_plain);
        unmarked = fresh_unmarked y d m took.new g.fresh;
        marks_new = λ i j. mark₂ i (heap₁ i (mem_right ks j)) ∙ g.marks_new i j;
        marks_kept = λ i p off. mark₂ i p ∙ g.marks_kept i p off;
        fat_kept = λ i p u off. fat₂ i p ∙ g.fat_kept i p u off;
        bytes_kept = λ i p off. cluster_apart y d₁ fits₁ k 0 bs i added_heap room (plain_heap y i p) (λ q. off (subst (λ (x : ℕ). Mem x took.new) (sym q) in_new))
            ∙ kept₁ i p;
        zeros = λ i j. ap (cluster_bytes y d₂) (only-new i j) ∙ cluster_put y d₁ fits₁ k 0 bs added_heap room
            ∙ splice_whole (cluster_bytes y d₁ k) bs
            (length-replicate {A = ℕ} y.size 0 ∙ sym (length_cluster y d₁ fits₁.laid fits₁.long k added_heap));
        usable = ap (λ (x : ℕ). x + length took.new) count₂ ∙ usable_grown y d m d₁ o.answer.allocation ks took.new marks g;
        counts = marked₂ ∙ g.counts;
        hint_in = took.hint;
      })
    where
      only-new : (i : ℕ) → Mem i took.new → i ≡ k
      only-new i j = one (subst (Mem i) new_is j)
        where
          one : Mem i (k ∷ []) → i ≡ k
          one (here q) = q
          one (there q) = absurd (nothing_in q)

-- ---- one after the other

module _ (y : Layout) (d m : List ℕ) (w₁ w₂ : GrownDirectory) (old new₁ new₂ : List ℕ) (a : Zeroed y d m w₁ old new₁) (b : Zeroed y w₁.volume m w₂ (old ++ new₁) new₂) where
  off₁ : (k : ℕ) → Mem k new₂ → Mem k new₁ → ⊥
  off₁ k i j = false≢true (sym (b.unmarked k i) ∙ a.marks_new k j)

  both_plain : (k : ℕ) → Mem k (new₁ ++ new₂) → plain y k ≡ true
  both_plain k i = ⊎_elim (λ j. every_mem (plain y) new₁ a.plains k j) (λ j. every_mem (plain y) new₂ b.plains k j) (mem_append new₁ i)

  both_heap : (k : ℕ) → Mem k (new₁ ++ new₂) → in_heap y.count k ≡ true
  both_heap k i = plain_heap y k (both_plain k i)

  zeroed_then : Zeroed y d m w₂ old (new₁ ++ new₂)
  zeroed_then = record {
    long = b.long ∙ a.long;
    reads = b.reads ∙ ap listed (append_assoc old new₁ new₂);
    plains = mem_every (plain y) (new₁ ++ new₂) both_plain;
    unmarked = λ k i. ⊎_elim (a.unmarked k)
        (λ j. sym (a.marks_kept k (both_heap k i) (λ l. off₁ k j l)) ∙ b.unmarked k j) (mem_append new₁ i);
    marks_new = λ k i. ⊎_elim (λ j. b.marks_kept k (both_heap k i) (λ l. off₁ k l j) ∙ a.marks_new k j) (b.marks_new k) (mem_append new₁ i);
    marks_kept = λ k h o. b.marks_kept k h (λ i. o (mem_right new₁ i)) ∙ a.marks_kept k h (λ i. o (mem_left new₂ i));
    fat_kept = λ k h u o. b.fat_kept k h (λ i. ⊎_elim u (λ j. o (mem_left new₂ j)) (mem_append old i)) (λ i. o (mem_right new₁ i))
        ∙ a.fat_kept k h u (λ i. o (mem_left new₂ i));
    bytes_kept = λ k p o. b.bytes_kept k p (λ i. o (mem_right new₁ i)) ∙ a.bytes_kept k p (λ i. o (mem_left new₂ i));
    zeros = λ k i. ⊎_elim (λ j. b.bytes_kept k (both_plain k i) (λ l. off₁ k l j) ∙ a.zeros k j) (b.zeros k) (mem_append new₁ i);
    usable = omega (arith, a.usable, b.usable, length-append new₁ new₂);
    counts = omega (arith, a.counts, b.counts, length-append new₁ new₂);
    hint_in = b.hint_in;
  }

pub by_step : (y : Layout) (m : List ℕ) (n : ℕ) (w : GrownDirectory) → 0 < n → grow_by y m n w ≡ grow_by y m (n - 1) (grow_one y m w)
unfolding grow_by
by_step y m zero w h = absurd (omega arith)
by_step y m (suc n) w h = rw sub-one refl

-- n clusters, as many as are usable
pub grow_many : (y : Layout) (m : List ℕ) → ((k : ℕ) → is_bitmap_cluster y k ≡ true → in_map m k ≡ true) → (n : ℕ) (w : GrownDirectory) → Fits y w.volume
    → (ks : List ℕ) → stream_of y w.volume w.directory ≡ listed ks → in_heap y.count w.hint ≡ true
    → n ≤ count (is_usable y w.volume m) 2 y.count
    → (new : List ℕ) × (length new ≡ n) × Zeroed y w.volume m (grow_by y m n w) ks new
unfolding grow_by
grow_many y m mapped zero w fits ks e i h = ([], refl, none_zeroed y m w ks e i)
grow_many y m mapped (suc n) w fits ks e i h =
    let k = (extend_in y w.volume m w.directory 1 w.hint).answer.allocation.last in
    let a = grow_one_lem y m w fits mapped ks e i (omega arith) in
    let r = grow_many y m mapped n (grow_one y m w) (fits_kept y w.volume (grow_one y m w).volume a.long fits) (ks ++ k ∷ []) a.reads a.hint_in (omega (arith, a.usable)) in
    (k ∷ r.0, ap suc r.1, zeroed_then y w.volume m (grow_one y m w) (grow_by y m n (grow_one y m w)) ks (k ∷ []) r.0 a r.2)

-- ---- turns of a loop that adds

module _ (y : Layout) (d m : List ℕ) (a : Allocation) (n hint : ℕ) (g : Growable y d m a n hint) where
  pub growable_one : 0 < n → Growable y d m a 1 hint
  growable_one h = let b = g.enough in record { reads = g.reads; mapped = g.mapped; enough = omega arith; hint_in = g.hint_in }

  growable_listed : (ks : List ℕ) × (stream_of y d a ≡ listed ks)
  unfolding stream_of
  growable_listed = stream_listed y.count (fat_entry y d) (marked y d) a g.reads

  module _ (fits : Fits y d) (h : 0 < n) where
    abbrev ks : List ℕ
    ks = growable_listed.0

    step : Zeroed y d m (grow_one y m (standing d a hint)) ks ((extend_in y d m a 1 hint).answer.allocation.last ∷ [])
    step = let b = g.enough in grow_one_lem y m (standing d a hint) fits g.mapped ks growable_listed.1 g.hint_in (omega arith)

    pub last_heap : in_heap y.count (extend_in y d m a 1 hint).answer.allocation.last ≡ true
    last_heap = let b = g.enough in added_heap y m (standing d a hint) fits g.mapped ks growable_listed.1 g.hint_in (omega arith)

    pub grow_turn : (r : Updated) (d' : List ℕ) → r ≡ added_of (grow_one y m (standing d a hint)) → d' ≡ (grow_one y m (standing d a hint)).volume
        → Growable y d' m r.allocation (n - 1) r.hint × (grow_by y m (n - 1) (standing d' r.allocation r.hint) ≡ grow_by y m n (standing d a hint))
    grow_turn r d' p q =
        let s = step in
        let b = g.enough in
        let v : standing d' r.allocation r.hint ≡ grow_one y m (standing d a hint) =
        λ z. record { volume = q z; directory = (p z).allocation; hint = (p z).hint } in (
          subst (λ (v : GrownDirectory). Growable y v.volume m v.directory (n - 1) v.hint) (sym v)
              (record {
                reads = ap number_of s.reads ∙ (unfold number_of in refl);
                mapped = g.mapped;
                enough = omega (arith, s.usable);
                hint_in = s.hint_in;
              }),
          ap (grow_by y m (n - 1)) v ∙ sym (by_step y m n (standing d a hint) h),
        )

-- what the call of one answers and leaves
pub grow_is : (y : Layout) (d m : List ℕ) (a : Allocation) (hint : ℕ) (r : Updated) (d₁ d₂ : List ℕ) → success r ≡ (extend_in y d m a 1 hint).answer
    → d₁ ≡ (extend_in y d m a 1 hint).volume → d₂ ≡ put_bytes y d₁ r.allocation.last 0 (replicate y.size 0)
    → (r ≡ added_of (grow_one y m (standing d a hint))) × (d₂ ≡ (grow_one y m (standing d a hint)).volume)
unfolding grow_one
grow_is y d m a hint r d₁ d₂ p q e = (
  λ z. record { allocation = (p z).allocation; hint = (p z).hint },
  e ∙ ap₂ (λ (l : List ℕ) (b : Answer). put_bytes y l b.allocation.last 0 (replicate y.size 0)) q p,
)

pub grow_end : (y : Layout) (m : List ℕ) (n : ℕ) (r : Updated) (d : List ℕ) (v : GrownDirectory) → n ≤ 0 → grow_by y m n (standing d r.allocation r.hint) ≡ v
    → (r ≡ added_of v) × (d ≡ v.volume)
unfolding grow_by
grow_end y m zero r d v h e = (λ z. record { allocation = (e z).directory; hint = (e z).hint }, ap (λ (v : GrownDirectory). v.volume) e)
grow_end y m (suc n) r d v h e = absurd (omega arith)
