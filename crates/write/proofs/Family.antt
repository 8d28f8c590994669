-- Streams that share no cluster: root and files of a volume as one family of records, and what a change of one member leaves of the
-- others. Assumes nothing.
use mathlib.Core.Path.{◌≡◌, refl, sym, ◌∙◌, ap, subst}
use mathlib.Core.Logic.{◌≢◌, ◌⊎◌, inl, inr, ⊎_elim}
use mathlib.Core.Bool.{true, false, not}
use mathlib.Core.List.{[], List, ◌∷◌}
use mathlib.Core.Option.{Option, none, some}
use Prim.Native.Nat.{ℕ, ◌+◌, ◌*◌, ◌≤◌}
use native.Mathlib.Decide.{ℕ_discrete}
use native.Mathlib.Omega.{arith}
use lib.ListN.{length}
use Rattle.primitives.specs.Splice.{splice}
use Rattle.tables.specs.Table.{upd}
use Rattle.tables.specs.Lists.{Mem, every}
use Rattle.tables.proofs.Cases.{clash, and_both}
use Rattle.tables.proofs.TableLaws.{upd_same, upd_other}
use Rattle.tables.proofs.ListLaws.{every_mem}
use Rattle.tables.proofs.CountLaws.{count_cong}
use Rattle.boot.specs.declared.layout.Layout.{Layout}
use Rattle.boot.specs.Layout.{in_heap, is_bitmap_cluster}
use Rattle.boot.proofs.Apart.{in_heap_lem, heap_in}
use Rattle.metadata.specs.Fat.{fat_entry}
use Rattle.metadata.specs.Marks.{marked}
use Rattle.metadata.proofs.Frame.{Fits, small}
use Rattle.metadata.proofs.View.{plain}
use Rattle.metadata.proofs.Counting.{marked_count}
use Rattle.stream.specs.declared.allocation.Allocation.{Allocation}
use Rattle.stream.specs.Chain.{listed}
use Rattle.stream.specs.Stream.{number_of, stream_of, clusters_of, clusters_in}
use Rattle.stream.specs.Bytes.{bytes_of, store_at, bytes_in}
use Rattle.stream.proofs.Distinct.{stream_frame}
use Rattle.stream.proofs.BytesLaws.{length_store, fat_store, mark_store, bytes_store_apart, bytes_store}
use Rattle.directory.proofs.DirectoryLaws.{clusters_heap}
use Rattle.write.proofs.Reading.{clusters_of_lem, number_of_lem, reads_as, empty-reads, clusters_distinct}

-- records that read, with no bitmap cluster, and no two of them with a cluster in common
pub record Family (y : Layout) (d : List ℕ) (S : ℕ → Option Allocation) : Type 0 where
  pub reads : (i : ℕ) (a : Allocation) → S i ≡ some a → number_of (stream_of y d a) ≡ 0
  pub plains : (i : ℕ) (a : Allocation) → S i ≡ some a → every (plain y) (clusters_in y d a) ≡ true
  pub apart : (i j : ℕ) (a b : Allocation) → i ≢ j → S i ≡ some a → S j ≡ some b → (k : ℕ) → Mem k (clusters_in y d a) → Mem k (clusters_in y d b) → ⊥

-- cluster k is marked and of no member
pub record Outside (y : Layout) (d : List ℕ) (S : ℕ → Option Allocation) (k : ℕ) : Type 0 where
  pub heap : in_heap y.count k ≡ true
  pub mark : marked y d k ≡ true
  pub off : (j : ℕ) (a : Allocation) → S j ≡ some a → Mem k (clusters_in y d a) → ⊥

-- d' is d with member i changed to o, the others as they were, and marked clusters of none marked and of none
pub record Moved (y : Layout) (d d' : List ℕ) (S : ℕ → Option Allocation) (i : ℕ) (o : Option Allocation) : Type 0 where
  pub long : length d' ≡ length d
  pub family : Family y d' (upd S i o)
  pub streams : (j : ℕ) (a : Allocation) → j ≢ i → S j ≡ some a → stream_of y d' a ≡ stream_of y d a
  pub bytes : (j : ℕ) (a : Allocation) → j ≢ i → S j ≡ some a → bytes_in y d' a ≡ bytes_in y d a
  pub outside : (k : ℕ) → Outside y d S k → Outside y d' (upd S i o) k

-- the clusters depend on what the record reads as alone
pub same_clusters : (y : Layout) (d d' : List ℕ) (a : Allocation) → stream_of y d' a ≡ stream_of y d a → clusters_in y d' a ≡ clusters_in y d a
unfolding clusters_in
same_clusters y d d' a e = ap clusters_of e

-- and so do the others' clusters
pub moved_clusters : (y : Layout) (d d' : List ℕ) (S : ℕ → Option Allocation) (i : ℕ) (o : Option Allocation) → Moved y d d' S i o
    → (j : ℕ) (a : Allocation) → j ≢ i → S j ≡ some a → clusters_in y d' a ≡ clusters_in y d a
moved_clusters y d d' S i o v j a n s = same_clusters y d d' a (v.streams j a n s)

-- ---- marked clusters of no member

-- a cluster of the heap that is no bitmap's
pub plain_at : (y : Layout) (k : ℕ) → in_heap y.count k ≡ true → is_bitmap_cluster y k ≡ false → plain y k ≡ true
unfolding plain
plain_at y k h o = and_both (in_heap y.count k) (not (is_bitmap_cluster y k)) h (ap not o)

-- a table with no other members
pub outside_less : (y : Layout) (d : List ℕ) (S T : ℕ → Option Allocation) (k : ℕ) → ((j : ℕ) (a : Allocation) → T j ≡ some a → S j ≡ some a)
    → Outside y d S k → Outside y d T k
outside_less y d S T k h l = record { heap = l.heap; mark = l.mark; off = λ j a e. l.off j a (h j a e) }

-- ---- members of a changed table

module _ (S : ℕ → Option Allocation) (i : ℕ) where
  -- one that is not at i is an old one
  old-member : (o : Option Allocation) (j : ℕ) (b : Allocation) → j ≢ i → upd S i o j ≡ some b → S j ≡ some b
  old-member o j b n e = sym (upd_other S i o j n) ∙ e

  pub kept_member : (o : Option Allocation) (j : ℕ) (b : Allocation) → j ≢ i → S j ≡ some b → upd S i o j ≡ some b
  kept_member o j b n e = upd_other S i o j n ∙ e

  new-member : (a : Allocation) (j : ℕ) (b : Allocation) → upd S i (some a) j ≡ some b → ((j ≡ i) × (a ≡ b)) ⊎ ((j ≢ i) × (S j ≡ some b))
  new-member a j b e =
      elim (ℕ_discrete j i) [
        | yes q ↦ (let z : some a ≡ some b = sym (upd_same S i (some a)) ∙ ap (upd S i (some a)) (sym q) ∙ e in inl (q, (cc)))
        | no n ↦ inr (n, old-member (some a) j b n e)
      ]

  none-member : (j : ℕ) (b : Allocation) → upd S i none j ≡ some b → (j ≢ i) × (S j ≡ some b)
  none-member j b e =
      elim (ℕ_discrete j i) [
        | yes q ↦ (let z : ◌≡◌ {A = Option Allocation} none (some b) = sym (upd_same S i none) ∙ ap (upd S i none) (sym q) ∙ e in clash (cc))
        | no n ↦ (n, old-member none j b n e)
      ]

-- ---- families

-- tables with the same entries
pub family_cong : (y : Layout) (d : List ℕ) (S T : ℕ → Option Allocation) → ((j : ℕ) → T j ≡ S j) → Family y d S → Family y d T
family_cong y d S T h f = record {
  reads = λ i a e. f.reads i a (sym (h i) ∙ e);
  plains = λ i a e. f.plains i a (sym (h i) ∙ e);
  apart = λ i j a b n p q. f.apart i j a b n (sym (h i) ∙ p) (sym (h j) ∙ q);
}

-- a member put in the place of another, or where there is none: it reads, and shares no cluster with the others
pub family_put : (y : Layout) (d : List ℕ) (S : ℕ → Option Allocation) (i : ℕ) (a : Allocation)
    → ((j : ℕ) (b : Allocation) → j ≢ i → S j ≡ some b → number_of (stream_of y d b) ≡ 0)
    → ((j : ℕ) (b : Allocation) → j ≢ i → S j ≡ some b → every (plain y) (clusters_in y d b) ≡ true)
    → ((j l : ℕ) (b c : Allocation) → j ≢ i → l ≢ i → j ≢ l → S j ≡ some b → S l ≡ some c → (k : ℕ) → Mem k (clusters_in y d b) → Mem k (clusters_in y d c) → ⊥)
    → number_of (stream_of y d a) ≡ 0 → every (plain y) (clusters_in y d a) ≡ true
    → ((j : ℕ) (b : Allocation) → j ≢ i → S j ≡ some b → (k : ℕ) → Mem k (clusters_in y d a) → Mem k (clusters_in y d b) → ⊥)
    → Family y d (upd S i (some a))
family_put y d S i a reads plains apart own own-plain own-apart = record {
  reads = λ j b e. ⊎_elim (λ q. subst (λ (x : Allocation). number_of (stream_of y d x) ≡ 0) q.1 own) (λ q. reads j b q.0 q.1) (new-member S i a j b e);
  plains = λ j b e.
      ⊎_elim (λ q. subst (λ (x : Allocation). every (plain y) (clusters_in y d x) ≡ true) q.1 own-plain) (λ q. plains j b q.0 q.1) (new-member S i a j b e);
  apart = λ j l b c n p q k. two j l b c n k (new-member S i a j b p) (new-member S i a l c q);
}
  where
    two : (j l : ℕ) (b c : Allocation) → j ≢ l → (k : ℕ) → ((j ≡ i) × (a ≡ b)) ⊎ ((j ≢ i) × (S j ≡ some b)) → ((l ≡ i) × (a ≡ c)) ⊎ ((l ≢ i) × (S l ≡ some c))
        → Mem k (clusters_in y d b) → Mem k (clusters_in y d c) → ⊥
    two j l b c n k (inl p) (inl q) u v = n (p.0 ∙ sym q.0)
    two j l b c n k (inl p) (inr q) u v = own-apart l c q.0 q.1 k (subst (λ (x : Allocation). Mem k (clusters_in y d x)) (sym p.1) u) v
    two j l b c n k (inr p) (inl q) u v = own-apart j b p.0 p.1 k (subst (λ (x : Allocation). Mem k (clusters_in y d x)) (sym q.1) v) u
    two j l b c n k (inr p) (inr q) u v = apart j l b c p.0 q.0 n p.1 q.1 k u v

-- no cluster stands in the empty list
pub out_of_empty : {k : ℕ} (l : List ℕ) → l ≡ [] → Mem k l → ⊥
out_of_empty (x ∷ xs) e m = clash (cc)
out_of_empty {k = k} [] e m = elim m [ ]

-- an empty record has no clusters and no bytes
module _ (y : Layout) (d : List ℕ) (a : Allocation) (z : a.count ≡ 0) where
  pub empty_clusters : clusters_in y d a ≡ []
  empty_clusters = clusters_of_lem y d a [] (empty-reads y d a z)

  pub empty_bytes : bytes_in y d a ≡ []
  unfolding bytes_in
  empty_bytes = ap (bytes_of y d) empty_clusters ∙ (unfold bytes_of in refl)

-- and may always join
pub family_add : (y : Layout) (d : List ℕ) (S : ℕ → Option Allocation) (i : ℕ) (a : Allocation) → a.count ≡ 0 → Family y d S → Family y d (upd S i (some a))
family_add y d S i a z f =
    let e = empty_clusters y d a z in
    family_put y d S i a (λ j b n. f.reads j b) (λ j b n. f.plains j b) (λ j l b c _ _ n. f.apart j l b c n)
    (number_of_lem y d a [] (empty-reads y d a z)) (ap (every (plain y)) e ∙ (unfold every in refl))
    (λ j b n s k m. absurd (out_of_empty (clusters_in y d a) e m))

-- what it leaves outside
pub outside_add : (y : Layout) (d : List ℕ) (S : ℕ → Option Allocation) (i : ℕ) (a : Allocation) → a.count ≡ 0 → (k : ℕ) → Outside y d S k
    → Outside y d (upd S i (some a)) k
outside_add y d S i a z k l = record {
  heap = l.heap;
  mark = l.mark;
  off = λ j b e.
      ⊎_elim (λ q p. out_of_empty (clusters_in y d b) (empty_clusters y d b (ap (λ (x : Allocation). x.count) (sym q.1) ∙ z)) p) (λ q. l.off j b q.1)
      (new-member S i a j b e);
}

-- ---- a member changed

module _ (y : Layout) (d d' : List ℕ) (S : ℕ → Option Allocation) (i : ℕ) (f : Family y d S) (long : length d' ≡ length d)
    (streams : (j : ℕ) (b : Allocation) → j ≢ i → S j ≡ some b → stream_of y d' b ≡ stream_of y d b)
    (bytes : (j : ℕ) (b : Allocation) → j ≢ i → S j ≡ some b → bytes_of y d' (clusters_in y d b) ≡ bytes_of y d (clusters_in y d b))
    (marks : (k : ℕ) → Outside y d S k → marked y d' k ≡ marked y d k) where
  kept : (j : ℕ) (b : Allocation) → j ≢ i → S j ≡ some b → clusters_in y d' b ≡ clusters_in y d b
  kept j b n s = same_clusters y d d' b (streams j b n s)

  pub moved : (a : Allocation) → number_of (stream_of y d' a) ≡ 0 → every (plain y) (clusters_in y d' a) ≡ true
      → ((j : ℕ) (b : Allocation) → j ≢ i → S j ≡ some b → (k : ℕ) → Mem k (clusters_in y d' a) → Mem k (clusters_in y d b) → ⊥)
      → ((k : ℕ) → Outside y d S k → Mem k (clusters_in y d' a) → ⊥)
      → Moved y d d' S i (some a)
  moved a own own-plain own-apart own-off = record {
    long = long;
    family = family_put y d' S i a
        (λ j b n s. ap number_of (streams j b n s) ∙ f.reads j b s)
        (λ j b n s. ap (every (plain y)) (kept j b n s) ∙ f.plains j b s)
        (λ j l b c n o u p q k s t. f.apart j l b c u p q k (subst (Mem k) (kept j b n p) s) (subst (Mem k) (kept l c o q) t))
        own own-plain
        (λ j b n s k p q. own-apart j b n s k p (subst (Mem k) (kept j b n s) q));
    streams = streams;
    bytes = λ j b n s. unfold bytes_in in (ap (bytes_of y d') (kept j b n s) ∙ bytes j b n s);
    outside = λ k l. record {
      heap = l.heap;
      mark = marks k l ∙ l.mark;
      off = λ j b e.
          ⊎_elim (λ q p. own-off k l (subst (λ (x : Allocation). Mem k (clusters_in y d' x)) (sym q.1) p))
          (λ q p. l.off j b q.1 (subst (Mem k) (kept j b q.0 q.1) p)) (new-member S i a j b e);
    };
  }

-- nothing changed
pub moved_same : (y : Layout) (d : List ℕ) (S : ℕ → Option Allocation) (i : ℕ) (a : Allocation) → Family y d S → S i ≡ some a → Moved y d d S i (some a)
moved_same y d S i a f s = record {
  long = refl;
  family = family_cong y d S (upd S i (some a)) same f;
  streams = λ _ _ _ _. refl;
  bytes = λ _ _ _ _. refl;
  outside = λ k. outside_less y d S (upd S i (some a)) k (λ j b e. sym (same j) ∙ e);
}
  where
    same : (j : ℕ) → upd S i (some a) j ≡ S j
    same j =
        elim (ℕ_discrete j i) [
          | yes q ↦ ap (upd S i (some a)) q ∙ upd_same S i (some a) ∙ sym (ap S q ∙ s)
          | no n ↦ upd_other S i (some a) j n
        ]

-- moved, and then left out
pub moved_drop : (y : Layout) (d d' : List ℕ) (S : ℕ → Option Allocation) (i : ℕ) (o : Option Allocation) → Moved y d d' S i o → Moved y d d' S i none
moved_drop y d d' S i o v = record {
  long = v.long;
  family =
      let f = v.family in
      record {
        reads = λ j b e. f.reads j b (back j b e);
        plains = λ j b e. f.plains j b (back j b e);
        apart = λ j l b c n p q. f.apart j l b c n (back j b p) (back l c q);
      };
  streams = v.streams;
  bytes = v.bytes;
  outside = λ k l. outside_less y d' (upd S i o) (upd S i none) k back (v.outside k l);
}
  where
    back : (j : ℕ) (b : Allocation) → upd S i none j ≡ some b → upd S i o j ≡ some b
    back j b e = let r = none-member S i j b e in kept_member S i o j b r.0 r.1

-- the same member changed twice
pub moved_again : (y : Layout) (d e d' : List ℕ) (S : ℕ → Option Allocation) (i : ℕ) (o o' : Option Allocation)
    → Moved y d e S i o → Moved y e d' (upd S i o) i o' → Moved y d d' S i o'
moved_again y d e d' S i o o' v u = record {
  long = u.long ∙ v.long;
  family = family_cong y d' (upd (upd S i o) i o') (upd S i o') same u.family;
  streams = λ j b n s. u.streams j b n (kept_member S i o j b n s) ∙ v.streams j b n s;
  bytes = λ j b n s. u.bytes j b n (kept_member S i o j b n s) ∙ v.bytes j b n s;
  outside = λ k l.
      outside_less y d' (upd (upd S i o) i o') (upd S i o') k (λ j b q. sym (same j) ∙ q) (u.outside k (v.outside k l));
}
  where
    same : (j : ℕ) → upd S i o' j ≡ upd (upd S i o) i o' j
    same j =
        elim (ℕ_discrete j i) [
          | yes q ↦ ap (upd S i o') q ∙ upd_same S i o' ∙ sym (ap (upd (upd S i o) i o') q ∙ upd_same (upd S i o) i o')
          | no n ↦ upd_other S i o' j n ∙ sym (upd_other (upd S i o) i o' j n ∙ upd_other S i o j n)
        ]

-- ---- bytes stored in a member

-- d' is d with bs stored from byte `at` of member i on
pub record Stored (y : Layout) (d d' : List ℕ) (S : ℕ → Option Allocation) (i : ℕ) (a : Allocation) (at : ℕ) (bs : List ℕ) : Type 0 where
  pub moved : Moved y d d' S i (some a)
  pub stream : stream_of y d' a ≡ stream_of y d a
  pub bytes : bytes_in y d' a ≡ splice (bytes_in y d a) at bs
  pub marks : marked_count y d' ≡ marked_count y d

module _ (y : Layout) (d : List ℕ) (w : Fits y d) (S : ℕ → Option Allocation) (f : Family y d S) (i : ℕ) (a : Allocation) (s : S i ≡ some a)
    (at : ℕ) (bs : List ℕ) (room : at + length bs ≤ length (clusters_in y d a) * y.size) where
  abbrev ks : List ℕ
  ks = clusters_in y d a

  abbrev d₁ : List ℕ
  d₁ = store_at y d ks at bs

  heap : every (in_heap y.count) ks ≡ true
  heap = clusters_heap y d a (f.reads i a s)

  fat_same : (k : ℕ) → in_heap y.count k ≡ true → fat_entry y d₁ k ≡ fat_entry y d k
  fat_same k h = fat_store y d w ks heap at bs k (in_heap_lem y.count k h).1

  mark_same : (k : ℕ) → in_heap y.count k ≡ true → marked y d₁ k ≡ marked y d k
  mark_same k h = mark_store y d w ks heap at bs (f.plains i a s) k h

  -- every record that reads, reads as before
  stream_same : (b : Allocation) → number_of (stream_of y d b) ≡ 0 → stream_of y d₁ b ≡ stream_of y d b
  stream_same b e = again ∙ sym (reads_as y d b e)
    where
      inside : (k : ℕ) → Mem k (clusters_in y d b) → in_heap y.count k ≡ true
      inside k m = every_mem (in_heap y.count) (clusters_in y d b) (clusters_heap y d b e) k m

      again : stream_of y d₁ b ≡ listed (clusters_in y d b)
      again =
          unfold stream_of in
          (stream_frame y.count (fat_entry y d) (fat_entry y d₁) (marked y d) (marked y d₁) b (clusters_in y d b) (small y d w)
          (λ k m. fat_same k (inside k m)) (λ k m. mark_same k (inside k m)) (unfold stream_of in (reads_as y d b e)))

  pub store_member : Stored y d (store_at y d (clusters_in y d a) at bs) S i a at bs
  store_member = record {
    moved = moved y d d₁ S i f (length_store y d w ks heap at bs)
        (λ j b n t. stream_same b (f.reads j b t))
        (λ j b n t. bytes_store_apart y d w ks heap at bs (clusters_in y d b) (clusters_heap y d b (f.reads j b t)) (λ k p q. f.apart j i b a n t s k p q))
        (λ k l. mark_same k l.heap)
        a
        (ap number_of (stream_same a own) ∙ own)
        (ap (every (plain y)) clusters ∙ f.plains i a s)
        (λ j b n t k p q. f.apart j i b a n t s k q (subst (Mem k) clusters p))
        (λ k l p. l.off i a s (subst (Mem k) clusters p));
    stream = stream_same a own;
    bytes =
        unfold bytes_in in
        (ap (bytes_of y d₁) clusters ∙ bytes_store y d w ks (clusters_distinct y d a own w) heap at bs room);
    marks = unfold marked_count in (count_cong (marked y d) (marked y d₁) 2 y.count (λ k l b. mark_same k (heap_in y.count k l (omega arith))));
  }
    where
      own : number_of (stream_of y d a) ≡ 0
      own = f.reads i a s

      clusters : clusters_in y d₁ a ≡ ks
      clusters = same_clusters y d d₁ a (stream_same a own)
