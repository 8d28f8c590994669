-- A member of a family made longer or shorter. Assumes nothing.
use mathlib.Core.Path.{◌≡◌, refl, sym, ◌∙◌, ap, subst}
use mathlib.Core.Logic.{◌≢◌, ⊎_elim}
use mathlib.Core.Bool.{Bool, true, false, not, cond, false≢true}
use mathlib.Core.List.{[], List, ◌∷◌, ◌++◌, append-nil}
use mathlib.Core.Option.{Option, some}
use Prim.Native.Nat.{ℕ, ◌+◌, ◌-◌, ◌*◌, ◌≤◌, ◌<◌}
use native.Mathlib.Decide.{dec_lt}
use native.Mathlib.Nat.{mul-le-mul_right}
use native.Mathlib.Omega.{arith}
use lib.ListN.{length, take, drop, length-append, length-drop, take-append-drop}
use lib.Seq.{take_all}
use borrow.Author.Tests.{lt-leb, le-leb}
use Rattle.tables.specs.Lists.{Mem, every, last_or}
use Rattle.tables.specs.Count.{count}
use Rattle.tables.proofs.Cases.{not_so}
use Rattle.tables.proofs.ListLaws.{mem_append, mem_take, mem_right, every_mem, mem_every}
use Rattle.boot.specs.declared.layout.Layout.{Layout}
use Rattle.boot.specs.Limits.{in_map}
use Rattle.boot.specs.Layout.{in_heap, is_bitmap_cluster}
use Rattle.boot.proofs.CauseLaws.{cause_skip, cause_last, heap_kept}
use Rattle.metadata.specs.Fat.{fat_entry}
use Rattle.metadata.specs.Marks.{marked}
use Rattle.metadata.specs.Usable.{is_usable}
use Rattle.metadata.specs.Cluster.{cluster_byte}
use Rattle.metadata.proofs.Frame.{Fits, small}
use Rattle.metadata.proofs.View.{plain}
use Rattle.metadata.proofs.Counting.{marked_count, usable_facts}
use Rattle.stream.specs.declared.allocation.Allocation.{Allocation}
use Rattle.stream.specs.Chain.{listed}
use Rattle.stream.specs.Stream.{number_of, stream_of, system_cause, clusters_in}
use Rattle.stream.specs.Bytes.{bytes_of, bytes_in}
use Rattle.stream.proofs.StreamLaws.{Read}
use Rattle.stream.proofs.BytesLaws.{cluster_cong, bytes_cong, bytes_append, length_of, take_of}
use Rattle.write_alloc.specs.Outcome.{Outcome}
use Rattle.write_extend.specs.Extend.{extend_in}
use Rattle.write_shrink.specs.Shrink.{kept_record, shrink_cause, cut, shrink_in}
use Rattle.write_alloc.proofs.GrowLaws.{Grown, grown_other}
use Rattle.write_extend.proofs.EnoughLaws.{Extended, extend_done}
use Rattle.write_shrink.proofs.Cutting.{shrink_by}
use Rattle.write_shrink.proofs.ShrinkLaws.{Shrunk, cut-reads, cut_shrunk}
use Rattle.directory.proofs.DirectoryLaws.{clusters_heap, clusters_length}
use Rattle.write.proofs.Reading.{clusters_of_lem, number_of_lem, reads_as, empty-reads, reads, clusters_marked, count_is}
use Rattle.write.proofs.Family.{Family, Outside, Moved, plain_at, moved}

-- bitmap clusters are in the system map
abbrev pub Mapped : Layout → List ℕ → Type 0
Mapped y m = (k : ℕ) → is_bitmap_cluster y k ≡ true → in_map m k ≡ true

-- bytes of clusters that are no bitmap's, where all such bytes are kept
bytes_plain : (y : Layout) (d e : List ℕ) → length e ≡ length d
    → ((k j : ℕ) → plain y k ≡ true → j < y.size → cluster_byte y e k j ≡ cluster_byte y d k j)
    → (ks : List ℕ) → every (plain y) ks ≡ true → bytes_of y e ks ≡ bytes_of y d ks
bytes_plain y d e long same ks p =
    bytes_cong y d e ks (λ k m. cluster_cong y d e k long (λ r b. same k r (every_mem (plain y) ks p k m) b))

-- a cluster of the heap outside the system map is no bitmap's
plain_off_map : (y : Layout) (m : List ℕ) → Mapped y m → (k : ℕ) → in_heap y.count k ≡ true → in_map m k ≡ false → plain y k ≡ true
plain_off_map y m mapped k h o = plain_at y k h (not_so (is_bitmap_cluster y k) (λ e. false≢true (sym o ∙ mapped k e)))

-- ---- longer

-- o is member i with n clusters more
pub record Longer (y : Layout) (d m : List ℕ) (S : ℕ → Option Allocation) (i : ℕ) (a : Allocation) (n : ℕ) (o : Outcome) : Type 0 where
  pub moved : Moved y d o.volume S i (some o.answer.allocation)
  -- the clusters that it got
  pub new : List ℕ
  pub clusters : clusters_in y o.volume o.answer.allocation ≡ clusters_in y d a ++ new
  pub bytes : bytes_in y o.volume o.answer.allocation ≡ bytes_in y d a ++ bytes_of y d new
  pub off_map : (k : ℕ) → Mem k new → in_map m k ≡ false
  -- counts
  pub marks : marked_count y o.volume ≡ marked_count y d + n
  pub counts : o.answer.allocation.count ≡ a.count + n

module _ (y : Layout) (d m : List ℕ) (w : Fits y d) (mapped : Mapped y m) (S : ℕ → Option Allocation) (f : Family y d S) (i : ℕ) (a : Allocation)
    (s : S i ≡ some a) (n hint : ℕ) (hint_in : in_heap y.count hint ≡ true) (enough : n ≤ count (is_usable y d m) 2 y.count) where
  own : number_of (stream_of y d a) ≡ 0
  own = f.reads i a s

  abbrev old : List ℕ
  old = clusters_in y d a

  abbrev o : Outcome
  o = extend_in y d m a n hint

  took : Extended y d m o old n
  took = extend_done y d m w a old (reads_as y d a own) n hint hint_in enough

  abbrev got : List ℕ
  got = took.new

  grown : Grown y d m o.volume o.answer.allocation old got
  grown = took.grows

  new_heap : (k : ℕ) → Mem k got → in_heap y.count k ≡ true
  new_heap k q = every_mem (in_heap y.count) got grown.fresh.heap k q

  new_facts : (k : ℕ) → Mem k got → (marked y d k ≡ false) × (in_map m k ≡ false)
  new_facts k q = let r = usable_facts y d m k (every_mem (is_usable y d m) got grown.fresh.usable k q) in (r.0, r.1)

  all_plain : every (plain y) (old ++ got) ≡ true
  all_plain =
      mem_every (plain y) (old ++ got)
      (λ k q. ⊎_elim (λ p. every_mem (plain y) old (f.plains i a s) k p)
      (λ p. plain_off_map y m mapped k (new_heap k p) (new_facts k p).1) (mem_append old q))

  clusters_are : clusters_in y o.volume o.answer.allocation ≡ old ++ got
  clusters_are = clusters_of_lem y o.volume o.answer.allocation (old ++ got) grown.reads

  longer_moved : Moved y d o.volume S i (some o.answer.allocation)
  longer_moved =
      moved y d o.volume S i f grown.long
      (λ j b n t. grown_other y d m o.volume o.answer.allocation old got w grown b (clusters_in y d b) (reads_as y d b (f.reads j b t))
      (λ k p q. f.apart j i b a n t s k p q) ∙ sym (reads_as y d b (f.reads j b t)))
      (λ j b n t. bytes_plain y d o.volume grown.long grown.bytes_kept (clusters_in y d b) (f.plains j b t))
      (λ k l. grown.marks_kept k l.heap (not_new k l))
      o.answer.allocation
      (number_of_lem y o.volume o.answer.allocation (old ++ got) grown.reads)
      (ap (every (plain y)) clusters_are ∙ all_plain)
      (λ j b n t k p q. ⊎_elim (λ u. f.apart i j a b (λ z. n (sym z)) s t k u q)
      (λ u. false≢true (sym (new_facts k u).0 ∙ every_mem (marked y d) (clusters_in y d b) (clusters_marked y d b (f.reads j b t)) k q))
      (mem_append old (subst (Mem k) clusters_are p)))
      (λ k l p. ⊎_elim (l.off i a s) (not_new k l) (mem_append old (subst (Mem k) clusters_are p)))
    where
      -- a marked cluster was not taken
      not_new : (k : ℕ) → Outside y d S k → Mem k got → ⊥
      not_new k l q = false≢true (sym (new_facts k q).0 ∙ l.mark)

  count-longer : o.answer.allocation.count ≡ a.count + n
  count-longer =
      omega (
        arith,
        count_is y o.volume o.answer.allocation (old ++ got) grown.reads,
        length-append old got,
        took.many,
        clusters_length y d a own,
      )

  pub extend_member : Longer y d m S i a n (extend_in y d m a n hint)
  extend_member = record {
    moved = longer_moved;
    new = got;
    clusters = clusters_are;
    bytes =
        unfold bytes_in in
        (ap (bytes_of y o.volume) clusters_are
        ∙ bytes_plain y d o.volume grown.long grown.bytes_kept (old ++ got) all_plain
        ∙ bytes_append y d old got);
    off_map = λ k q. (new_facts k q).1;
    marks = grown.counts ∙ ap (λ (x : ℕ). marked_count y d + x) took.many;
    counts = count-longer;
  }

-- ---- shorter

-- d' is d with the first `keep` clusters of member i kept, and a' is its record
pub record Shorter (y : Layout) (d : List ℕ) (S : ℕ → Option Allocation) (i : ℕ) (a : Allocation) (keep : ℕ) (d' : List ℕ) (a' : Allocation) : Type 0 where
  pub moved : Moved y d d' S i (some a')
  pub clusters : clusters_in y d' a' ≡ take keep (clusters_in y d a)
  pub bytes : bytes_in y d' a' ≡ take (keep * y.size) (bytes_in y d a)
  pub marks : marked_count y d' + (length (clusters_in y d a) - keep) ≡ marked_count y d
  pub counts : a'.count ≡ length (take keep (clusters_in y d a))

module _ (y : Layout) (d m : List ℕ) (w : Fits y d) (S : ℕ → Option Allocation) (f : Family y d S) (i : ℕ) (a : Allocation)
    (s : S i ≡ some a) (keep hint : ℕ) (hint_in : in_heap y.count hint ≡ true) (off : (k : ℕ) → Mem k (clusters_in y d a) → in_map m k ≡ false) where
  own' : number_of (stream_of y d a) ≡ 0
  own' = f.reads i a s

  abbrev ks : List ℕ
  ks = clusters_in y d a

  abbrev a' : Allocation
  a' = kept_record a (take keep ks)

  abbrev d₁ : List ℕ
  d₁ = (shrink_in y d m a keep hint).volume

  -- what either way comes to
  shorter : (e : List ℕ) → length e ≡ length d
      → ((b : Allocation) (js : List ℕ) → stream_of y d b ≡ listed js → ((k : ℕ) → Mem k js → Mem k ks → ⊥) → stream_of y e b ≡ listed js)
      → ((k j : ℕ) → plain y k ≡ true → j < y.size → cluster_byte y e k j ≡ cluster_byte y d k j)
      → ((k : ℕ) → Outside y d S k → marked y e k ≡ marked y d k)
      → stream_of y e a' ≡ listed (take keep ks) → marked_count y e + (length ks - keep) ≡ marked_count y d
      → Shorter y d S i a keep e a'
  shorter e long others same outside reads counts = record {
    moved = moved y d e S i f long
        (λ j b n t. others b (clusters_in y d b) (reads_as y d b (f.reads j b t)) (λ k p q. f.apart j i b a n t s k p q)
        ∙ sym (reads_as y d b (f.reads j b t)))
        (λ j b n t. bytes_plain y d e long same (clusters_in y d b) (f.plains j b t))
        outside
        a' (number_of_lem y e a' (take keep ks) reads) (ap (every (plain y)) clusters ∙ front_plain)
        (λ j b n t k p q. f.apart i j a b (λ z. n (sym z)) s t k (mem_take keep ks (subst (Mem k) clusters p)) q)
        (λ k l p. l.off i a s (mem_take keep ks (subst (Mem k) clusters p)));
    clusters = clusters;
    bytes = unfold bytes_in in (ap (bytes_of y e) clusters ∙ bytes_plain y d e long same (take keep ks) front_plain ∙ sym front_bytes);
    marks = counts;
    counts = count_is y e a' (take keep ks) reads;
  }
    where
      clusters : clusters_in y e a' ≡ take keep ks
      clusters = clusters_of_lem y e a' (take keep ks) reads

      front_plain : every (plain y) (take keep ks) ≡ true
      front_plain = mem_every (plain y) (take keep ks) (λ k q. every_mem (plain y) ks (f.plains i a s) k (mem_take keep ks q))

      front_bytes : take (keep * y.size) (bytes_of y d ks) ≡ bytes_of y d (take keep ks)
      front_bytes =
          elim (dec_lt keep (length ks)) [
            | yes h ↦ take_of y d w keep ks (omega arith) (clusters_heap y d a own')
            | no h ↦ take_all (keep * y.size) (bytes_of y d ks)
                (omega (arith, length_of y d w ks (clusters_heap y d a own'), mul-le-mul_right {m = length ks} {n = keep} y.size (omega arith)))
                ∙ ap (bytes_of y d) (sym (take_all keep ks (omega arith)))
          ]

  -- nothing is freed: the record may become a run, and reads the same
  idle_volume : a.count ≤ keep → d₁ ≡ d
  idle_volume l =
      ap (λ (o : Outcome). o.volume)
      (shrink_by y d m a keep hint true 0 (le-leb a.count keep l) (cause_skip _ _ (heap_kept y.count hint hint_in) ∙ cause_last 0))

  same_reads : (l : List ℕ) → ks ≡ l → stream_of y d (kept_record a l) ≡ listed l
  same_reads [] q = empty-reads y d (kept_record a []) (unfold kept_record in refl)
  same_reads (c ∷ cs) q = again
    where
      r : Read y.count (fat_entry y d) (marked y d) a ks
      r = reads y d a own'

      some : a.count ≢ 0
      some z = let n = ap length q in omega (arith, clusters_length y d a own')

      last : last_or c cs ≡ a.last
      last = unfold last_or in (ap (last_or 0) (sym q) ∙ r.last some 0)

      again : stream_of y d (kept_record a (c ∷ cs)) ≡ listed (c ∷ cs)
      again =
          unfold stream_of in
          (cut-reads y.count (small y d w) (fat_entry y d) (fat_entry y d) (marked y d) (marked y d) a c cs []
          (subst (Read y.count (fat_entry y d) (marked y d) a) (q ∙ ap (λ (l : List ℕ). c ∷ l) (sym (append-nil cs))) r)
          (λ j _. refl) (λ _ j _ _. refl) (λ t. ap (fat_entry y d) last ∙ r.ends some t))

  inside : (k : ℕ) → Mem k (drop keep ks) → Mem k ks
  inside k q = subst (Mem k) (take-append-drop keep ks) (mem_right (take keep ks) q)

  -- the others are freed
  cut-volume : keep < a.count → d₁ ≡ (cut y d a keep hint).volume
  cut-volume l =
      ap (λ (o : Outcome). o.volume)
      (shrink_by y d m a keep hint false 0 (lt-leb a.count keep l)
      (cause_skip _ _ (heap_kept y.count hint hint_in) ∙ cause_last _ ∙ clear))
    where
      system : system_cause m (drop keep ks) ≡ 0
      system =
          unfold system_cause in
          (ap (λ (b : Bool). cond b 0 9) (mem_every (λ k. not (in_map m k)) (drop keep ks) (λ k q. ap not (off k (inside k q)))))

      clear : shrink_cause y d m a keep ≡ 0
      clear = unfold shrink_cause in (cause_skip _ _ own' ∙ cause_last _ ∙ (unfold clusters_in in system))

  pub cut-member : Shorter y d S i a keep (shrink_in y d m a keep hint).volume (kept_record a (take keep (clusters_in y d a)))
  unfolding clusters_in
  cut-member =
      elim (dec_lt keep a.count) [
        | yes l ↦ subst (λ (e : List ℕ). Shorter y d S i a keep e a') (sym (cut-volume l)) freed_others
        | no l ↦ subst (λ (e : List ℕ). Shorter y d S i a keep e a') (sym (idle_volume (omega arith))) (all_kept (omega arith))
      ]
    where
      d₂ : List ℕ
      d₂ = (cut y d a keep hint).volume

      shrunk : Shrunk y d a keep d₂
      shrunk = cut_shrunk y d w a keep own' hint

      freed_others : Shorter y d S i a keep d₂ a'
      freed_others =
          shorter d₂ shrunk.long shrunk.others shrunk.bytes
          (λ k l. shrunk.marks k l.heap (λ q. l.off i a s (inside k q)))
          shrunk.reads
          (ap (λ (x : ℕ). marked_count y d₂ + x) (sym (length-drop keep ks)) ∙ shrunk.counts)

      all_kept : a.count ≤ keep → Shorter y d S i a keep d a'
      all_kept l =
          let n = clusters_length y d a own' in
          let q : take keep ks ≡ ks = take_all keep ks (omega arith) in
          shorter d refl (λ b js e _. e) (λ _ _ _ _. refl) (λ _ _. refl) (same_reads (take keep ks) (sym q)) (omega arith)
