-- That extend takes clusters as GrowLaws says, after those that the record has. Assumes nothing.
use Rattle.std.proofs.Common.{◌≡◌, ℕ, zero, suc, ◌+◌, ◌-◌, ◌<◌, ◌≤◌, Bool, true, false, ◌&&◌, eqb, leb, List, [], ◌∷◌, ◌++◌, length, sym, refl, ap, ◌∙◌, subst, ap₂, ⊎_elim, sub-one, arith, length-append, eqb-true}
use mathlib.Core.Bool.{false≢true}
use native.Mathlib.Decide.{ℕ_discrete}
use borrow.Author.Tests.{eqb-false}
use Rattle.tables.specs.Lists.{Mem, every, last_or, consec}
use Rattle.tables.specs.Count.{count}
use Rattle.tables.proofs.ListLaws.{mem_append, every_mem, mem_every, consec_in, consec-append, last_in}
use Rattle.tables.proofs.CountLaws.{count_cong}
use Rattle.boot.specs.declared.layout.Layout.{Layout}
use Rattle.boot.specs.Layout.{in_heap}
use Rattle.tables.proofs.Cases.{and_left}
use Rattle.boot.proofs.Apart.{in_heap_lem}
use Rattle.metadata.specs.Fat.{END, fat_entry, set_fat}
use Rattle.metadata.specs.Marks.{marked, mark_run}
use Rattle.metadata.specs.Usable.{is_usable}
use Rattle.metadata.specs.Cluster.{cluster_byte}
use Rattle.metadata.proofs.Frame.{Fits, fits_kept, fat_fat_same, fat_fat_other, cluster_fat, small}
use Rattle.metadata.proofs.View.{plain}
use Rattle.metadata.proofs.Counting.{marked_count}
use Rattle.stream.specs.declared.allocation.Allocation.{Allocation}
use Rattle.stream.specs.Chain.{listed, read_chain}
use Rattle.stream.specs.Stream.{number_of, read_stream, stream_of, clusters_of}
use Rattle.stream.proofs.StreamLaws.{Read}
use Rattle.stream.proofs.ListingLaws.{stream_read}
use Rattle.stream.proofs.Distinct.{Chain, chain_links, chain_listed, chain-append, run_listed, record_listed, read_length, read-run, read-chain}
use Rattle.search.specs.Search.{all_from}
use Rattle.choice.specs.Choice.{chosen}
use Rattle.write_alloc.specs.Take.{link_run, take_each}
use Rattle.write_alloc.specs.Outcome.{Outcome, unchanged}
use Rattle.boot.specs.Causes.{wrap}
use Rattle.write_alloc.specs.Allocate.{allocate_in}
use Rattle.write_extend.specs.Extend.{more_cause, in_place, link_old, longer_run, longer_chain, longer, extend_in}
use Rattle.write_extend.specs.Internal.{Allowed}
use Rattle.write_alloc.proofs.Links.{last_append}
use Rattle.search.proofs.Runs.{run_hit}
use Rattle.choice.proofs.ChoiceLaws.{choose-after, chosen-run, length-chosen, few_count}
use Rattle.search.proofs.Lowest.{Whole, all_whole}
use Rattle.write_alloc.proofs.TakeLaws.{Before, Inside, fits_link_run, run-link, run-link_other, run-link_byte}
use Rattle.write_alloc.proofs.AllocateLaws.{wrap_low}
use Rattle.write_extend.proofs.ExtendLaws.{more_few, more_none, allowed_of, place_usable, place_facts, link-chain, link-run, LastOf, tail_of, old_kept, length-old, start_in, longer_in, longer_out, given-done, given_refused, extend_hint, extend_none, extend_new, extend_longer, extend_refused}
use Rattle.write_alloc.proofs.GrowLaws.{Fresh, Grows, fresh_inside, fresh_unmarked, run_fresh, run-new, run_other, run_grown, sealed_long, sealed_mark, sealed_mark_other, sealed_fat, sealed_byte, sealed-count, sealed_end, sealed_links, sealed_first, chosen_fresh, allocate_kept}

-- ---- lists

every_append : (p : ℕ → Bool) (xs zs : List ℕ) → every p xs ≡ true → every p zs ≡ true → every p (xs ++ zs) ≡ true
every_append p xs zs h i = mem_every p (xs ++ zs) (λ k m. ⊎_elim (λ q. every_mem p xs h k q) (λ q. every_mem p zs i k q) (mem_append xs m))

consec_head : (k n : ℕ) → 1 ≤ n → consec k n ≡ k ∷ consec (k + 1) (n - 1)
unfolding consec
consec_head k zero h = absurd (omega arith)
consec_head k (suc n) h = rw sub-one refl

-- two that follow each other in a row
consec_next : (s n : ℕ) (xs : List ℕ) (k j : ℕ) (zs : List ℕ) → consec s n ≡ xs ++ k ∷ j ∷ zs → (s ≤ k) × (k + 1 < s + n) × (j ≡ k + 1)
unfolding consec
consec_next s zero [] k j zs e = let z = ap length e in absurd (omega arith)
consec_next s zero (x ∷ xs) k j zs e = let z = ap length e in absurd (omega arith)
consec_next s (suc zero) [] k j zs e = let z = ap length e in absurd (omega arith)
consec_next s (suc (suc n)) [] k j zs e =
    let p : s ≡ k = cc in
    let q : s + 1 ≡ j = cc in
    (omega arith, omega arith, omega arith)
consec_next s (suc n) (x ∷ xs) k j zs e =
    let q : consec (s + 1) n ≡ xs ++ k ∷ j ∷ zs = cc in
    let r = consec_next (s + 1) n xs k j zs q in
    (omega arith, omega arith, r.2)

-- ---- a record that reads and has clusters

module _ (y : Layout) (d : List ℕ) (w : Fits y d) (a : Allocation) (some : 1 ≤ a.count) (reads : number_of (stream_of y d a) ≡ 0) where
  abbrev pub old : List ℕ
  old = clusters_of (stream_of y d a)

  read : Read y.count (fat_entry y d) (marked y d) a old
  read = stream_read y d a reads

  tail : LastOf y d a
  tail = tail_of y d a reads some

  nonzero : a.count ≡ 0 → ⊥
  nonzero z = omega arith

  -- its clusters are not among those that may be taken
  pub old_apart : (m new : List ℕ) → Fresh y d m new → (k : ℕ) → Mem k old → Mem k new → ⊥
  old_apart m new f k i j = false≢true (sym (fresh_unmarked y d m new f k j) ∙ every_mem (marked y d) old read.marks k i)

  last_apart : (m new : List ℕ) → Fresh y d m new → Mem a.last new → ⊥
  last_apart m new f j = false≢true (sym (fresh_unmarked y d m new f a.last j) ∙ tail.mark)

  last_lt : a.last < y.count + 2
  last_lt = (in_heap_lem y.count a.last tail.heap).1

  -- ---- a run that stays one

  pub longer-run_grown : (m : List ℕ) (n : ℕ) → a.no_fat_chain ≡ true → a.last + 1 + n ≤ y.count + 2
      → Whole (is_usable y d m) (a.last + 1) n → Grows y d m (longer_run y d a n) old (consec (a.last + 1) n)
  unfolding longer_run stream_of
  longer-run_grown m n t h u =
      run_grown y d m w (a.last + 1) n low h u a' old
      (run_listed y.count (fat_entry y d') (marked y d') a' refl (omega (arith, tail.run_end t))
      (ap (every (in_heap y.count)) row ∙ every_append (in_heap y.count) old (consec (a.last + 1) n) read.heap fresh.heap)
      (ap (every (marked y d')) row ∙ every_append (marked y d') old (consec (a.last + 1) n) marks_old
      (mem_every (marked y d') (consec (a.last + 1) n) (run-new y d m w (a.last + 1) n low h u)))
      ∙ ap listed row)
    where
      d' : List ℕ
      d' = mark_run y d (a.last + 1) n

      a' : Allocation
      a' = record { first = a.first; last = a.last + n; count = a.count + n; no_fat_chain = true }

      low : 2 ≤ a.last + 1
      low = omega (arith, (in_heap_lem y.count a.last tail.heap).0)

      fresh : Fresh y d m (consec (a.last + 1) n)
      fresh = run_fresh y d m w (a.last + 1) n low h u

      row : consec a.first (a.count + n) ≡ old ++ consec (a.last + 1) n
      row =
          consec-append a.first a.count n
          ∙ ap₂ (λ (xs : List ℕ) (x : ℕ). xs ++ consec x n) (sym (read-run y.count (fat_entry y d) (marked y d) a old read t)) (tail.run_end t)

      marks_old : every (marked y d') old ≡ true
      marks_old = mem_every (marked y d') old
          (λ k i. run_other y d m w (a.last + 1) n low h u k (every_mem (in_heap y.count) old read.heap k i) (old_apart m (consec (a.last + 1) n) fresh k i)
          ∙ every_mem (marked y d) old read.marks k i)

  -- ---- its clusters linked

  abbrev d₀ : List ℕ
  d₀ = link_old y d a

  fits₀ : Fits y d₀
  fits₀ = fits_kept y d d₀ (length-old y [] d a w tail some) w

  old_mark : (j : ℕ) → j < y.count + 2 → marked y d₀ j ≡ marked y d j
  old_mark j b = (old_kept y [] d a w tail some j b).1

  old-count : marked_count y d₀ ≡ marked_count y d
  unfolding marked_count
  old-count = count_cong (marked y d) (marked y d₀) 2 y.count (λ j l b. old_mark j (omega arith))

  module _ (t : a.no_fat_chain ≡ true) where
    abbrev d₁ : List ℕ
    d₁ = link_run y d a.first (a.count - 1)

    fits₁ : Fits y d₁
    fits₁ = fits_link_run y d w a.first (a.count - 1)

    row_is : old ≡ consec a.first a.count
    row_is = read-run y.count (fat_entry y d) (marked y d) a old read t

    first_low : 2 ≤ a.first
    first_low =
        (in_heap_lem y.count a.first
        (every_mem (in_heap y.count) old read.heap a.first (subst (Mem a.first) (sym row_is) (consec_in a.first a.count a.first (omega arith) (omega arith))))).0

    row_high : a.first + (a.count - 1) ≤ y.count + 2
    row_high = omega (arith, tail.run_end t, last_lt)

    run-old_fat : (j : ℕ) → in_heap y.count j ≡ true → (Mem j old → ⊥) → fat_entry y (set_fat y d₁ a.last END) j ≡ fat_entry y d j
    run-old_fat j h o =
        let out : (a.first ≤ j) × (j < a.first + a.count) → ⊥ = λ r. o (subst (Mem j) (sym row_is) (consec_in a.first a.count j r.0 r.1)) in
        fat_fat_other y d₁ fits₁ a.last END j last_lt (in_heap_lem y.count j h).1 (λ e. out (omega (arith, tail.run_end t), omega (arith, tail.run_end t)))
        ∙ run-link_other y d w a.first (a.count - 1) first_low row_high j h (λ r. out (r.0, omega (arith, r.1)))

    run-old_byte : (k j : ℕ) → plain y k ≡ true → j < y.size → cluster_byte y (set_fat y d₁ a.last END) k j ≡ cluster_byte y d k j
    run-old_byte k j h b =
        cluster_fat y d₁ fits₁ a.last END k j last_lt ∙ run-link_byte y d w a.first (a.count - 1) first_low row_high k j h b

    run-old_links : (xs : List ℕ) (k j : ℕ) (zs : List ℕ) → consec a.first a.count ≡ xs ++ k ∷ j ∷ zs → fat_entry y (set_fat y d₁ a.last END) k ≡ j
    run-old_links xs k j zs q =
        let r = consec_next a.first a.count xs k j zs q in
        let e = tail.run_end t in
        fat_fat_other y d₁ fits₁ a.last END k last_lt (omega (arith, last_lt)) (omega arith)
        ∙ run-link y d w a.first (a.count - 1) first_low row_high k r.0 (omega arith) ∙ sym r.2

  old_byte : (k j : ℕ) → plain y k ≡ true → j < y.size → cluster_byte y d₀ k j ≡ cluster_byte y d k j
  old_byte k j h b = by a.no_fat_chain refl
    where
      by : (r : Bool) → a.no_fat_chain ≡ r → cluster_byte y d₀ k j ≡ cluster_byte y d k j
      by false t = ap (λ (e : List ℕ). cluster_byte y e k j) (link-chain y d a t)
      by true t = ap (λ (e : List ℕ). cluster_byte y e k j) (link-run y d a t) ∙ run-old_byte t k j h b

  old_fat : (j : ℕ) → in_heap y.count j ≡ true → (Mem j old → ⊥) → fat_entry y d₀ j ≡ fat_entry y d j
  old_fat j h o = by a.no_fat_chain refl
    where
      by : (r : Bool) → a.no_fat_chain ≡ r → fat_entry y d₀ j ≡ fat_entry y d j
      by false t = ap (λ (e : List ℕ). fat_entry y e j) (link-chain y d a t)
      by true t = ap (λ (e : List ℕ). fat_entry y e j) (link-run y d a t) ∙ run-old_fat t j h o

  -- they are a chain then
  old-chain : (c : ℕ) (cs : List ℕ) → old ≡ c ∷ cs → read_chain y.count (fat_entry y d₀) a.first ≡ listed (c ∷ cs)
  unfolding last_or
  old-chain c cs q = by a.no_fat_chain refl
    where
      r : Read y.count (fat_entry y d) (marked y d) a (c ∷ cs)
      r = subst (Read y.count (fat_entry y d) (marked y d) a) q read

      by : (b : Bool) → a.no_fat_chain ≡ b → read_chain y.count (fat_entry y d₀) a.first ≡ listed (c ∷ cs)
      by false t =
          ap (λ (e : List ℕ). read_chain y.count (fat_entry y e) a.first) (link-chain y d a t)
          ∙ chain_listed y.count (fat_entry y d) (small y d w) a.first c cs (read-chain y.count (fat_entry y d) (marked y d) a c cs r t)
      by true t =
          let f = fat_entry y (set_fat y (link_run y d a.first (a.count - 1)) a.last END) in
          let p : c ∷ cs ≡ consec a.first a.count = sym q ∙ row_is t in
          let z : c ≡ a.first = let g = p ∙ consec_head a.first a.count some in cc in
          let l : last_or c cs ≡ a.last = r.last nonzero c in
          ap (λ (e : List ℕ). read_chain y.count (fat_entry y e) a.first) (link-run y d a t)
          ∙ chain_listed y.count f (small y d w) a.first c cs
          (subst (λ (x : ℕ). Chain y.count f x (c ∷ cs)) z
          (chain_links y.count f c cs (λ xs k j zs e. run-old_links t xs k j zs (sym p ∙ e)) r.heap
          (ap f l ∙ fat_fat_same y (link_run y d a.first (a.count - 1)) (fits₁ t) a.last END last_lt (omega arith))))

  -- ---- and others linked on

  pub longer-chain_grown : (m new : List ℕ) → Fresh y d m new → 1 ≤ length new → Grows y d m (longer_chain y d a new) old new
  unfolding longer_chain last_or
  longer-chain_grown m [] f h = absurd (omega arith)
  longer-chain_grown m (b ∷ bs) f h = record {
    long = sealed_long y d₀ fits₀ a.last b bs before inside f.distinct ∙ length-old y [] d a w tail some;
    reads = unfold stream_of in at old refl;
    fresh = f;
    marks_new = sealed_mark y d₀ fits₀ a.last b bs before inside f.distinct;
    marks_kept = kept;
    fat_kept = λ k i o p. sealed_fat y d₀ fits₀ a.last b bs before inside f.distinct k i (λ e. o (subst (λ (x : ℕ). Mem x old) (sym e) last_old)) p ∙ old_fat k i o;
    bytes_kept = λ k j p q. sealed_byte y d₀ fits₀ a.last b bs before inside f.distinct k j p q ∙ old_byte k j p q;
    counts =
        sealed-count y d₀ fits₀ a.last b bs before inside f.distinct
        (λ k i. old_mark k (in_heap_lem y.count k (inside k i)).1 ∙ fresh_unmarked y d m (b ∷ bs) f k i)
        ∙ ap (λ (x : ℕ). x + length (b ∷ bs)) old-count;
  }
    where
      before : Before y a.last
      before _ = tail.heap

      inside : Inside y (b ∷ bs)
      inside = fresh_inside y d m (b ∷ bs) f

      d' : List ℕ
      d' = set_fat y (take_each y (link_old y d a) a.last (b ∷ bs)) (last_or b bs) END

      a' : Allocation
      a' = record { first = a.first; last = last_or b bs; count = a.count + length (b ∷ bs); no_fat_chain = false }

      kept : (k : ℕ) → in_heap y.count k ≡ true → (Mem k (b ∷ bs) → ⊥) → marked y d' k ≡ marked y d k
      kept k i o = sealed_mark_other y d₀ fits₀ a.last b bs before inside f.distinct k i o ∙ old_mark k (in_heap_lem y.count k i).1

      in_old : (l : List ℕ) → ((z : ℕ) → last_or z l ≡ a.last) → 1 ≤ length l → Mem a.last l
      in_old [] q n = absurd (omega arith)
      in_old (c ∷ cs) q n = subst (λ (x : ℕ). Mem x (c ∷ cs)) (q c) (last_in c cs)

      old-length : length old ≡ a.count
      old-length = read_length y.count (fat_entry y d) (marked y d) a old read

      last_old : Mem a.last old
      last_old = in_old old (read.last nonzero) (omega (arith, old-length))

      old_heap : (k : ℕ) → Mem k old → in_heap y.count k ≡ true
      old_heap k i = every_mem (in_heap y.count) old read.heap k i

      at : (l : List ℕ) → old ≡ l → read_stream y.count (fat_entry y d') (marked y d') a' ≡ listed (l ++ b ∷ bs)
      at [] q = let z = ap length q in absurd (omega (arith, old-length))
      at (c ∷ cs) q =
          record_listed y.count (fat_entry y d') (marked y d') a' c (cs ++ b ∷ bs) refl
          (chain-append y.count (small y d w) (fat_entry y d₀) (fat_entry y d') a.first c cs b bs (old-chain c cs q)
          (λ j i n. sealed_fat y d₀ fits₀ a.last b bs before inside f.distinct j (old_heap j (subst (Mem j) (sym q) i)) (λ e. n (e ∙ sym last_is))
          (old_apart m (b ∷ bs) f j (subst (Mem j) (sym q) i)))
          (ap (fat_entry y d') last_is ∙ sealed_first y d₀ fits₀ a.last b bs before inside f.distinct tail.heap (last_apart m (b ∷ bs) f))
          (sealed_links y d₀ fits₀ a.last b bs before inside f.distinct) f.heap
          (sealed_end y d₀ fits₀ a.last b bs before inside f.distinct))
          (omega (arith, ap length q, old-length, length-append cs (b ∷ bs)))
          (last_append c cs (b ∷ bs))
          (every_append (marked y d') (c ∷ cs) (b ∷ bs)
          (mem_every (marked y d') (c ∷ cs) (λ k i.
          kept k (old_heap k (subst (Mem k) (sym q) i)) (old_apart m (b ∷ bs) f k (subst (Mem k) (sym q) i))
          ∙ every_mem (marked y d) old read.marks k (subst (Mem k) (sym q) i)))
          (mem_every (marked y d') (b ∷ bs) (sealed_mark y d₀ fits₀ a.last b bs before inside f.distinct)))
        where
          last_is : last_or c cs ≡ a.last
          last_is = ap (last_or c) (sym q) ∙ read.last nonzero c

-- ---- extend

-- a run whose next clusters are usable: they are the choice
place_chosen : (y : Layout) (d m : List ℕ) (a : Allocation) (n : ℕ) → 1 ≤ n → 1 ≤ a.last → a.no_fat_chain ≡ true → a.last + 1 + n ≤ y.count + 2
    → all_from (is_usable y d m) (a.last + 1) n ≡ true → chosen (is_usable y d m) y.count n (wrap y.count (a.last + 1)) ≡ consec (a.last + 1) n
place_chosen y d m a n one low t h e =
    let u = is_usable y d m in
    ap (chosen u y.count n) (wrap_low y.count (a.last + 1) (omega arith))
    ∙ chosen-run u y.count n (a.last + 1) (omega arith) (a.last + 1)
    (choose-after u y.count n (a.last + 1) (a.last + 1) (run_hit u (y.count + 2) n (a.last + 1) h e))

pub place_run : (y : Layout) (d m : List ℕ) (a : Allocation) (n : ℕ) → in_place y d m a n ≡ true → a.no_fat_chain ≡ true
unfolding in_place
place_run y d m a n e = and_left a.no_fat_chain (leb (a.last + 1 + n) (y.count + 2) && all_from (is_usable y d m) (a.last + 1) n) e

module _ (y : Layout) (d m : List ℕ) (w : Fits y d) (a : Allocation) (n : ℕ) (some : 1 ≤ a.count) (one : 1 ≤ n) (ok : Allowed y d m a n) where
  start_heap : in_heap y.count (wrap y.count (a.last + 1)) ≡ true
  start_heap = start_in y d m a n w.laid w.apart w.long some one ok

  pub length_more : length (chosen (is_usable y d m) y.count n (wrap y.count (a.last + 1))) ≡ n
  length_more =
      let s = in_heap_lem y.count (wrap y.count (a.last + 1)) start_heap in
      length-chosen (is_usable y d m) y.count n (wrap y.count (a.last + 1)) s.0 (omega arith)
      (λ q. let h = few_count (is_usable y d m) y.count n (wrap y.count (a.last + 1)) q in let e = ok.enough in omega arith)

  -- n more clusters are those of the choice from last + 1 on
  pub longer_grown : Grows y d m (longer y d m a n) (clusters_of (stream_of y d a)) (chosen (is_usable y d m) y.count n (wrap y.count (a.last + 1)))
  longer_grown = by (in_place y d m a n) refl
    where
      new : List ℕ
      new = chosen (is_usable y d m) y.count n (wrap y.count (a.last + 1))

      by : (b : Bool) → in_place y d m a n ≡ b → Grows y d m (longer y d m a n) (clusters_of (stream_of y d a)) new
      by true e =
          let t = place_run y d m a n e in
          let h = place_facts y d m a n w.laid w.apart w.long some one ok e in
          let u = sym (place_usable y d m a n t h) ∙ e in
          let l = in_heap_lem y.count a.last (tail_of y d a ok.reads some).heap in
          subst (λ (o : Outcome). Grows y d m o (clusters_of (stream_of y d a)) new) (sym (longer_in y d m a n e))
          (subst (λ (ks : List ℕ). Grows y d m (longer_run y d a n) (clusters_of (stream_of y d a)) ks) (sym (place_chosen y d m a n one (omega arith) t h u))
          (longer-run_grown y d w a some ok.reads m n t h (all_whole (is_usable y d m) (a.last + 1) n u)))
      by false e =
          subst (λ (o : Outcome). Grows y d m o (clusters_of (stream_of y d a)) new) (sym (longer_out y d m a n e))
          (longer-chain_grown y d w a some ok.reads m new (chosen_fresh y d m w n (wrap y.count (a.last + 1)) start_heap) (omega (arith, length_more)))

  pub longer_number : (longer y d m a n).answer.number ≡ 0
  longer_number = by (in_place y d m a n) refl
    where
      by : (b : Bool) → in_place y d m a n ≡ b → (longer y d m a n).answer.number ≡ 0
      by true e = ap (λ (o : Outcome). o.answer.number) (longer_in y d m a n e) ∙ (unfold longer_run in refl)
      by false e = ap (λ (o : Outcome). o.answer.number) (longer_out y d m a n e) ∙ (unfold longer_chain in refl)

module _ (y : Layout) (d m : List ℕ) (w : Fits y d) (a : Allocation) (n hint : ℕ) where
  -- a record that has clusters: nothing refuses, n are chosen, and they are taken after its own
  abbrev pub Extended : Type 0
  Extended =
      Allowed y d m a n
      × (length (chosen (is_usable y d m) y.count n (wrap y.count (a.last + 1))) ≡ n)
      × Grows y d m (extend_in y d m a n hint) (clusters_of (stream_of y d a)) (chosen (is_usable y d m) y.count n (wrap y.count (a.last + 1)))

  number : (o : Outcome) → extend_in y d m a n hint ≡ o → (extend_in y d m a n hint).answer.number ≡ o.answer.number
  number o q = ap (λ (o : Outcome). o.answer.number) q

  pub extend_grown : 1 ≤ a.count → 1 ≤ n → (extend_in y d m a n hint).answer.number ≡ 0 → Extended
  extend_grown some one e = by (in_heap y.count hint) refl (eqb (more_cause y d m a n) 0) refl
    where
      by : (b : Bool) → in_heap y.count hint ≡ b → (c : Bool) → eqb (more_cause y d m a n) 0 ≡ c → Extended
      by false p c q =
          let z : ◌≡◌ {A = ℕ} 2 0 = sym (number (unchanged 2 a hint d) (extend_hint y d m a n hint p)) ∙ e in absurd (omega arith)
      by true p false q =
          let x = eqb-false (more_cause y d m a n) 0 q in
          absurd (x (sym (number (unchanged (more_cause y d m a n) a hint d) (extend_refused y d m a n hint (more_cause y d m a n) p (λ t. omega arith) (λ t. omega arith) refl x)) ∙ e))
      by true p true q =
          let x = eqb-true (more_cause y d m a n) 0 q in
          let ok = allowed_of y d m a n x in (
            ok,
            length_more y d m w a n some one ok,
            subst (λ (o : Outcome). Grows y d m o (clusters_of (stream_of y d a)) (chosen (is_usable y d m) y.count n (wrap y.count (a.last + 1))))
                (sym (extend_longer y d m a n hint p (λ t. omega arith) (λ t. omega arith) x)) (longer_grown y d m w a n some one ok),
          )

  -- an empty record: what allocate does, without near
  pub extend_empty : a.count ≡ 0 → 1 ≤ n → (extend_in y d m a n hint).answer.number ≡ 0 → extend_in y d m a n hint ≡ allocate_in y d m n false 0 hint
  extend_empty z one e = by (in_heap y.count hint) refl (ℕ_discrete (allocate_in y d m n false 0 hint).answer.number 0)
    where
      by : (b : Bool) → in_heap y.count hint ≡ b → Dec ((allocate_in y d m n false 0 hint).answer.number ≡ 0)
          → extend_in y d m a n hint ≡ allocate_in y d m n false 0 hint
      by false p c =
          let z : ◌≡◌ {A = ℕ} 2 0 = sym (number (unchanged 2 a hint d) (extend_hint y d m a n hint p)) ∙ e in absurd (omega arith)
      by true p (yes c) = extend_new y d m a n hint p (λ t. omega arith) z ∙ given-done a (allocate_in y d m n false 0 hint) c
      by true p (no c) =
          let o = allocate_in y d m n false 0 hint in
          absurd (c (sym (number (unchanged o.answer.number a o.answer.hint o.volume) (extend_new y d m a n hint p (λ t. omega arith) z ∙ given_refused a o c)) ∙ e))

  -- refused, or with nothing to take, it leaves the volume and answers with the record as given
  pub extend_kept : (((extend_in y d m a n hint).answer.number ≡ 0) × (1 ≤ n) → ⊥)
      → extend_in y d m a n hint ≡ unchanged (extend_in y d m a n hint).answer.number a hint d
  extend_kept out = by (in_heap y.count hint) refl (ℕ_discrete n 0) (ℕ_discrete a.count 0)
    where
      again : (x : ℕ) → extend_in y d m a n hint ≡ unchanged x a hint d → extend_in y d m a n hint ≡ unchanged (extend_in y d m a n hint).answer.number a hint d
      again x q = q ∙ ap (λ (z : ℕ). unchanged z a hint d) (sym (number (unchanged x a hint d) q))

      new : in_heap y.count hint ≡ true → (n ≡ 0 → ⊥) → a.count ≡ 0 → Dec ((allocate_in y d m n false 0 hint).answer.number ≡ 0)
          → extend_in y d m a n hint ≡ unchanged (extend_in y d m a n hint).answer.number a hint d
      new p z c (yes e) =
          let o = allocate_in y d m n false 0 hint in
          absurd (out (number o (extend_new y d m a n hint p z c ∙ given-done a o e) ∙ e, omega arith))
      new p z c (no e) =
          let o = allocate_in y d m n false 0 hint in
          let k = allocate_kept y d m w n false 0 hint (λ r. e r.0) in
          again o.answer.number
          (extend_new y d m a n hint p z c ∙ given_refused a o e ∙ ap (λ (x : Outcome). unchanged o.answer.number a x.answer.hint x.volume) k)

      by : (b : Bool) → in_heap y.count hint ≡ b → Dec (n ≡ 0) → Dec (a.count ≡ 0)
          → extend_in y d m a n hint ≡ unchanged (extend_in y d m a n hint).answer.number a hint d
      by false p z c = again 2 (extend_hint y d m a n hint p)
      by true p (yes z) c = again 0 (extend_none y d m a n hint p z)
      by true p (no z) (yes c) = new p z c (ℕ_discrete (allocate_in y d m n false 0 hint).answer.number 0)
      by true p (no z) (no c) =
          elim (ℕ_discrete (more_cause y d m a n) 0) [
            | yes q ↦ absurd (out (
              number (longer y d m a n) (extend_longer y d m a n hint p z c q)
                  ∙ longer_number y d m w a n (omega arith) (omega arith) (allowed_of y d m a n q),
              omega arith,
            ))
            | no q ↦ again (more_cause y d m a n) (extend_refused y d m a n hint (more_cause y d m a n) p z c refl q)
          ]

  -- where the hint is in the heap, the record reads and C is not passed, the one cause is that fewer are usable than wanted
  module _ (some : 1 ≤ a.count) (one : 1 ≤ n) (hint_in : in_heap y.count hint ≡ true) (reads : number_of (stream_of y d a) ≡ 0)
      (room : a.count + n ≤ y.count) where
    pub extend_few : count (is_usable y d m) 2 y.count < n → extend_in y d m a n hint ≡ unchanged 7 a hint d
    extend_few h =
        extend_refused y d m a n hint 7 hint_in (λ t. omega arith) (λ t. omega arith)
        (sym (more_few y d m a n (number_of (stream_of y d a)) room refl reads h)) (λ t. omega arith)

    pub extend_enough : n ≤ count (is_usable y d m) 2 y.count → (extend_in y d m a n hint).answer.number ≡ 0
    extend_enough h =
        let c = more_none y d m a n (number_of (stream_of y d a)) room refl reads h in
        number (longer y d m a n) (extend_longer y d m a n hint hint_in (λ t. omega arith) (λ t. omega arith) c)
        ∙ longer_number y d m w a n some one (record { room = room; reads = reads; enough = h })
