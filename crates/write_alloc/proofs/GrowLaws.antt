-- What taking clusters does to a volume, as one record, and that allocate does that. Assumes nothing.
use mathlib.Core.Path.{◌≡◌, refl, sym, ◌∙◌, ap, subst}
use mathlib.Core.Logic.{◌≢◌}
use mathlib.Core.Bool.{Bool, true, false, cond, false≢true}
use mathlib.Core.List.{List, [], ◌∷◌, ◌++◌}
use Prim.Native.Nat.{ℕ, ◌+◌, ◌-◌, ◌≤◌, ◌<◌}
use native.Mathlib.Decide.{ℕ_discrete, dec_lt}
use native.Mathlib.Omega.{arith}
use lib.Dec.{eqb}
use lib.ListN.{length}
use Rattle.tables.specs.Lists.{Mem, here, Distinct, more, every, last_or, consec}
use Rattle.tables.specs.Count.{count}
use Rattle.tables.proofs.Cases.{clash}
use Rattle.tables.proofs.ListLaws.{mem_right, every_mem, mem_every, in_consec, consec_in, consec_distinct, length-consec, last_in}
use Rattle.boot.specs.declared.layout.Layout.{Layout}
use Rattle.boot.specs.Layout.{in_heap}
use Rattle.boot.proofs.Apart.{in_heap_lem, heap_in}
use Rattle.metadata.specs.Fat.{END, fat_entry, set_fat}
use Rattle.metadata.specs.Marks.{marked, free_count, mark_run}
use Rattle.metadata.specs.Usable.{is_usable}
use Rattle.metadata.specs.Cluster.{cluster_byte}
use Rattle.metadata.proofs.Frame.{small, Fits, fits_kept, length_fat, fat_fat_same, fat_fat_other, mark_fat, cluster_fat}
use Rattle.metadata.proofs.View.{plain}
use Rattle.metadata.proofs.Counting.{marked_count, fat_counts, usable_facts}
use Rattle.stream.specs.declared.allocation.Allocation.{Allocation}
use Rattle.stream.specs.Chain.{listed}
use Rattle.stream.specs.Stream.{stream_of, empty}
use Rattle.stream.proofs.StreamLaws.{Read, read_facts}
use Rattle.stream.proofs.Distinct.{chain_links, chain_listed, run_listed, record_listed, stream_frame}
use Rattle.choice.specs.declared.choice.Choice.{Choice}
use Rattle.choice.specs.declared.choice.Choice.TheVariants.{Run, Scattered, TooFew}
use Rattle.choice.specs.Choice.{choose, chosen}
use Rattle.write_alloc.specs.Take.{take_each}
use Rattle.write_alloc.specs.Outcome.{Outcome, unchanged}
use Rattle.write_alloc.specs.Allocate.{near_cause, new_run, new_chain, new_stream, allocate_in}
use Rattle.write_alloc.proofs.Links.{Linked, linked_at}
use Rattle.search.proofs.Lowest.{Whole}
use Rattle.choice.proofs.ChoiceLaws.{choose_inside, chosen-run, chosen_scattered, length-chosen, in_chosen, chosen_distinct, few_count, count_few, enough_count}
use Rattle.write_alloc.proofs.TakeLaws.{Before, Inside, length-mark_run, length_take_all, fits_take_all, run_mark, run_mark_other, run_fat, run_byte, run-count_marks, taken_mark, taken_mark_other, taken_fat_other, taken_byte, taken_count, taken_linked, taken_joined}
use Rattle.write_alloc.proofs.AllocateLaws.{stream_run, stream_chain, stream_few, start_heap, in_hint, in_none, in_free, in_near, in_new}

-- clusters that may be taken
pub record Fresh (y : Layout) (d m ks : List ℕ) : Type 0 where
  pub usable : every (is_usable y d m) ks ≡ true
  pub heap : every (in_heap y.count) ks ≡ true
  pub distinct : Distinct ks

-- volume d' is d with the clusters `new` taken, and record a reads there as the clusters `old` followed by them
pub record Grown (y : Layout) (d m d' : List ℕ) (a : Allocation) (old new : List ℕ) : Type 0 where
  pub long : length d' ≡ length d
  pub reads : stream_of y d' a ≡ listed (old ++ new)
  pub fresh : Fresh y d m new
  pub marks_new : (k : ℕ) → Mem k new → marked y d' k ≡ true
  pub marks_kept : (k : ℕ) → in_heap y.count k ≡ true → (Mem k new → ⊥) → marked y d' k ≡ marked y d k
  pub fat_kept : (k : ℕ) → in_heap y.count k ≡ true → (Mem k old → ⊥) → (Mem k new → ⊥) → fat_entry y d' k ≡ fat_entry y d k
  pub bytes_kept : (k j : ℕ) → plain y k ≡ true → j < y.size → cluster_byte y d' k j ≡ cluster_byte y d k j
  pub counts : marked_count y d' ≡ marked_count y d + length new

-- an outcome that does that
abbrev pub Grows : Layout → List ℕ → List ℕ → Outcome → List ℕ → List ℕ → Type 0
Grows y d m o old new = Grown y d m o.volume o.answer.allocation old new

module _ (y : Layout) (d m : List ℕ) (ks : List ℕ) (f : Fresh y d m ks) where
  pub fresh_inside : Inside y ks
  fresh_inside k i = every_mem (in_heap y.count) ks f.heap k i

  pub fresh_unmarked : (k : ℕ) → Mem k ks → marked y d k ≡ false
  fresh_unmarked k i = (usable_facts y d m k (every_mem (is_usable y d m) ks f.usable k i)).0

-- ---- what follows

module _ (y : Layout) (d m d' : List ℕ) (a : Allocation) (old new : List ℕ) (w : Fits y d) (g : Grown y d m d' a old new) where
  pub grown_fits : Fits y d'
  grown_fits = fits_kept y d d' g.long w

  -- a stream that shares no cluster with the old one is kept: none of its clusters was usable
  pub grown_other : (b : Allocation) (ks : List ℕ) → stream_of y d b ≡ listed ks → ((k : ℕ) → Mem k ks → Mem k old → ⊥) → stream_of y d' b ≡ listed ks
  unfolding stream_of
  grown_other b ks e o =
      stream_frame y.count (fat_entry y d) (fat_entry y d') (marked y d) (marked y d') b ks (small y d w)
      (λ k i. g.fat_kept k (heap k i) (o k i) (off k i)) (λ k i. g.marks_kept k (heap k i) (off k i)) e
    where
      r : Read y.count (fat_entry y d) (marked y d) b ks
      r = read_facts y.count (fat_entry y d) (marked y d) b ks e

      heap : (k : ℕ) → Mem k ks → in_heap y.count k ≡ true
      heap k i = every_mem (in_heap y.count) ks r.heap k i

      off : (k : ℕ) → Mem k ks → Mem k new → ⊥
      off k i j = false≢true (sym (fresh_unmarked y d m new g.fresh k j) ∙ every_mem (marked y d) ks r.marks k i)

-- ---- a run

module _ (y : Layout) (d m : List ℕ) (w : Fits y d) (k n : ℕ) (low : 2 ≤ k) (high : k + n ≤ y.count + 2) (whole : Whole (is_usable y d m) k n) where
  pub run_fresh : Fresh y d m (consec k n)
  run_fresh = record {
    usable = mem_every (is_usable y d m) (consec k n) (λ j i. let r = in_consec k n j i in whole j r.0 r.1);
    heap = mem_every (in_heap y.count) (consec k n) (λ j i. let r = in_consec k n j i in heap_in y.count j (omega arith) (omega arith));
    distinct = consec_distinct k n;
  }

  pub run-new : (j : ℕ) → Mem j (consec k n) → marked y (mark_run y d k n) j ≡ true
  run-new j i = let r = in_consec k n j i in run_mark y d w k n low high j r.0 r.1

  pub run_other : (j : ℕ) → in_heap y.count j ≡ true → (Mem j (consec k n) → ⊥) → marked y (mark_run y d k n) j ≡ marked y d j
  run_other j h o = run_mark_other y d w k n low high j h (λ r. o (consec_in k n j r.0 r.1))

  -- marked, whatever record reads as them
  pub run_grown : (a : Allocation) (old : List ℕ) → stream_of y (mark_run y d k n) a ≡ listed (old ++ consec k n) → Grown y d m (mark_run y d k n) a old (consec k n)
  run_grown a old e = record {
    long = length-mark_run y d k n;
    reads = e;
    fresh = run_fresh;
    marks_new = run-new;
    marks_kept = run_other;
    fat_kept = λ j h _ _. run_fat y d w k n low high j h;
    bytes_kept = λ j r h b. run_byte y d w k n low high j r h b;
    counts = run-count_marks y d w k n low high (λ j l h. (usable_facts y d m j (whole j l h)).0) ∙ ap (λ (x : ℕ). marked_count y d + x) (sym (length-consec k n));
  }

  pub new-run_grown : 1 ≤ n → Grows y d m (new_run y d k n) [] (consec k n)
  unfolding new_run stream_of
  new-run_grown one =
      let a : Allocation = record { first = k; last = k + n - 1; count = n; no_fat_chain = true } in
      run_grown a []
      (run_listed y.count (fat_entry y (mark_run y d k n)) (marked y (mark_run y d k n)) a refl (omega arith) run_fresh.heap
      (mem_every (marked y (mark_run y d k n)) (consec k n) run-new))

-- ---- a chain

-- one that another follows is not the last
not_last : (z : ℕ) (xs : List ℕ) (k j : ℕ) (zs : List ℕ) → Distinct (xs ++ k ∷ j ∷ zs) → k ≢ last_or z (xs ++ k ∷ j ∷ zs)
unfolding last_or
not_last z [] k j zs (more o d) e = o (subst (λ (x : ℕ). Mem x (j ∷ zs)) (sym e) (last_in j zs))
not_last z (x ∷ xs) k j zs (more o d) e = not_last x xs k j zs d e

-- the clusters b, bs taken after prev (0: none), the last one's entry the end
module _ (y : Layout) (d : List ℕ) (w : Fits y d) (prev b : ℕ) (bs : List ℕ) (before : Before y prev) (inside : Inside y (b ∷ bs)) (distinct : Distinct (b ∷ bs)) where
  abbrev taken : List ℕ
  taken = take_each y d prev (b ∷ bs)

  abbrev pub sealed : List ℕ
  sealed = set_fat y (take_each y d prev (b ∷ bs)) (last_or b bs) END

  fits : Fits y taken
  fits = fits_take_all y d w prev (b ∷ bs)

  last_lt : last_or b bs < y.count + 2
  last_lt = (in_heap_lem y.count (last_or b bs) (inside (last_or b bs) (last_in b bs))).1

  -- what does not stand in the list is not its last
  off_last : (j : ℕ) → (Mem j (b ∷ bs) → ⊥) → j ≢ last_or b bs
  off_last j o e = o (subst (λ (x : ℕ). Mem x (b ∷ bs)) (sym e) (last_in b bs))

  pub sealed_long : length sealed ≡ length d
  sealed_long = length_fat y taken (last_or b bs) END ∙ length_take_all y d prev (b ∷ bs)

  pub sealed_mark : (j : ℕ) → Mem j (b ∷ bs) → marked y sealed j ≡ true
  sealed_mark j i = mark_fat y taken fits (last_or b bs) END j last_lt ∙ taken_mark y d w prev (b ∷ bs) before inside j i

  pub sealed_mark_other : (j : ℕ) → in_heap y.count j ≡ true → (Mem j (b ∷ bs) → ⊥) → marked y sealed j ≡ marked y d j
  sealed_mark_other j h o = mark_fat y taken fits (last_or b bs) END j last_lt ∙ taken_mark_other y d w prev (b ∷ bs) before inside j h o

  pub sealed_fat : (j : ℕ) → in_heap y.count j ≡ true → j ≢ prev → (Mem j (b ∷ bs) → ⊥) → fat_entry y sealed j ≡ fat_entry y d j
  sealed_fat j h n o =
      fat_fat_other y taken fits (last_or b bs) END j last_lt (in_heap_lem y.count j h).1 (off_last j o)
      ∙ taken_fat_other y d w prev (b ∷ bs) before inside j h n o

  pub sealed_byte : (j r : ℕ) → plain y j ≡ true → r < y.size → cluster_byte y sealed j r ≡ cluster_byte y d j r
  sealed_byte j r h c = cluster_fat y taken fits (last_or b bs) END j r last_lt ∙ taken_byte y d w prev (b ∷ bs) before inside j r h c

  pub sealed-count : ((k : ℕ) → Mem k (b ∷ bs) → marked y d k ≡ false) → marked_count y sealed ≡ marked_count y d + length (b ∷ bs)
  sealed-count f = fat_counts y taken fits (last_or b bs) END last_lt ∙ taken_count y d w prev (b ∷ bs) before inside distinct f

  pub sealed_end : fat_entry y sealed (last_or b bs) ≡ END
  sealed_end = fat_fat_same y taken fits (last_or b bs) END last_lt (omega arith)

  pub sealed_links : (xs : List ℕ) (k j : ℕ) (zs : List ℕ) → b ∷ bs ≡ xs ++ k ∷ j ∷ zs → fat_entry y sealed k ≡ j
  unfolding last_or
  sealed_links xs k j zs q =
      fat_fat_other y taken fits (last_or b bs) END k last_lt (in_heap_lem y.count k (inside k (subst (Mem k) (sym q) (mem_right xs (here refl))))).1
      (λ e. not_last 0 xs k j zs (subst Distinct q distinct) (e ∙ ap (last_or 0) q))
      ∙ linked_at (fat_entry y taken) xs k j zs (subst (Linked (fat_entry y taken)) q (taken_linked y d w prev (b ∷ bs) before inside distinct))

  -- the one before leads to the first
  pub sealed_first : in_heap y.count prev ≡ true → (Mem prev (b ∷ bs) → ⊥) → fat_entry y sealed prev ≡ b
  sealed_first h o =
      let i = in_heap_lem y.count prev h in
      fat_fat_other y taken fits (last_or b bs) END prev last_lt i.1 (off_last prev o)
      ∙ linked_at (fat_entry y taken) [] prev b bs (taken_joined y d w prev (b ∷ bs) before inside distinct (λ z. omega arith) o)

module _ (y : Layout) (d m : List ℕ) (w : Fits y d) where
  pub new-chain_grown : (ks : List ℕ) → Fresh y d m ks → 1 ≤ length ks → Grows y d m (new_chain y d ks) [] ks
  unfolding new_chain last_or stream_of
  new-chain_grown [] f h = absurd (omega arith)
  new-chain_grown (b ∷ bs) f h = record {
    long = sealed_long y d w 0 b bs before inside f.distinct;
    reads =
        record_listed y.count (fat_entry y d') (marked y d') a b bs refl
        (chain_listed y.count (fat_entry y d') (small y d w) b b bs
        (chain_links y.count (fat_entry y d') b bs (sealed_links y d w 0 b bs before inside f.distinct) f.heap
        (sealed_end y d w 0 b bs before inside f.distinct))) refl refl
        (mem_every (marked y d') (b ∷ bs) (sealed_mark y d w 0 b bs before inside f.distinct));
    fresh = f;
    marks_new = sealed_mark y d w 0 b bs before inside f.distinct;
    marks_kept = sealed_mark_other y d w 0 b bs before inside f.distinct;
    fat_kept = λ k i _ o. sealed_fat y d w 0 b bs before inside f.distinct k i (λ e. let r = in_heap_lem y.count k i in omega arith) o;
    bytes_kept = sealed_byte y d w 0 b bs before inside f.distinct;
    counts = sealed-count y d w 0 b bs before inside f.distinct (fresh_unmarked y d m (b ∷ bs) f);
  }
    where
      before : Before y 0
      before n = absurd (n refl)

      inside : Inside y (b ∷ bs)
      inside = fresh_inside y d m (b ∷ bs) f

      d' : List ℕ
      d' = set_fat y (take_each y d 0 (b ∷ bs)) (last_or b bs) END

      a : Allocation
      a = record { first = b; last = last_or b bs; count = length (b ∷ bs); no_fat_chain = false }

  -- ---- the choice

  pub chosen_fresh : (n start : ℕ) → in_heap y.count start ≡ true → Fresh y d m (chosen (is_usable y d m) y.count n start)
  chosen_fresh n start h =
      let u = is_usable y d m in
      let s = in_heap_lem y.count start h in
      record {
        usable = mem_every u (chosen u y.count n start) (λ k i. (in_chosen u y.count n start s.0 (omega arith) k i).1);
        heap = mem_every (in_heap y.count) (chosen u y.count n start) (λ k i. (in_chosen u y.count n start s.0 (omega arith) k i).0);
        distinct = chosen_distinct u y.count n start s.0 (omega arith);
      }

  pub stream_grown : (n start hint : ℕ) → 1 ≤ n → in_heap y.count start ≡ true → (new_stream y d m n start hint).answer.number ≡ 0
      → Grows y d m (new_stream y d m n start hint) [] (chosen (is_usable y d m) y.count n start)
  stream_grown n start hint one h e = by (choose (is_usable y d m) y.count n start) refl
    where
      new : List ℕ
      new = chosen (is_usable y d m) y.count n start

      low : 2 ≤ start
      low = (in_heap_lem y.count start h).0

      high : start ≤ y.count + 2
      high = omega (arith, (in_heap_lem y.count start h).1)

      by : (c : Choice) → choose (is_usable y d m) y.count n start ≡ c → Grows y d m (new_stream y d m n start hint) [] new
      by (Run k) q =
          let i = choose_inside (is_usable y d m) y.count n start low k q in
          subst (λ (o : Outcome). Grows y d m o [] new) (sym (stream_run y d m n start hint k q))
          (subst (λ (ks : List ℕ). Grows y d m (new_run y d k n) [] ks) (sym (chosen-run (is_usable y d m) y.count n start low k q))
          (new-run_grown y d m w k n i.0 i.1 i.2 one))
      by Scattered q =
          let l = length-chosen (is_usable y d m) y.count n start low high (λ z. clash (cc)) in
          subst (λ (o : Outcome). Grows y d m o [] new)
          (ap (new_chain y d) (chosen_scattered (is_usable y d m) y.count n start low q) ∙ sym (stream_chain y d m n start hint low q))
          (new-chain_grown new (chosen_fresh n start h) (omega arith))
      by TooFew q =
          let z : ◌≡◌ {A = ℕ} 7 0 = ap (λ (o : Outcome). o.answer.number) (sym (stream_few y d m n start hint q)) ∙ e in
          absurd (omega arith)

-- ---- allocate

module _ (y : Layout) (d m : List ℕ) (w : Fits y d) (n : ℕ) (given : Bool) (near hint : ℕ) where
  -- the search starts in the heap, n are usable, n are chosen, and they are taken
  abbrev pub Allocated : Type 0
  Allocated =
      (in_heap y.count (cond given near hint) ≡ true)
      × (n ≤ count (is_usable y d m) 2 y.count)
      × (length (chosen (is_usable y d m) y.count n (cond given near hint)) ≡ n)
      × Grows y d m (allocate_in y d m n given near hint) [] (chosen (is_usable y d m) y.count n (cond given near hint))

  pub allocate_grown : 1 ≤ n → (allocate_in y d m n given near hint).answer.number ≡ 0 → Allocated
  allocate_grown one e = by (in_heap y.count hint) refl (dec_lt (free_count y d) n) (eqb (near_cause y.count given near) 0) refl
    where
      start : ℕ
      start = cond given near hint

      number : (o : Outcome) → allocate_in y d m n given near hint ≡ o → o.answer.number ≡ 0
      number o q = ap (λ (o : Outcome). o.answer.number) (sym q) ∙ e

      by : (b : Bool) → in_heap y.count hint ≡ b → Dec (free_count y d < n) → (c : Bool) → eqb (near_cause y.count given near) 0 ≡ c → Allocated
      by false p f c q = let z : ◌≡◌ {A = ℕ} 2 0 = number (unchanged 2 empty hint d) (in_hint y d m n given near hint p) in absurd (omega arith)
      by true p (yes f) c q =
          let z : ◌≡◌ {A = ℕ} 7 0 = number (unchanged 7 empty hint d) (in_free y d m n given near hint p (λ t. omega arith) f) in absurd (omega arith)
      by true p (no f) false q =
          let z : ◌≡◌ {A = ℕ} 2 0 = number (unchanged 2 empty hint d) (in_near y d m n given near hint p (λ t. omega arith) (omega arith) q) in absurd (omega arith)
      by true p (no f) true q =
          let r = in_new y d m n given near hint p (λ t. omega arith) q in
          let h = start_heap y.count given near hint p q in
          let s = in_heap_lem y.count start h in
          let t : choose (is_usable y d m) y.count n start ≢ TooFew = λ z. seven (number (unchanged 7 empty hint d) (r ∙ stream_few y d m n start hint z)) in (
            h,
            enough_count (is_usable y d m) y.count n start s.0 t,
            length-chosen (is_usable y d m) y.count n start s.0 (omega arith) t,
            subst (λ (o : Outcome). Grows y d m o [] (chosen (is_usable y d m) y.count n start)) (sym r)
                (stream_grown y d m w n start hint one h (number (new_stream y d m n start hint) r)),
          )
        where
          seven : ◌≡◌ {A = ℕ} 7 0 → ⊥
          seven z = omega arith

  -- refused, or with nothing to take, it leaves the volume and answers with the empty record
  pub allocate_kept : (((allocate_in y d m n given near hint).answer.number ≡ 0) × (1 ≤ n) → ⊥)
      → allocate_in y d m n given near hint ≡ unchanged (allocate_in y d m n given near hint).answer.number empty hint d
  allocate_kept o = by (in_heap y.count hint) refl (ℕ_discrete n 0) (dec_lt (free_count y d) n) (eqb (near_cause y.count given near) 0) refl
    where
      start : ℕ
      start = cond given near hint

      again : (x : ℕ) → allocate_in y d m n given near hint ≡ unchanged x empty hint d
          → allocate_in y d m n given near hint ≡ unchanged (allocate_in y d m n given near hint).answer.number empty hint d
      again x q = q ∙ ap (λ (z : ℕ). unchanged z empty hint d) (sym (ap (λ (o : Outcome). o.answer.number) q))

      by : (b : Bool) → in_heap y.count hint ≡ b → Dec (n ≡ 0) → Dec (free_count y d < n) → (c : Bool) → eqb (near_cause y.count given near) 0 ≡ c
          → allocate_in y d m n given near hint ≡ unchanged (allocate_in y d m n given near hint).answer.number empty hint d
      by false p z f c q = again 2 (in_hint y d m n given near hint p)
      by true p (yes z) f c q = again 0 (in_none y d m n given near hint p z)
      by true p (no z) (yes f) c q = again 7 (in_free y d m n given near hint p z f)
      by true p (no z) (no f) false q = again 2 (in_near y d m n given near hint p z (omega arith) q)
      by true p (no z) (no f) true q =
          let r = in_new y d m n given near hint p z q in
          again 7 (r ∙ stream_few y d m n start hint (few (choose (is_usable y d m) y.count n start) refl r))
        where
          few : (c : Choice) → choose (is_usable y d m) y.count n start ≡ c
              → allocate_in y d m n given near hint ≡ new_stream y d m n start hint → c ≡ TooFew
          few TooFew t r = refl
          few (Run k) t r =
              absurd (o (ap (λ (o : Outcome). o.answer.number) (r ∙ stream_run y d m n start hint k t) ∙ (unfold new_run in refl), omega arith))
          few Scattered t r =
              let l = (in_heap_lem y.count start (start_heap y.count given near hint p q)).0 in
              absurd (o (ap (λ (o : Outcome). o.answer.number) (r ∙ stream_chain y d m n start hint l t) ∙ (unfold new_chain in refl), omega arith))

  -- where hint and near are in the heap, the one cause is that fewer are usable than wanted
  module _ (one : 1 ≤ n) (hint_in : in_heap y.count hint ≡ true) (near-in : eqb (near_cause y.count given near) 0 ≡ true) where
    pub allocate_few : count (is_usable y d m) 2 y.count < n → allocate_in y d m n given near hint ≡ unchanged 7 empty hint d
    allocate_few h =
        in_new y d m n given near hint hint_in (λ t. omega arith) near-in
        ∙ stream_few y d m n (cond given near hint) hint
        (count_few (is_usable y d m) y.count n (cond given near hint) (in_heap_lem y.count (cond given near hint) (start_heap y.count given near hint hint_in near-in)).0 h)

    pub allocate_enough : n ≤ count (is_usable y d m) 2 y.count → (allocate_in y d m n given near hint).answer.number ≡ 0
    allocate_enough h =
        let r = in_new y d m n given near hint hint_in (λ t. omega arith) near-in in
        ap (λ (o : Outcome). o.answer.number) r ∙ by (choose (is_usable y d m) y.count n (cond given near hint)) refl
      where
        by : (c : Choice) → choose (is_usable y d m) y.count n (cond given near hint) ≡ c → (new_stream y d m n (cond given near hint) hint).answer.number ≡ 0
        by (Run k) t = ap (λ (o : Outcome). o.answer.number) (stream_run y d m n (cond given near hint) hint k t) ∙ (unfold new_run in refl)
        by Scattered t =
            let l = (in_heap_lem y.count (cond given near hint) (start_heap y.count given near hint hint_in near-in)).0 in
            ap (λ (o : Outcome). o.answer.number) (stream_chain y d m n (cond given near hint) hint l t) ∙ (unfold new_chain in refl)
        by TooFew t = let c = few_count (is_usable y d m) y.count n (cond given near hint) t in absurd (omega arith)
