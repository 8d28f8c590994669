-- A stream cut in two parts, as the code of shrink meets it. Assumes nothing.
use mathlib.Core.Path.{◌≡◌, refl, sym, ◌∙◌, ap, subst}
use mathlib.Core.Logic.{◌≢◌}
use mathlib.Core.Bool.{Bool, true, false, ◌&&◌, ◌||◌, cond}
use mathlib.Core.List.{List, [], ◌∷◌, ◌++◌}
use Prim.Native.Nat.{ℕ, zero, suc, ◌+◌, ◌-◌, ◌≤◌, ◌<◌}
use native.Mathlib.Numerals.{sub-one}
use native.Mathlib.Decide.{dec_lt}
use native.Mathlib.Omega.{arith}
use lib.Dec.{eqb, leb}
use lib.ListN.{length, take, drop}
use lib.Seq.{take-append_seam, drop-append_seam}
use borrow.Author.Tests.{eq-eqb, ne_eqb, le-leb, lt-leb}
use Rattle.tables.specs.Lists.{Mem, here, there, Distinct, more, every, last_or, rising_from, rising}
use Rattle.tables.proofs.Cases.{cond_case, and-true, and_assoc}
use Rattle.tables.proofs.ListLaws.{mem_left, mem_right, every_mem, mem_every, last_in}
use Rattle.boot.specs.declared.geometry.Geometry.{Geometry}
use Rattle.boot.specs.declared.layout.Layout.{Layout}
use Rattle.boot.specs.Internal.{Laid, Apart}
use Rattle.boot.specs.Layout.{in_heap}
use Rattle.boot.specs.Causes.{first_cause, admit_cause, heap_cause}
use Rattle.boot.proofs.CauseLaws.{cause_skip, cause_met, cause_last, heap_met, heap_kept}
use Rattle.boot.proofs.Admission.{Admits}
use Rattle.boot.proofs.Apart.{in_heap_lem}
use Rattle.metadata.specs.Fat.{END, fat_entry, set_fat}
use Rattle.metadata.specs.Marks.{marked, set_mark}
use Rattle.metadata.proofs.Frame.{Fits, fits_kept, length_fat, length_mark, fat_fat_other, fat_mark}
use Rattle.stream.specs.declared.allocation.Allocation.{Allocation}
use Rattle.stream.specs.Stream.{number_of, stream_of, clusters_of, clusters_in, system_cause}
use Rattle.stream.specs.Internal.{after, along, reached}
use Rattle.stream.proofs.StreamLaws.{along-step, length-along, along_head, along_rest}
use Rattle.stream.proofs.ChainLaws.{stream_empty}
use Rattle.stream.proofs.ListingLaws.{stream_read}
use Rattle.stream.proofs.Distinct.{along_cong, read_distinct}
use Rattle.write_shrink.specs.declared.shrink.Kept.{Kept}
use Rattle.write_alloc.specs.Outcome.{Outcome, unchanged}
use Rattle.write_alloc.proofs.AllocateLaws.{Shown}
use Rattle.write_shrink.specs.Internal.{kept_part, part_record}
use Rattle.write_shrink.specs.Shrink.{free_all, kept_record, end_kept, shrink_cause, cut, shrink_in, shrink_clusters}

-- ---- lists put together

pub distinct_right : (xs ys : List ℕ) → Distinct (xs ++ ys) → Distinct ys
distinct_right [] ys d = d
distinct_right (x ∷ xs) ys (more o d) = distinct_right xs ys d

pub distinct_apart : (xs ys : List ℕ) → Distinct (xs ++ ys) → (k : ℕ) → Mem k xs → Mem k ys → ⊥
distinct_apart (x ∷ xs) ys (more o d) k (here e) q = o (mem_right xs (subst (λ (z : ℕ). Mem z ys) e q))
distinct_apart (x ∷ xs) ys (more o d) k (there p) q = distinct_apart xs ys d k p q
distinct_apart [] ys _ k x4 q = elim x4 [ ]

-- ---- the kept part

module _ (fat : ℕ → ℕ) (run : Bool) where
  pub along_split : (k n m : ℕ) → along fat run k (n + m) ≡ along fat run k n ++ along fat run (reached fat run k n) m
  unfolding along reached
  along_split k zero m = let e : 0 + m ≡ m = omega arith in rw e refl
  along_split k (suc n) m =
      let e : suc n + m ≡ suc (n + m) = omega arith in
      rw e (ap (λ (ks : List ℕ). k ∷ ks) (along_split (after fat run k) n m))

  -- what the walk answers that has come to k, with n clusters to go and b so far
  unfoldable pub walk_kept : Bool → ℕ → ℕ → Kept
  walk_kept b k zero = record { last = k; rising = b; next = after fat run k }
  walk_kept b k (suc n) = walk_kept (b && eqb (after fat run k) (k + 1)) (after fat run k) n

  pub walk_none : (b : Bool) (k n : ℕ) → n ≤ 0 → walk_kept b k n ≡ record { last = k; rising = b; next = after fat run k }
  unfolding walk_kept
  walk_none b k zero h = refl
  walk_none b k (suc n) h = absurd (omega arith)

  pub walk_step : (b : Bool) (k n : ℕ) → 0 < n → walk_kept b k n ≡ walk_kept (b && eqb (after fat run k) (k + 1)) (after fat run k) (n - 1)
  unfolding walk_kept
  walk_step b k zero h = absurd (omega arith)
  walk_step b k (suc n) h = rw sub-one refl

  walk_is : (b : Bool) (k n : ℕ) → walk_kept b k n
      ≡ record { last = last_or k (along fat run (after fat run k) n); rising = b && rising_from k (along fat run (after fat run k) n); next = reached fat run (after fat run k) n }
  unfolding walk_kept along reached last_or rising_from
  walk_is b k zero = rw (and-true b) refl
  walk_is b k (suc n) =
      let j = after fat run k in
      rw (and_assoc b (eqb j (k + 1)) (rising_from j (along fat run (after fat run j) n))) (walk_is (b && eqb j (k + 1)) j n)

  pub kept_none : (k n : ℕ) → n ≡ 0 → kept_part fat run k n ≡ record { last = 0; rising = true; next = k }
  unfolding kept_part along last_or rising reached
  kept_none k zero h = refl
  kept_none k (suc n) h = absurd (omega arith)

  pub kept_some : (k n : ℕ) → n ≢ 0 → kept_part fat run k n ≡ walk_kept true k (n - 1)
  unfolding kept_part along last_or rising reached
  kept_some k zero h = absurd (h refl)
  kept_some k (suc n) h = rw sub-one (sym (walk_is true k n))

  pub part_next : (k n : ℕ) (p : Kept) → p ≡ kept_part fat run k n → p.next ≡ reached fat run k n
  unfolding kept_part
  part_next k n p e = ap (λ (x : Kept). x.next) e

  pub part_last : (k n : ℕ) (p : Kept) → p ≡ kept_part fat run k n → p.last ≡ last_or 0 (along fat run k n)
  unfolding kept_part
  part_last k n p e = ap (λ (x : Kept). x.last) e

-- where it leads, and what is kept, depend on those clusters' entries alone
reach_cong : (fat fat' : ℕ → ℕ) (run : Bool) (k n : ℕ) → ((j : ℕ) → Mem j (along fat run k n) → fat' j ≡ fat j) → reached fat' run k n ≡ reached fat run k n
unfolding reached along after
reach_cong fat fat' run k zero h = refl
reach_cong fat fat' run k (suc n) h =
    ap (λ (x : ℕ). reached fat' run (cond run (k + 1) x) n) (h k (here refl))
    ∙ reach_cong fat fat' run (after fat run k) n (λ j m. h j (there m))

pub part_cong : (fat fat' : ℕ → ℕ) (run : Bool) (k n : ℕ) → ((j : ℕ) → Mem j (along fat run k n) → fat' j ≡ fat j)
    → kept_part fat' run k n ≡ kept_part fat run k n
unfolding kept_part
part_cong fat fat' run k n h = λ i. record {
  last = last_or 0 (along_cong fat fat' run k n h i);
  rising = rising (along_cong fat fat' run k n h i);
  next = reach_cong fat fat' run k n h i;
}

-- ---- the end of the kept part

module _ (y : Layout) (d : List ℕ) (a : Allocation) where
  pub end_run : (ks : List ℕ) → a.no_fat_chain ≡ true → end_kept y d a ks ≡ d
  unfolding end_kept
  end_run [] t = refl
  end_run (k ∷ ks) t = rw t refl

  pub end_none : (fat : ℕ → ℕ) (run : Bool) (k n : ℕ) → n ≡ 0 → end_kept y d a (along fat run k n) ≡ d
  unfolding end_kept along
  end_none fat run k zero h = refl
  end_none fat run k (suc n) h = absurd (omega arith)

  pub end_some : (fat : ℕ → ℕ) (run : Bool) (k n : ℕ) → n ≢ 0 → a.no_fat_chain ≡ false
      → end_kept y d a (along fat run k n) ≡ set_fat y d (last_or 0 (along fat run k n)) END
  unfolding end_kept along last_or
  end_some fat run k zero h t = absurd (h refl)
  end_some fat run k (suc n) h t = rw t refl

-- what holds of the volume whether or not an end is stored
pub end_case : (y : Layout) (d : List ℕ) (a : Allocation) (P : List ℕ → Type 0) (ks : List ℕ) → P d
    → ((c : ℕ) (cs : List ℕ) → ks ≡ c ∷ cs → a.no_fat_chain ≡ false → P (set_fat y d (last_or c cs) END)) → P (end_kept y d a ks)
unfolding end_kept
end_case y d a P [] p q = p
end_case y d a P (c ∷ cs) p q =
    cond_case P a.no_fat_chain d (set_fat y d (last_or c cs) END) (λ t. p) (λ t. q c cs refl t)

-- the last of some clusters is one of them
last_mem : (fat : ℕ → ℕ) (run : Bool) (k n : ℕ) → n ≢ 0 → Mem (last_or 0 (along fat run k n)) (along fat run k n)
unfolding along last_or
last_mem fat run k zero h = absurd (h refl)
last_mem fat run k (suc n) h = last_in k (along fat run (after fat run k) n)

pub last_heap : (C : ℕ) (fat : ℕ → ℕ) (run : Bool) (k n l : ℕ) → n ≢ 0 → every (in_heap C) (along fat run k n) ≡ true
    → l ≡ last_or 0 (along fat run k n) → l < C + 2
last_heap C fat run k n l z h e =
    rw e (in_heap_lem C (last_or 0 (along fat run k n)) (every_mem (in_heap C) (along fat run k n) h _ (last_mem fat run k n z))).1

-- ---- freeing

-- one cluster freed
abbrev pub free_one : Layout → List ℕ → ℕ → List ℕ
free_one y d k = set_mark y (set_fat y d k 0) k false

pub length-one : (y : Layout) (d : List ℕ) (k : ℕ) → length (free_one y d k) ≡ length d
length-one y d k = length_mark y (set_fat y d k 0) k false ∙ length_fat y d k 0

pub fits_one : (y : Layout) (d : List ℕ) (k : ℕ) → Fits y d → Fits y (free_one y d k)
fits_one y d k w = fits_kept y d (free_one y d k) (length-one y d k) w

pub one_fat_other : (y : Layout) (d : List ℕ) → Fits y d → (k j : ℕ) → k < y.count + 2 → j < y.count + 2 → j ≢ k
    → fat_entry y (free_one y d k) j ≡ fat_entry y d j
one_fat_other y d w k j h i n =
    fat_mark y (set_fat y d k 0) (fits_kept y d (set_fat y d k 0) (length_fat y d k 0) w) k false j i ∙ fat_fat_other y d w k 0 j h i n

pub free_none : (y : Layout) (d : List ℕ) (fat : ℕ → ℕ) (run : Bool) (k n : ℕ) → n ≤ 0 → free_all y d (along fat run k n) ≡ d
unfolding free_all along
free_none y d fat run k zero h = refl
free_none y d fat run k (suc n) h = absurd (omega arith)

module _ (y : Layout) (d : List ℕ) (l : Laid y) (z : Apart y) (len : length d ≡ y.len) (run : Bool) (k n : ℕ) (h : 0 < n)
    (heap : every (in_heap y.count) (along (fat_entry y d) run k n) ≡ true) (distinct : Distinct (along (fat_entry y d) run k n)) where
  abbrev next : ℕ
  next = after (fat_entry y d) run k

  abbrev rest : List ℕ
  rest = along (fat_entry y d) run next (n - 1)

  split : (Mem k rest → ⊥) × Distinct rest
  split = go (subst Distinct (along-step (fat_entry y d) run k n h) distinct)
    where
      go : Distinct (k ∷ rest) → (Mem k rest → ⊥) × Distinct rest
      go (more o q) = (o, q)

  -- the clusters that are left are read as before
  rest_same : along (fat_entry y (free_one y d k)) run next (n - 1) ≡ rest
  rest_same =
      along_cong (fat_entry y d) (fat_entry y (free_one y d k)) run next (n - 1)
      (λ j m. one_fat_other y d (record { laid = l; apart = z; long = len }) k j
      (in_heap_lem y.count k (along_head (in_heap y.count) (fat_entry y d) run k n h heap)).1
      (in_heap_lem y.count j (every_mem (in_heap y.count) rest (along_rest (in_heap y.count) (fat_entry y d) run k n h heap) j m)).1
      (λ e. split.0 (subst (λ (x : ℕ). Mem x rest) e m)))

  pub free_heap : every (in_heap y.count) (along (fat_entry y (free_one y d k)) run next (n - 1)) ≡ true
  free_heap = ap (every (in_heap y.count)) rest_same ∙ along_rest (in_heap y.count) (fat_entry y d) run k n h heap

  pub free_distinct : Distinct (along (fat_entry y (free_one y d k)) run next (n - 1))
  free_distinct = subst Distinct (sym rest_same) split.1

  pub free_step : free_all y d (along (fat_entry y d) run k n) ≡ free_all y (free_one y d k) (along (fat_entry y (free_one y d k)) run next (n - 1))
  unfolding free_all
  free_step =
      ap (free_all y d) (along-step (fat_entry y d) run k n h)
      ∙ ap (free_all y (free_one y d k)) (sym rest_same)

-- ---- the record of the kept part

run-rising : (fat : ℕ → ℕ) (k n : ℕ) → rising_from k (along fat true (k + 1) n) ≡ true
unfolding rising_from along after
run-rising fat k zero = refl
run-rising fat k (suc n) = rw (eq-eqb (k + 1) (k + 1) refl) (run-rising fat (k + 1) n)

pub part_record_lem : (fat : ℕ → ℕ) (a : Allocation) (n : ℕ)
    → part_record a.first n (kept_part fat a.no_fat_chain a.first n) ≡ kept_record a (along fat a.no_fat_chain a.first n)
unfolding part_record kept_part kept_record along last_or
part_record_lem fat a zero = refl
part_record_lem fat a (suc n) = rw (ne_eqb (suc n) 0 (λ z. omega arith)) (λ i. record {
  first = a.first;
  last = last_or a.first ks;
  count = suc (sym (length-along fat a.no_fat_chain (after fat a.no_fat_chain a.first) n) i);
  no_fat_chain = flag a.no_fat_chain refl i;
})
  where
    ks : List ℕ
    ks = along fat a.no_fat_chain (after fat a.no_fat_chain a.first) n

    flag : (b : Bool) → a.no_fat_chain ≡ b → rising (a.first ∷ ks) ≡ a.no_fat_chain || rising (a.first ∷ ks)
    flag true e = rw e (unfold rising in (unfold after in (run-rising fat a.first n)))
    flag false e = rw e refl

-- ---- the two parts of a stream that is read

module _ (y : Layout) (d : List ℕ) (a : Allocation) (keep : ℕ) where
  abbrev pub kept_of : List ℕ
  kept_of = along (fat_entry y d) a.no_fat_chain a.first keep

  abbrev pub freed_of : List ℕ
  freed_of = along (fat_entry y d) a.no_fat_chain (reached (fat_entry y d) a.no_fat_chain a.first keep) (a.count - keep)

  -- the volume after the first `keep` clusters have their end and the others are freed
  abbrev pub cut_volume : List ℕ
  cut_volume = free_all y (end_kept y d a (take keep (clusters_in y d a))) (drop keep (clusters_in y d a))

module _ (y : Layout) (d : List ℕ) (a : Allocation) (keep : ℕ) (l : Laid y) (h : keep ≤ a.count) (e : number_of (stream_of y d a) ≡ 0) where
  parts : clusters_of (stream_of y d a) ≡ kept_of y d a keep ++ freed_of y d a keep
  parts =
      let n : a.count ≡ keep + (a.count - keep) = omega arith in
      (stream_read y d a e).goes
      ∙ ap (along (fat_entry y d) a.no_fat_chain a.first) n
      ∙ along_split (fat_entry y d) a.no_fat_chain a.first keep (a.count - keep)

  kept_length : length (kept_of y d a keep) ≡ keep
  kept_length = length-along (fat_entry y d) a.no_fat_chain a.first keep

  pub kept_is : take keep (clusters_of (stream_of y d a)) ≡ kept_of y d a keep
  kept_is =
      ap (take keep) parts
      ∙ ap (λ (n : ℕ). take n (kept_of y d a keep ++ freed_of y d a keep)) (sym kept_length)
      ∙ take-append_seam (kept_of y d a keep) (freed_of y d a keep)

  pub freed_is : drop keep (clusters_of (stream_of y d a)) ≡ freed_of y d a keep
  freed_is =
      ap (drop keep) parts
      ∙ ap (λ (n : ℕ). drop n (kept_of y d a keep ++ freed_of y d a keep)) (sym kept_length)
      ∙ drop-append_seam (kept_of y d a keep) (freed_of y d a keep)

  -- 9 among them, as the code asks for it
  pub freed_system : (m : List ℕ) (k : ℕ) → k ≡ reached (fat_entry y d) a.no_fat_chain a.first keep
      → system_cause m (along (fat_entry y d) a.no_fat_chain k (a.count - keep)) ≡ system_cause m (drop keep (clusters_in y d a))
  unfolding clusters_in
  freed_system m k n = rw n (ap (system_cause m) (sym freed_is))

  whole_heap : every (in_heap y.count) (kept_of y d a keep ++ freed_of y d a keep) ≡ true
  whole_heap = ap (every (in_heap y.count)) (sym parts) ∙ (stream_read y d a e).heap

  pub kept_heap : every (in_heap y.count) (kept_of y d a keep) ≡ true
  kept_heap =
      mem_every (in_heap y.count) (kept_of y d a keep)
      (λ k m. every_mem (in_heap y.count) (kept_of y d a keep ++ freed_of y d a keep) whole_heap k (mem_left (freed_of y d a keep) m))

  pub freed_heap : every (in_heap y.count) (freed_of y d a keep) ≡ true
  freed_heap =
      mem_every (in_heap y.count) (freed_of y d a keep)
      (λ k m. every_mem (in_heap y.count) (kept_of y d a keep ++ freed_of y d a keep) whole_heap k (mem_right (kept_of y d a keep) m))

  pub whole_distinct : Distinct (kept_of y d a keep ++ freed_of y d a keep)
  whole_distinct =
      subst Distinct parts
      (read_distinct y.count (fat_entry y d) (marked y d) a (let n = l.count_high in omega arith) (clusters_of (stream_of y d a)) (stream_read y d a e))

  pub freed_distinct : Distinct (freed_of y d a keep)
  freed_distinct = distinct_right (kept_of y d a keep) (freed_of y d a keep) whole_distinct

  -- the freed ones are read as before once the kept ones have their end
  module _ (z : Apart y) (len : length d ≡ y.len) (d' : List ℕ) (q : d' ≡ end_kept y d a (kept_of y d a keep)) where
    ended : (j : ℕ) → Mem j (freed_of y d a keep) → fat_entry y d' j ≡ fat_entry y d j
    ended j m =
        rw q
        (end_case y d a (λ x. fat_entry y x j ≡ fat_entry y d j) (kept_of y d a keep) refl
        (λ c cs p t.
        let i : Mem (last_or c cs) (kept_of y d a keep) = subst (Mem (last_or c cs)) (sym p) (last_in c cs) in
        fat_fat_other y d (record { laid = l; apart = z; long = len }) (last_or c cs) END j
        (in_heap_lem y.count (last_or c cs) (every_mem (in_heap y.count) (kept_of y d a keep) kept_heap (last_or c cs) i)).1
        (in_heap_lem y.count j (every_mem (in_heap y.count) (freed_of y d a keep) freed_heap j m)).1
        (λ r. distinct_apart (kept_of y d a keep) (freed_of y d a keep) whole_distinct j (subst (λ (x : ℕ). Mem x (kept_of y d a keep)) (sym r) i) m)))

    freed_same : along (fat_entry y d') a.no_fat_chain (reached (fat_entry y d) a.no_fat_chain a.first keep) (a.count - keep) ≡ freed_of y d a keep
    freed_same =
        along_cong (fat_entry y d) (fat_entry y d') a.no_fat_chain (reached (fat_entry y d) a.no_fat_chain a.first keep) (a.count - keep) ended

    module _ (k : ℕ) (n : k ≡ reached (fat_entry y d) a.no_fat_chain a.first keep) where
      pub left_same : along (fat_entry y d') a.no_fat_chain k (a.count - keep) ≡ freed_of y d a keep
      left_same = ap (λ (x : ℕ). along (fat_entry y d') a.no_fat_chain x (a.count - keep)) n ∙ freed_same

      pub left_heap : every (in_heap y.count) (along (fat_entry y d') a.no_fat_chain k (a.count - keep)) ≡ true
      left_heap = ap (every (in_heap y.count)) left_same ∙ freed_heap

      pub left_distinct : Distinct (along (fat_entry y d') a.no_fat_chain k (a.count - keep))
      left_distinct = subst Distinct (sym left_same) freed_distinct

      -- freed, they leave the volume of the cut
      pub left_cut : free_all y d' (along (fat_entry y d') a.no_fat_chain k (a.count - keep)) ≡ cut_volume y d a keep
      unfolding clusters_in
      left_cut =
          ap (free_all y d') (left_same ∙ sym freed_is)
          ∙ ap (λ (x : List ℕ). free_all y x (drop keep (clusters_of (stream_of y d a)))) (q ∙ ap (end_kept y d a) (sym kept_is))

-- an empty record's, of which nothing is kept
cut-none : (y : Layout) (d : List ℕ) (a : Allocation) (keep : ℕ) → keep ≡ 0 → a.count ≡ 0 → cut_volume y d a keep ≡ d
unfolding clusters_in stream_of free_all end_kept
cut-none y d a keep k n = rw (k, stream_empty y.count (fat_entry y d) (marked y d) a n) refl

-- ---- what the call answers and leaves

module _ (y : Layout) (d m : List ℕ) (a : Allocation) (keep hint : ℕ) where
  pub shrink_by : (idle : Bool) (n : ℕ) → leb a.count keep ≡ idle
      → first_cause (heap_cause y.count hint ∷ cond idle 0 (shrink_cause y d m a keep) ∷ []) ≡ n
      → shrink_in y d m a keep hint ≡ cond (eqb n 0) (cond idle (unchanged 0 a hint d) (cut y d a keep hint)) (unchanged n a hint d)
  unfolding shrink_in
  shrink_by idle n p q = rw (p, q) refl

  shown_refused : (n : ℕ) (o : Outcome) → o ≡ unchanged n a hint d → Shown o (record { number = n; allocation = a; hint = hint }) d
  shown_refused n o e = rw e (refl, refl)

  pub shrink_hint : in_heap y.count hint ≡ false → Shown (shrink_in y d m a keep hint) (record { number = 2; allocation = a; hint = hint }) d
  shrink_hint h =
      let c = heap_met y.count hint h in
      shown_refused 2 (shrink_in y d m a keep hint) (shrink_by (leb a.count keep) 2 refl (cause_met _ _ (λ z. omega arith) ∙ c))

  module _ (h : in_heap y.count hint ≡ true) where
    only_cause : (c : ℕ) → first_cause (heap_cause y.count hint ∷ c ∷ []) ≡ c
    only_cause c = cause_skip _ _ (heap_kept y.count hint h) ∙ cause_last c

    pub shrink_idle : a.count ≤ keep → Shown (shrink_in y d m a keep hint) (record { number = 0; allocation = a; hint = hint }) d
    shrink_idle l = shown_refused 0 (shrink_in y d m a keep hint) (shrink_by true 0 (le-leb a.count keep l) (only_cause 0))

    module _ (l : keep < a.count) where
      refused_by : (n : ℕ) → n ≢ 0 → shrink_cause y d m a keep ≡ n → Shown (shrink_in y d m a keep hint) (record { number = n; allocation = a; hint = hint }) d
      refused_by n z e =
          shown_refused n (shrink_in y d m a keep hint)
          (shrink_by false n (lt-leb a.count keep l) (only_cause (shrink_cause y d m a keep) ∙ e) ∙ rw (ne_eqb n 0 z) refl)

      pub shrink_refused : (n : ℕ) → n ≡ number_of (stream_of y d a) → n ≢ 0
          → Shown (shrink_in y d m a keep hint) (record { number = n; allocation = a; hint = hint }) d
      shrink_refused n e z = refused_by n z (unfold shrink_cause in (cause_met _ _ (λ q. z (e ∙ q)) ∙ sym e))

      module _ (e : number_of (stream_of y d a) ≡ 0) where
        system_is : shrink_cause y d m a keep ≡ system_cause m (drop keep (clusters_in y d a))
        unfolding shrink_cause clusters_in
        system_is = cause_skip _ _ e ∙ cause_last _

        pub shrink_system : (n : ℕ) → n ≡ system_cause m (drop keep (clusters_in y d a)) → n ≢ 0
            → Shown (shrink_in y d m a keep hint) (record { number = n; allocation = a; hint = hint }) d
        shrink_system n q z = refused_by n z (system_is ∙ sym q)

        module _ (q : system_cause m (drop keep (clusters_in y d a)) ≡ 0) where
          is_cut : shrink_in y d m a keep hint ≡ cut y d a keep hint
          is_cut = shrink_by false 0 (lt-leb a.count keep l) (only_cause (shrink_cause y d m a keep) ∙ system_is ∙ q)

          pub shrink_done : Laid y
              → Shown (shrink_in y d m a keep hint)
              (record { number = 0; allocation = part_record a.first keep (kept_part (fat_entry y d) a.no_fat_chain a.first keep); hint = hint })
              (cut_volume y d a keep)
          unfolding cut clusters_in
          shrink_done w = rw (is_cut, kept_is y d a keep w (omega arith) e, part_record_lem (fat_entry y d) a keep) (refl, refl)

    -- what it leaves where nothing refuses it: the cut, also of an empty record, of which nothing is kept
    pub shrink_cut : (0 < keep → keep < a.count) → number_of (stream_of y d a) ≡ 0 → system_cause m (drop keep (clusters_in y d a)) ≡ 0
        → (shrink_in y d m a keep hint).volume ≡ cut_volume y d a keep
    unfolding cut clusters_in
    shrink_cut l e q =
        elim (dec_lt keep a.count) [
          | yes h ↦ ap (λ (o : Outcome). o.volume) (is_cut h e q)
          | no h ↦ sym (shrink_idle (omega arith)).1 ∙ sym (cut-none y d a keep (keep-none h) (let z = keep-none h in omega arith))
        ]
      where
        keep-none : (keep < a.count → ⊥) → keep ≡ 0
        keep-none h =
            elim (dec_lt 0 keep) [
              | yes z ↦ absurd (h (l z))
              | no z ↦ omega arith
            ]

module _ (g : Geometry) (d m : List ℕ) (a : Allocation) (keep hint : ℕ) where
  pub shrink_is : (y : Layout) → Admits g d m y → shrink_clusters g d m a keep hint ≡ shrink_in y d m a keep hint
  unfolding shrink_clusters
  shrink_is y w = rw (w.cause, w.is) refl

  pub shrink_not-admitted : (k : ℕ) → k ≡ admit_cause g d m → (k ≡ 0 → ⊥)
      → Shown (shrink_clusters g d m a keep hint) (record { number = k; allocation = a; hint = hint }) d
  unfolding shrink_clusters
  shrink_not-admitted k e z = rw (← e, ne_eqb k 0 z) (refl, refl)
