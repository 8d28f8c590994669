-- What extend answers and leaves. Assumes nothing.
use mathlib.Core.Path.{ap₂}
use Rattle.std.specs.Prelude.{Result, Ok, Err}
use Rattle.std.proofs.Common.{◌≡◌, ℕ, zero, suc, ◌+◌, ◌-◌, ◌<◌, ◌≤◌, Bool, true, false, ◌&&◌, eqb, leb, ◌≢◌, List, length, take, sym, refl, ap, ◌∙◌, subst, arith, eq-eqb, ne_eqb, eqb-true, le-leb, leb-true}
use native.Mathlib.Decide.{dec_lt}
use borrow.Author.Tests.{eqb-false}
use Rattle.tables.specs.Count.{count}
use Rattle.tables.specs.Lists.{Mem, last_or, consec}
use Rattle.tables.proofs.ListLaws.{every_mem, consec_in, last_of}
use Rattle.boot.specs.declared.cause.Cause.{Cause}
use Rattle.boot.specs.declared.geometry.Geometry.{Geometry}
use Rattle.boot.specs.declared.layout.Layout.{Layout}
use Rattle.boot.specs.Internal.{Laid, Apart}
use Rattle.boot.specs.Layout.{in_heap}
use Rattle.boot.specs.Causes.{first_cause, admit_cause, wrap}
use Rattle.boot.proofs.CauseLaws.{cause-not0, heap_met, heap_kept}
use Rattle.boot.proofs.Admission.{Admits}
use Rattle.boot.proofs.Apart.{in_heap_lem, heap_in}
use Rattle.tables.proofs.Cases.{and_left, and_right}
use Rattle.tables.proofs.CountLaws.{count_cong}
use Rattle.metadata.specs.Fat.{END, fat_entry, set_fat}
use Rattle.metadata.specs.Marks.{marked, free_count}
use Rattle.metadata.specs.Usable.{is_usable}
use Rattle.stream.specs.declared.allocation.Allocation.{Allocation}
use Rattle.stream.specs.Stream.{number_of, stream_of, clusters_of, empty}
use Rattle.stream.specs.Internal.{along}
use Rattle.stream.proofs.StreamLaws.{length-along, consec-along, last_consec}
use Rattle.stream.proofs.ListingLaws.{stream_read}
use Rattle.metadata.proofs.Frame.{Fits, fits_kept, length_fat, mark_fat}
use Rattle.metadata.proofs.Counting.{usable_fat_marked, usable_free, usable_count}
use Rattle.choice.specs.declared.choice.Choice.{Choice}
use Rattle.choice.specs.declared.choice.Choice.TheVariants.{Run, Scattered, TooFew}
use Rattle.search.specs.Search.{all_from}
use Rattle.choice.specs.Choice.{choose, around, begin_of, chosen}
use Rattle.write_alloc.specs.declared.answer.Updated.{Updated}
use Rattle.write_alloc.specs.Take.{link_run, take_each}
use Rattle.write_alloc.specs.Internal.{prev_ok}
use Rattle.write_alloc.specs.Outcome.{Answer, Outcome, answer_of, unchanged}
use Rattle.write_alloc.specs.Allocate.{allocate_in}
use Rattle.write_extend.specs.Extend.{more_cause, in_place, link_old, longer_run, longer_chain, longer, or_given, extend_in, extend_clusters}
use Rattle.write_extend.specs.Internal.{Allowed}
use Rattle.write_alloc.proofs.AllocateLaws.{space_met, space_kept, wrap_low, wrap_high, prev_heap, Shown, shown_as}
use Rattle.choice.proofs.ChoiceLaws.{few_count, choose_inside, around_cong, length-chosen}
use Rattle.write_alloc.proofs.TakeLaws.{length-link_run}

-- ---- what refuses it

module _ (y : Layout) (d m : List ℕ) (a : Allocation) (n : ℕ) where
  pub more_heap : y.count < a.count + n → more_cause y d m a n ≡ 7
  unfolding more_cause first_cause
  more_heap h = rw (space_met (a.count + n) y.count h) refl

  pub more_free : a.count + n ≤ y.count → free_count y d < n → more_cause y d m a n ≡ 7
  unfolding more_cause first_cause
  more_free h f = rw (space_kept (a.count + n) y.count h, space_met n (free_count y d) f) refl

  pub more_record : (r : ℕ) → a.count + n ≤ y.count → n ≤ free_count y d → r ≡ number_of (stream_of y d a) → (r ≡ 0 → ⊥) → more_cause y d m a n ≡ r
  unfolding more_cause first_cause
  more_record r h f e z =
      rw (space_kept (a.count + n) y.count h, space_kept n (free_count y d) f, ne_eqb (number_of (stream_of y d a)) 0 (λ q. z (e ∙ q))) (sym e)

  usables_free : count (is_usable y d m) 2 y.count ≤ free_count y d
  usables_free = unfold usable_count in (usable_free y d m)

  -- fewer usable than wanted are 7, whether the free count has as many or not
  pub more_few : (r : ℕ) → a.count + n ≤ y.count → r ≡ number_of (stream_of y d a) → r ≡ 0
      → count (is_usable y d m) 2 y.count < n → more_cause y d m a n ≡ 7
  unfolding more_cause first_cause
  more_few r h e z w =
      elim (dec_lt (free_count y d) n) [
        | yes f ↦ more_free h f
        | no f ↦ rw (
          space_kept (a.count + n) y.count h,
          space_kept n (free_count y d) (omega arith),
          eq-eqb (number_of (stream_of y d a)) 0 (sym e ∙ z),
          space_met n (count (is_usable y d m) 2 y.count) w,
        ) refl
      ]

  pub more_none : (r : ℕ) → a.count + n ≤ y.count → r ≡ number_of (stream_of y d a) → r ≡ 0
      → n ≤ count (is_usable y d m) 2 y.count → more_cause y d m a n ≡ 0
  unfolding more_cause first_cause
  more_none r h e z w =
      rw (
        space_kept (a.count + n) y.count h,
        space_kept n (free_count y d) (omega (arith, usables_free)),
        eq-eqb (number_of (stream_of y d a)) 0 (sym e ∙ z),
        space_kept n (count (is_usable y d m) 2 y.count) w,
      ) refl

  -- and where nothing does
  pub allowed_of : more_cause y d m a n ≡ 0 → Allowed y d m a n
  allowed_of e =
      elim (dec_lt y.count (a.count + n)) [
        | yes h ↦ absurd (seven (sym (more_heap h) ∙ e))
        | no h ↦ (elim (dec_lt (free_count y d) n) [
          | yes f ↦ absurd (seven (sym (more_free (omega arith) f) ∙ e))
          | no f ↦ by (omega arith) (omega arith) (eqb (number_of (stream_of y d a)) 0) refl
        ])
      ]
    where
      seven : ◌≡◌ {A = ℕ} 7 0 → ⊥
      seven z = omega arith

      by : a.count + n ≤ y.count → n ≤ free_count y d → (b : Bool) → eqb (number_of (stream_of y d a)) 0 ≡ b → Allowed y d m a n
      by h f true q =
          elim (dec_lt (count (is_usable y d m) 2 y.count) n) [
            | yes w ↦ absurd (seven (sym (more_few (number_of (stream_of y d a)) h refl (eqb-true (number_of (stream_of y d a)) 0 q) w) ∙ e))
            | no w ↦ record { room = h; reads = eqb-true (number_of (stream_of y d a)) 0 q; enough = omega arith }
          ]
      by h f false q =
          let z = eqb-false (number_of (stream_of y d a)) 0 q in
          absurd (z (sym (more_record (number_of (stream_of y d a)) h f refl z) ∙ e))

  -- ---- the next clusters of a run

  pub place_usable : a.no_fat_chain ≡ true → a.last + 1 + n ≤ y.count + 2 → in_place y d m a n ≡ all_from (is_usable y d m) (a.last + 1) n
  unfolding in_place
  place_usable e h = rw (e, le-leb (a.last + 1 + n) (y.count + 2) h) refl

pub link-chain : (y : Layout) (d : List ℕ) (a : Allocation) → a.no_fat_chain ≡ false → link_old y d a ≡ d
unfolding link_old
link-chain y d a e = rw e refl

pub link-run : (y : Layout) (d : List ℕ) (a : Allocation) → a.no_fat_chain ≡ true
    → link_old y d a ≡ set_fat y (link_run y d a.first (a.count - 1)) a.last END
unfolding link_old
link-run y d a e = rw e refl

-- ---- the end of a record that reads

pub record LastOf (y : Layout) (d : List ℕ) (a : Allocation) : Type 0 where
  pub heap : in_heap y.count a.last ≡ true
  pub mark : marked y d a.last ≡ true
  pub run_end : a.no_fat_chain ≡ true → a.first + a.count ≡ a.last + 1
  pub run_marks : a.no_fat_chain ≡ true → (j : ℕ) → a.first ≤ j → j < a.first + a.count → marked y d j ≡ true

pub tail_of : (y : Layout) (d : List ℕ) (a : Allocation) → number_of (stream_of y d a) ≡ 0 → 1 ≤ a.count → LastOf y d a
tail_of y d a e h =
    let r = stream_read y d a e in
    let ks = clusters_of (stream_of y d a) in
    let n : length ks ≡ a.count = ap length r.goes ∙ length-along (fat_entry y d) a.no_fat_chain a.first a.count in
    let z : a.count ≡ 0 → ⊥ = λ q. omega arith in
    let i : Mem (last_or 0 ks) ks = last_of 0 ks (omega arith) in
    let w : a.no_fat_chain ≡ true → ks ≡ consec a.first a.count =
    λ t. r.goes ∙ ap (λ (b : Bool). along (fat_entry y d) b a.first a.count) t ∙ sym (consec-along (fat_entry y d) a.first a.count) in
    record {
      heap = ap (in_heap y.count) (sym (r.last z 0)) ∙ every_mem (in_heap y.count) ks r.heap (last_or 0 ks) i;
      mark = ap (marked y d) (sym (r.last z 0)) ∙ every_mem (marked y d) ks r.marks (last_or 0 ks) i;
      run_end = λ t. omega (arith, last_consec 0 a.first a.count z, ap (last_or 0) (w t), r.last z 0);
      run_marks = λ t j l b. every_mem (marked y d) ks r.marks j (subst (Mem j) (sym (w t)) (consec_in a.first a.count j l b));
    }

-- ---- linking marked clusters leaves what is marked and what is usable

module _ (y : Layout) (m : List ℕ) where
  links_kept : (n k : ℕ) (d : List ℕ) → Fits y d → k + n ≤ y.count + 2 → ((j : ℕ) → k ≤ j → j < k + n → marked y d j ≡ true)
      → (j : ℕ) → j < y.count + 2
      → (is_usable y (link_run y d k n) m j ≡ is_usable y d m j) × (marked y (link_run y d k n) j ≡ marked y d j)
  unfolding link_run
  links_kept zero k d w h i j b = (refl, refl)
  links_kept (suc n) k d w h i j b =
      let d' = set_fat y d k (k + 1) in
      let r = links_kept n (k + 1) d' (fits_kept y d d' (length_fat y d k (k + 1)) w) (omega arith)
      (λ q l u. mark_fat y d w k (k + 1) q (omega arith) ∙ i q (omega arith) (omega arith)) j b in (
        r.0 ∙ usable_fat_marked y d w m k (k + 1) j (omega arith) (i k (omega arith) (omega arith)) b,
        r.1 ∙ mark_fat y d w k (k + 1) j (omega arith),
      )

  module _ (d : List ℕ) (a : Allocation) (w : Fits y d) (t : LastOf y d a) (some : 1 ≤ a.count) where
    last_small : a.last < y.count + 2
    last_small = (in_heap_lem y.count a.last t.heap).1

    pub old_kept : (j : ℕ) → j < y.count + 2 → (is_usable y (link_old y d a) m j ≡ is_usable y d m j) × (marked y (link_old y d a) j ≡ marked y d j)
    old_kept j b = by a.no_fat_chain refl
      where
        by : (r : Bool) → a.no_fat_chain ≡ r → (is_usable y (link_old y d a) m j ≡ is_usable y d m j) × (marked y (link_old y d a) j ≡ marked y d j)
        by false e = rw (link-chain y d a e) (refl, refl)
        by true e =
            let f = t.run_end e in
            let h = in_heap_lem y.count a.last t.heap in
            let d' = link_run y d a.first (a.count - 1) in
            let fits' = fits_kept y d d' (length-link_run y d a.first (a.count - 1)) w in
            let r = links_kept (a.count - 1) a.first d w (omega arith) (λ q l u. t.run_marks e q l (omega arith)) in
            rw (link-run y d a e) (
              usable_fat_marked y d' fits' m a.last END j h.1 ((r a.last h.1).1 ∙ t.mark) b ∙ (r j b).0,
              mark_fat y d' fits' a.last END j h.1 ∙ (r j b).1,
            )

    pub length-old : length (link_old y d a) ≡ length d
    length-old = by a.no_fat_chain refl
      where
        by : (r : Bool) → a.no_fat_chain ≡ r → length (link_old y d a) ≡ length d
        by false e = ap length (link-chain y d a e)
        by true e =
            ap length (link-run y d a e) ∙ length_fat y (link_run y d a.first (a.count - 1)) a.last END
            ∙ length-link_run y d a.first (a.count - 1)

-- ---- the outcomes

pub wrap_heap : (C k : ℕ) → 1 ≤ C → 2 ≤ k → in_heap C (wrap C k) ≡ true
wrap_heap C k c l =
    elim (dec_lt k (C + 2)) [
      | yes h ↦ ap (in_heap C) (wrap_low C k h) ∙ heap_in C k l h
      | no h ↦ ap (in_heap C) (wrap_high C k (omega arith)) ∙ heap_in C 2 (omega arith) (omega arith)
    ]

module _ (y : Layout) (d m : List ℕ) (a : Allocation) (n : ℕ) (l : Laid y) (x : Apart y) (long : length d ≡ y.len) (some : 1 ≤ a.count) (one : 1 ≤ n)
    (ok : Allowed y d m a n) where
  tail : LastOf y d a
  tail = tail_of y d a ok.reads some

  fits : Fits y d
  fits = record { laid = l; apart = x; long = long }

  same : (k : ℕ) → in_heap y.count k ≡ true → is_usable y (link_old y d a) m k ≡ is_usable y d m k
  same k h = (old_kept y m d a fits tail some k (in_heap_lem y.count k h).1).0

  pub start_in : in_heap y.count (wrap y.count (a.last + 1)) ≡ true
  start_in = let c = l.count_low in wrap_heap y.count (a.last + 1) c (omega (arith, (in_heap_lem y.count a.last tail.heap).0))

  not_few : choose (is_usable y d m) y.count n (wrap y.count (a.last + 1)) ≢ TooFew
  not_few q = let h = few_count (is_usable y d m) y.count n (wrap y.count (a.last + 1)) q in let e = ok.enough in omega arith

  -- where the search begins lies in the heap
  pub begin_heap : (c : Choice) → c ≡ choose (is_usable y d m) y.count n (wrap y.count (a.last + 1))
      → (2 ≤ begin_of c (wrap y.count (a.last + 1))) × (begin_of c (wrap y.count (a.last + 1)) < y.count + 2)
  begin_heap (Run k) e =
      let s = in_heap_lem y.count (wrap y.count (a.last + 1)) start_in in
      let i = choose_inside (is_usable y d m) y.count n (wrap y.count (a.last + 1)) s.0 k (sym e) in
      (i.0, omega arith)
  begin_heap Scattered e = in_heap_lem y.count (wrap y.count (a.last + 1)) start_in
  begin_heap TooFew e = absurd (not_few (sym e))

  -- after the old clusters are linked the same clusters are usable
  pub old_ready : (e : List ℕ) → e ≡ link_old y d a
      → (prev_ok y e a.last ≡ true) × (n ≤ count (is_usable y e m) 2 y.count) × (length e ≡ y.len)
  old_ready e q =
      let h = in_heap_lem y.count a.last tail.heap in
      rw q (
        prev_heap y (link_old y d a) a.last tail.heap ((old_kept y m d a fits tail some a.last h.1).1 ∙ tail.mark),
        rw (count_cong (is_usable y d m) (is_usable y (link_old y d a) m) 2 y.count (λ k p r. same k (heap_in y.count k p (omega arith)))) ok.enough,
        length-old y m d a fits tail some ∙ long,
      )

  pub chain_more : (c : Choice) (from last hint : ℕ) (e e' : List ℕ) → c ≡ choose (is_usable y d m) y.count n (wrap y.count (a.last + 1))
      → from ≡ begin_of c (wrap y.count (a.last + 1)) → e ≡ link_old y d a
      → e' ≡ set_fat y (take_each y e a.last (take n (around (is_usable y e m) y.count from))) last END
      → last ≡ last_or a.last (take n (around (is_usable y e m) y.count from)) → hint ≡ wrap y.count (last + 1)
      → Shown (longer_chain y d a (chosen (is_usable y d m) y.count n (wrap y.count (a.last + 1))))
      (record { number = 0; allocation = record { first = a.first; last = last; count = a.count + n; no_fat_chain = false }; hint = hint }) e'
  unfolding longer_chain
  chain_more c from last hint e e' p q r s t v =
      let start = wrap y.count (a.last + 1) in
      let st = in_heap_lem y.count start start_in in
      let ks = chosen (is_usable y d m) y.count n start in
      let b = begin_heap c p in
      let k : take n (around (is_usable y e m) y.count from) ≡ ks =
      rw (r, q) (ap (take n) (around_cong (is_usable y d m) (is_usable y (link_old y d a) m) y.count n start st.0 same (begin_of c start) b.0 (omega arith)) ∙ chosen_at c p) in
      let len : length ks ≡ n = length-chosen (is_usable y d m) y.count n start st.0 (omega arith) not_few in
      let z : last ≡ last_or a.last ks = t ∙ ap (last_or a.last) k in (
        rw (len, ← z) (ap (λ (h : ℕ). record { number = 0; allocation = record { first = a.first; last = last; count = a.count + n; no_fat_chain = false }; hint = h }) v),
        s ∙ rw (k, r, ← z) refl,
      )
    where
      chosen_at : (c : Choice) → c ≡ choose (is_usable y d m) y.count n (wrap y.count (a.last + 1))
          → take n (around (is_usable y d m) y.count (begin_of c (wrap y.count (a.last + 1)))) ≡ chosen (is_usable y d m) y.count n (wrap y.count (a.last + 1))
      chosen_at c p = unfold chosen in (ap (λ (b : Choice). take n (around (is_usable y d m) y.count (begin_of b (wrap y.count (a.last + 1))))) p)

  -- ---- a run in place, or a chain

  pub place_facts : in_place y d m a n ≡ true → a.last + 1 + n ≤ y.count + 2
  unfolding in_place
  place_facts e =
      let r = a.no_fat_chain in
      let h = leb (a.last + 1 + n) (y.count + 2) in
      let u = all_from (is_usable y d m) (a.last + 1) n in
      leb-true _ _ (and_left h u (and_right r (h && u) e))

  pub last_facts : (1 ≤ a.last) × (a.last < y.count + 2) × (n ≤ y.count) × (a.no_fat_chain ≡ true → a.first + a.count ≤ y.count + 2)
  last_facts =
      let h = in_heap_lem y.count a.last tail.heap in
      let r = ok.room in
      (omega arith, h.1, omega arith, λ t. (let e = tail.run_end t in omega arith))

module _ (y : Layout) (d m : List ℕ) (a : Allocation) (n : ℕ) where
  pub longer_in : in_place y d m a n ≡ true → longer y d m a n ≡ longer_run y d a n
  unfolding longer
  longer_in e = rw e refl

  pub longer_out : in_place y d m a n ≡ false
      → longer y d m a n ≡ longer_chain y d a (chosen (is_usable y d m) y.count n (wrap y.count (a.last + 1)))
  unfolding longer
  longer_out e = rw e refl

-- ---- the whole call

pub given-done : (a : Allocation) (o : Outcome) → o.answer.number ≡ 0 → or_given a o ≡ o
given-done a o e = rw (eq-eqb o.answer.number 0 e) refl

pub given_refused : (a : Allocation) (o : Outcome) → (o.answer.number ≡ 0 → ⊥)
    → or_given a o ≡ unchanged o.answer.number a o.answer.hint o.volume
given_refused a o n = rw (ne_eqb o.answer.number 0 n) refl

-- where an allocation answers with the empty record, extend answers with the one it was given
pub given_of : (a : Allocation) (hint : ℕ) (r : Result Updated Cause) (o : Outcome) (e : List ℕ) → (answer_of empty hint r ≡ o.answer) × (e ≡ o.volume)
    → (answer_of a hint r ≡ (or_given a o).answer) × (e ≡ (or_given a o).volume)
given_of a hint (Ok r) o e p = shown_as (given-done a o (sym (ap (λ (x : Answer). x.number) p.0))) p
given_of a hint (Err c) o e p =
    let q = given_refused a o (λ z. cause-not0 c (ap (λ (x : Answer). x.number) p.0 ∙ z)) in
    shown_as q (ap₂ (λ (n h : ℕ). record { number = n; allocation = a; hint = h }) (ap (λ (x : Answer). x.number) p.0) (ap (λ (x : Answer). x.hint) p.0), p.1)

module _ (y : Layout) (d m : List ℕ) (a : Allocation) (n hint : ℕ) where
  pub extend_hint : in_heap y.count hint ≡ false → extend_in y d m a n hint ≡ unchanged 2 a hint d
  unfolding extend_in
  extend_hint e = rw (heap_met y.count hint e) refl

  pub extend_none : in_heap y.count hint ≡ true → n ≡ 0 → extend_in y d m a n hint ≡ unchanged 0 a hint d
  unfolding extend_in
  extend_none e z = rw (heap_kept y.count hint e, eq-eqb n 0 z) refl

  pub extend_new : in_heap y.count hint ≡ true → (n ≡ 0 → ⊥) → a.count ≡ 0 → extend_in y d m a n hint ≡ or_given a (allocate_in y d m n false 0 hint)
  unfolding extend_in
  extend_new e z c = rw (heap_kept y.count hint e, ne_eqb n 0 z, eq-eqb a.count 0 c) refl

  pub extend_longer : in_heap y.count hint ≡ true → (n ≡ 0 → ⊥) → (a.count ≡ 0 → ⊥) → more_cause y d m a n ≡ 0
      → extend_in y d m a n hint ≡ longer y d m a n
  unfolding extend_in
  extend_longer e z c w = rw (heap_kept y.count hint e, ne_eqb n 0 z, ne_eqb a.count 0 c, eq-eqb (more_cause y d m a n) 0 w) refl

  pub extend_refused : (r : ℕ) → in_heap y.count hint ≡ true → (n ≡ 0 → ⊥) → (a.count ≡ 0 → ⊥) → r ≡ more_cause y d m a n → (r ≡ 0 → ⊥)
      → extend_in y d m a n hint ≡ unchanged r a hint d
  unfolding extend_in
  extend_refused r e z c w q =
      rw (heap_kept y.count hint e, ne_eqb n 0 z, ne_eqb a.count 0 c, ne_eqb (more_cause y d m a n) 0 (λ t. q (w ∙ t)), ← w) refl

module _ (g : Geometry) (d m : List ℕ) (a : Allocation) (n hint : ℕ) where
  pub extend_is : (y : Layout) → Admits g d m y → extend_clusters g d m a n hint ≡ extend_in y d m a n hint
  unfolding extend_clusters
  extend_is y w = rw (w.cause, w.is) refl

  pub extend_not-admitted : (k : ℕ) → k ≡ admit_cause g d m → (k ≡ 0 → ⊥) → extend_clusters g d m a n hint ≡ unchanged k a hint d
  unfolding extend_clusters
  extend_not-admitted k e z = rw (← e, ne_eqb k 0 z) refl
