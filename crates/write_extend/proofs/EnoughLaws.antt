-- Extend for a record that reads: it is refused where fewer clusters are usable than wanted, and there alone. Assumes nothing.
use Rattle.std.proofs.Common.{◌≡◌, ℕ, ◌+◌, ◌<◌, ◌≤◌, Bool, true, false, ◌≢◌, List, [], ◌∷◌, length, sym, refl, ap, ◌∙◌, subst, append-nil, arith}
use native.Mathlib.Decide.{ℕ_discrete, dec_lt}
use Rattle.tables.specs.Internal.{upd_all}
use Rattle.tables.specs.Lists.{Mem, here, there, Distinct, none, every, last_or}
use Rattle.tables.specs.Count.{count}
use Rattle.tables.proofs.TableLaws.{all_same, all_other}
use Rattle.tables.proofs.ListLaws.{every_mem, last_of}
use Rattle.tables.proofs.CountLaws.{count_cong, count-all, count_split}
use Rattle.boot.specs.declared.layout.Layout.{Layout}
use Rattle.boot.specs.Layout.{in_heap}
use Rattle.boot.proofs.Apart.{in_heap_lem, heap_in}
use Rattle.metadata.specs.Fat.{fat_entry}
use Rattle.metadata.specs.Marks.{marked}
use Rattle.metadata.specs.Usable.{is_free, is_usable}
use Rattle.metadata.proofs.Frame.{Fits, small}
use Rattle.metadata.proofs.Stores.{usable-not_free, free_marked}
use Rattle.metadata.proofs.Counting.{usable_facts}
use Rattle.stream.specs.declared.allocation.Allocation.{Allocation}
use Rattle.stream.specs.Chain.{listed}
use Rattle.stream.specs.Stream.{number_of, stream_of, clusters_of}
use Rattle.stream.proofs.ListingLaws.{stream_read}
use Rattle.stream.proofs.Distinct.{read_length, read_distinct}
use Rattle.choice.specs.declared.choice.Choice.{Choice}
use Rattle.choice.specs.declared.choice.Choice.TheVariants.{Run, Scattered, TooFew}
use Rattle.choice.specs.Choice.{choose, chosen}
use Rattle.write_alloc.specs.Outcome.{Outcome, unchanged}
use Rattle.boot.specs.Causes.{wrap, space_cause}
use Rattle.write_alloc.specs.Allocate.{new_run, new_chain, new_stream, allocate_in}
use Rattle.write_extend.specs.Internal.{Allowed}
use Rattle.write_extend.specs.Extend.{in_place, longer_run, longer_chain, longer, extend_in}
use Rattle.choice.proofs.ChoiceLaws.{choose_inside, chosen_scattered, length-chosen, few_count}
use Rattle.write_alloc.proofs.AllocateLaws.{near_none, space_met, space_kept, stream_run, stream_chain, in_new}
use Rattle.write_extend.proofs.ExtendLaws.{more_heap, more_none, tail_of, wrap_heap, longer_in, longer_out, given-done, given_refused, extend_none, extend_new, extend_longer, extend_refused}
use Rattle.write_alloc.proofs.GrowLaws.{Fresh, Grown, Grows, chosen_fresh, stream_grown, allocate_few, allocate_enough}
use Rattle.write_extend.proofs.LongerLaws.{length_more, longer_grown, longer_number, extend_few}

-- ---- lists

mem_some : {k : ℕ} (ks : List ℕ) → Mem k ks → 1 ≤ length ks
mem_some (x ∷ xs) (here e) = omega arith
mem_some (x ∷ xs) (there m) = omega arith
mem_some {k = k} [] x' = elim x' [ ]

-- whether a number stands in a list
mem_dec : (k : ℕ) (ks : List ℕ) → Dec (Mem k ks)
mem_dec k [] = no (λ m. let z = mem_some [] m in omega arith)
mem_dec k (x ∷ xs) =
    elim (ℕ_discrete k x) [
      | yes e ↦ yes (here e)
      | no n ↦ (elim (mem_dec k xs) [ yes m ↦ yes (there m) | no o ↦ no (off n o) ])
    ]
  where
    off : k ≢ x → (Mem k xs → ⊥) → Mem k (x ∷ xs) → ⊥
    off n o (here e) = n e
    off n o (there m) = o m

-- distinct clusters of the heap that pass a test are no more than all that pass it
pass_few : (p : ℕ → Bool) (C : ℕ) (ks : List ℕ) → Distinct ks → every (in_heap C) ks ≡ true → every p ks ≡ true → length ks ≤ count p 2 C
pass_few p C ks d h e =
    omega (
      arith,
      count-all p 2 C ks false true d
          (λ k m. let i = in_heap_lem C k (every_mem (in_heap C) ks h k m) in (i.0, omega arith, every_mem p ks e k m)),
    )

-- ---- clusters that are taken are usable no more, and no others are

module _ (y : Layout) (d m d' : List ℕ) (a : Allocation) (old new : List ℕ) (marks : every (marked y d) old ≡ true) (g : Grown y d m d' a old new) where
  grown_usable : (k : ℕ) → in_heap y.count k ≡ true → is_usable y d' m k ≡ upd_all (is_usable y d m) new false k
  grown_usable k h =
      elim (mem_dec k new) [
        | yes i ↦ off d' (g.marks_new k i) ∙ sym (all_same (is_usable y d m) new false k i)
        | no o ↦ (elim (mem_dec k old) [
          | yes j ↦
              (let q = every_mem (marked y d) old marks k j in
              off d' (g.marks_kept k h o ∙ q) ∙ sym (all_other (is_usable y d m) new false k o ∙ off d q))
          | no u ↦ same (g.marks_kept k h o) (g.fat_kept k h u o) ∙ sym (all_other (is_usable y d m) new false k o)
        ])
      ]
    where
      off : (e : List ℕ) → marked y e k ≡ true → is_usable y e m k ≡ false
      off e q = usable-not_free y e m k (free_marked y e m k q)

      same : marked y d' k ≡ marked y d k → fat_entry y d' k ≡ fat_entry y d k → is_usable y d' m k ≡ is_usable y d m k
      same p q = unfold is_usable in (unfold is_free in (rw (p, q) refl))

  pub usable_grown : count (is_usable y d' m) 2 y.count + length new ≡ count (is_usable y d m) 2 y.count
  usable_grown =
      omega (
        arith,
        count_cong (upd_all (is_usable y d m) new false) (is_usable y d' m) 2 y.count (λ k l b. grown_usable k (heap_in y.count k l (omega arith))),
        count-all (is_usable y d m) 2 y.count new false true g.fresh.distinct
            (λ k i.
            let r = in_heap_lem y.count k (every_mem (in_heap y.count) new g.fresh.heap k i) in
            (r.0, omega arith, every_mem (is_usable y d m) new g.fresh.usable k i)),
      )

-- ---- a record that reads

module _ (y : Layout) (d m : List ℕ) (w : Fits y d) (a : Allocation) (n hint : ℕ) (reads : number_of (stream_of y d a) ≡ 0)
    (hint_in : in_heap y.count hint ≡ true) where
  abbrev usables : ℕ
  usables = count (is_usable y d m) 2 y.count

  -- its clusters are marked: those that are usable are others
  read_room : a.count + usables ≤ y.count
  read_room =
      let r = stream_read y d a reads in
      let ks = clusters_of (stream_of y d a) in
      omega (
        arith,
        read_length y.count (fat_entry y d) (marked y d) a ks r,
        pass_few (marked y d) y.count ks (read_distinct y.count (fat_entry y d) (marked y d) a (small y d w) ks r) r.heap r.marks,
        count_split (is_usable y d m) (marked y d) 2 y.count (λ k e. (usable_facts y d m k e).0),
      )

  pub grow_allowed : n ≤ count (is_usable y d m) 2 y.count → Allowed y d m a n
  grow_allowed h = record { room = omega (arith, read_room); reads = reads; enough = h }

  pub grow_longer : 1 ≤ a.count → 1 ≤ n → n ≤ count (is_usable y d m) 2 y.count → extend_in y d m a n hint ≡ longer y d m a n
  grow_longer some one h =
      extend_longer y d m a n hint hint_in (λ t. omega arith) (λ t. omega arith)
      (more_none y d m a n (number_of (stream_of y d a)) (omega (arith, read_room)) refl reads h)

  pub grow_new : a.count ≡ 0 → 1 ≤ n → n ≤ count (is_usable y d m) 2 y.count → extend_in y d m a n hint ≡ new_stream y d m n hint hint
  grow_new z one h =
      extend_new y d m a n hint hint_in (λ t. omega arith) z
      ∙ given-done a (allocate_in y d m n false 0 hint) (allocate_enough y d m w n false 0 hint one hint_in (near_none y.count false 0 refl) h)
      ∙ in_new y d m n false 0 hint hint_in (λ t. omega arith) (near_none y.count false 0 refl)

  number : (o : Outcome) → extend_in y d m a n hint ≡ o → (extend_in y d m a n hint).answer.number ≡ o.answer.number
  number o q = ap (λ (o : Outcome). o.answer.number) q

  new_number : 1 ≤ n → n ≤ usables → (new_stream y d m n hint hint).answer.number ≡ 0
  new_number one h =
      let f = near_none y.count false 0 refl in
      ap (λ (o : Outcome). o.answer.number) (sym (in_new y d m n false 0 hint hint_in (λ t. omega arith) f))
      ∙ allocate_enough y d m w n false 0 hint one hint_in f h

  -- fewer usable than wanted
  few_seven : usables < n → (extend_in y d m a n hint).answer.number ≡ 7
  few_seven h =
      elim (ℕ_discrete a.count 0) [
        | yes z ↦ empty_seven z
        | no c ↦ (elim (dec_lt y.count (a.count + n)) [
          | yes r ↦ number (unchanged 7 a hint d) (extend_refused y d m a n hint 7 hint_in (λ t. omega arith) c (sym (more_heap y d m a n r)) (λ t. omega arith))
          | no r ↦ number (unchanged 7 a hint d) (extend_few y d m w a n hint (omega arith) (omega arith) hint_in reads (omega arith) h)
        ])
      ]
    where
      empty_seven : a.count ≡ 0 → (extend_in y d m a n hint).answer.number ≡ 7
      empty_seven z =
          let o = allocate_in y d m n false 0 hint in
          let q : o.answer.number ≡ 7 =
          ap (λ (o : Outcome). o.answer.number) (allocate_few y d m w n false 0 hint (omega arith) hint_in (near_none y.count false 0 refl) h) in
          number (unchanged o.answer.number a o.answer.hint o.volume)
          (extend_new y d m a n hint hint_in (λ t. omega arith) z ∙ given_refused a o (λ t. omega arith))
          ∙ q

  enough_none : n ≤ usables → (extend_in y d m a n hint).answer.number ≡ 0
  enough_none h =
      elim (ℕ_discrete n 0) [
        | yes z ↦ number (unchanged 0 a hint d) (extend_none y d m a n hint hint_in z)
        | no z ↦ (elim (ℕ_discrete a.count 0) [
          | yes c ↦ number (new_stream y d m n hint hint) (grow_new c (omega arith) h) ∙ new_number (omega arith) h
          | no c ↦
              number (longer y d m a n) (grow_longer (omega arith) (omega arith) h)
              ∙ longer_number y d m w a n (omega arith) (omega arith) (grow_allowed h)
        ])
      ]

  read_seven : (extend_in y d m a n hint).answer.number ≡ space_cause n usables
  read_seven =
      elim (dec_lt usables n) [
        | yes h ↦ few_seven h ∙ sym (space_met n usables h)
        | no h ↦ enough_none (omega arith) ∙ sym (space_kept n usables (omega arith))
      ]

  -- ---- the hint that it answers lies in the heap

  after_heap : (k : ℕ) → 1 ≤ k → in_heap y.count (wrap y.count (k + 1)) ≡ true
  after_heap k h = wrap_heap y.count (k + 1) w.laid.count_low (omega arith)

  -- the last of clusters that may be taken
  fresh_last : (z : ℕ) (ks : List ℕ) → Fresh y d m ks → 1 ≤ length ks → 1 ≤ last_or z ks
  fresh_last z ks f h = omega (arith, (in_heap_lem y.count (last_or z ks) (every_mem (in_heap y.count) ks f.heap (last_or z ks) (last_of z ks h))).0)

  abbrev new_list : List ℕ
  new_list = chosen (is_usable y d m) y.count n hint

  not_few : n ≤ usables → choose (is_usable y d m) y.count n hint ≢ TooFew
  not_few h q = let c = few_count (is_usable y d m) y.count n hint q in omega arith

  new-length : n ≤ usables → length new_list ≡ n
  new-length h =
      let s = in_heap_lem y.count hint hint_in in
      length-chosen (is_usable y d m) y.count n hint s.0 (omega arith) (not_few h)

  new_hint : 1 ≤ n → n ≤ usables → in_heap y.count (new_stream y d m n hint hint).answer.hint ≡ true
  new_hint one h = by (choose (is_usable y d m) y.count n hint) refl
    where
      low : 2 ≤ hint
      low = (in_heap_lem y.count hint hint_in).0

      by : (c : Choice) → choose (is_usable y d m) y.count n hint ≡ c → in_heap y.count (new_stream y d m n hint hint).answer.hint ≡ true
      by (Run k) q =
          let i = choose_inside (is_usable y d m) y.count n hint low k q in
          ap (λ (o : Outcome). in_heap y.count o.answer.hint) (stream_run y d m n hint hint k q)
          ∙ (unfold new_run in (wrap_heap y.count (k + n) w.laid.count_low (omega (arith, i.0))))
      by Scattered q =
          ap (λ (o : Outcome). in_heap y.count o.answer.hint)
          (stream_chain y d m n hint hint low q ∙ ap (new_chain y d) (sym (chosen_scattered (is_usable y d m) y.count n hint low q)))
          ∙ (unfold new_chain in (after_heap (last_or 0 new_list) (fresh_last 0 new_list (chosen_fresh y d m w n hint hint_in) (omega (arith, new-length h)))))
      by TooFew q = absurd (not_few h q)

  abbrev more_list : List ℕ
  more_list = chosen (is_usable y d m) y.count n (wrap y.count (a.last + 1))

  module _ (some : 1 ≤ a.count) (one : 1 ≤ n) (h : n ≤ usables) where
    last_low : 2 ≤ a.last
    last_low = (in_heap_lem y.count a.last (tail_of y d a reads some).heap).0

    longer_hint : in_heap y.count (longer y d m a n).answer.hint ≡ true
    longer_hint = by (in_place y d m a n) refl
      where
        start_heap : in_heap y.count (wrap y.count (a.last + 1)) ≡ true
        start_heap = after_heap a.last (omega (arith, last_low))

        by : (b : Bool) → in_place y d m a n ≡ b → in_heap y.count (longer y d m a n).answer.hint ≡ true
        by true e =
            ap (λ (o : Outcome). in_heap y.count o.answer.hint) (longer_in y d m a n e)
            ∙ (unfold longer_run in (after_heap (a.last + n) (omega arith)))
        by false e =
            ap (λ (o : Outcome). in_heap y.count o.answer.hint) (longer_out y d m a n e)
            ∙ (unfold longer_chain in
            (after_heap (last_or a.last more_list)
            (fresh_last a.last more_list (chosen_fresh y d m w n (wrap y.count (a.last + 1)) start_heap) (omega (arith, length_more y d m w a n some one (grow_allowed h))))))

-- ---- the same for a record that reads as clusters ks

-- an outcome that takes n clusters after `old`, with a hint in the heap
pub record Extended (y : Layout) (d m : List ℕ) (o : Outcome) (old : List ℕ) (n : ℕ) : Type 0 where
  pub new : List ℕ
  pub many : length new ≡ n
  pub grows : Grows y d m o old new
  pub hint : in_heap y.count o.answer.hint ≡ true

-- nothing is taken
none_took : (y : Layout) (d m : List ℕ) (a : Allocation) (hint : ℕ) (ks : List ℕ) → stream_of y d a ≡ listed ks → in_heap y.count hint ≡ true
    → Extended y d m (unchanged 0 a hint d) ks 0
none_took y d m a hint ks e h = record {
  new = [];
  many = refl;
  grows = record {
    long = refl;
    reads = e ∙ ap listed (sym (append-nil ks));
    fresh = record { usable = unfold every in refl; heap = unfold every in refl; distinct = none };
    marks_new = λ k i. absurd (out i);
    marks_kept = λ _ _ _. refl;
    fat_kept = λ _ _ _ _. refl;
    bytes_kept = λ _ _ _ _. refl;
    counts = omega arith;
  };
  hint = h;
}
  where
    out : {k : ℕ} → Mem k [] → ⊥
    out i = let z = mem_some [] i in omega arith

module _ (y : Layout) (d m : List ℕ) (w : Fits y d) (a : Allocation) (ks : List ℕ) (e : stream_of y d a ≡ listed ks) (n hint : ℕ)
    (hint_in : in_heap y.count hint ≡ true) where
  reads : number_of (stream_of y d a) ≡ 0
  reads = ap number_of e ∙ (unfold number_of in refl)

  clusters : clusters_of (stream_of y d a) ≡ ks
  clusters = ap clusters_of e

  -- the number: 7 where fewer are usable than wanted, else 0
  pub extend_seven : (extend_in y d m a n hint).answer.number ≡ space_cause n (count (is_usable y d m) 2 y.count)
  extend_seven = read_seven y d m w a n hint reads hint_in

  -- and where there are enough, n are taken after those that it has
  pub extend_done : n ≤ count (is_usable y d m) 2 y.count → Extended y d m (extend_in y d m a n hint) ks n
  extend_done h =
      elim (ℕ_discrete n 0) [
        | yes z ↦ subst (λ (x : ℕ). Extended y d m (extend_in y d m a n hint) ks x) (sym z)
            (subst (λ (o : Outcome). Extended y d m o ks 0) (sym (extend_none y d m a n hint hint_in z)) (none_took y d m a hint ks e hint_in))
        | no z ↦ (elim (ℕ_discrete a.count 0) [
          | yes c ↦ subst (λ (o : Outcome). Extended y d m o ks n) (sym (grow_new y d m w a n hint reads hint_in c (omega arith) h)) (fresh_took c (omega arith))
          | no c ↦ subst (λ (o : Outcome). Extended y d m o ks n) (sym (grow_longer y d m w a n hint reads hint_in (omega arith) (omega arith) h)) (longer_took (omega arith) (omega arith))
        ])
      ]
    where
      nil : (l : List ℕ) → length l ≡ 0 → [] ≡ l
      nil [] q = refl
      nil (x ∷ xs) q = absurd (omega arith)

      fresh_took : a.count ≡ 0 → 1 ≤ n → Extended y d m (new_stream y d m n hint hint) ks n
      fresh_took c one = record {
        new = chosen (is_usable y d m) y.count n hint;
        many = new-length y d m w a n hint reads hint_in h;
        grows =
            subst (λ (l : List ℕ). Grows y d m (new_stream y d m n hint hint) l (chosen (is_usable y d m) y.count n hint))
            (nil ks (ap length (sym clusters) ∙ read_length y.count (fat_entry y d) (marked y d) a (clusters_of (stream_of y d a)) (stream_read y d a reads) ∙ c))
            (stream_grown y d m w n hint hint one hint_in (new_number y d m w a n hint reads hint_in one h));
        hint = new_hint y d m w a n hint reads hint_in one h;
      }

      longer_took : 1 ≤ a.count → 1 ≤ n → Extended y d m (longer y d m a n) ks n
      longer_took some one = record {
        new = chosen (is_usable y d m) y.count n (wrap y.count (a.last + 1));
        many = length_more y d m w a n some one (grow_allowed y d m w a n hint reads hint_in h);
        grows =
            subst (λ (l : List ℕ). Grows y d m (longer y d m a n) l (chosen (is_usable y d m) y.count n (wrap y.count (a.last + 1))))
            clusters (longer_grown y d m w a n some one (grow_allowed y d m w a n hint reads hint_in h));
        hint = longer_hint y d m w a n hint reads hint_in some one h;
      }
