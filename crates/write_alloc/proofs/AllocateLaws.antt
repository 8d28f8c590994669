-- What allocate answers and leaves. Assumes nothing.
use mathlib.Core.Path.{◌≡◌, refl, sym, ◌∙◌, ap}
use mathlib.Core.Bool.{Bool, true, false, ◌&&◌, ◌||◌, cond, false≢true}
use mathlib.Core.List.{List, [], ◌∷◌}
use Prim.Native.Nat.{ℕ, ◌+◌, ◌-◌, ◌≤◌, ◌<◌}
use native.Mathlib.Decide.{dec_lt}
use native.Mathlib.Omega.{arith}
use lib.Dec.{eqb}
use lib.ListN.{length, take, get_or}
use lib.Seq.{length-take-le, get_or-take}
use borrow.Author.Tests.{eq-eqb, ne_eqb, eqb-true, lt-ltb, le-ltb}
use Rattle.tables.specs.Lists.{here, there, last_or}
use Rattle.tables.specs.Count.{count}
use Rattle.tables.proofs.Cases.{or-true, and_left, and_right}
use Rattle.tables.proofs.ListLaws.{mem_take, last_of}
use Rattle.std.specs.Prelude.{Option, Some, None, is_some, unwrap_or}
use Rattle.boot.specs.declared.layout.Layout.{Layout}
use Rattle.boot.specs.Internal.{Laid, Apart}
use Rattle.boot.specs.Layout.{in_heap}
use Rattle.boot.proofs.Apart.{in_heap_lem, heap_in}
use Rattle.tables.proofs.CountLaws.{in_keep}
use Rattle.boot.specs.declared.geometry.Geometry.{Geometry}
use Rattle.boot.specs.Causes.{first_cause, admit_cause, heap_cause, wrap, space_cause}
use Rattle.boot.proofs.CauseLaws.{heap_met, heap_kept}
use Rattle.boot.proofs.Admission.{Admits}
use Rattle.metadata.specs.Marks.{marked, free_count}
use Rattle.metadata.specs.Fat.{END, set_fat}
use Rattle.metadata.specs.Usable.{is_usable}
use Rattle.metadata.proofs.Frame.{Fits}
use Rattle.metadata.proofs.Counting.{usable_count, usable_free}
use Rattle.choice.specs.Choice.{choose, around}
use Rattle.choice.specs.Internal.{first_usable}
use Rattle.write_alloc.specs.Take.{take_each}
use Rattle.write_alloc.specs.Internal.{prev_taken, prev_ok, taken_from, taken_of}
use Rattle.choice.specs.declared.choice.Choice.TheVariants.{Run, Scattered, TooFew}
use Rattle.write_alloc.specs.Outcome.{Answer, Outcome, unchanged}
use Rattle.stream.specs.Stream.{empty}
use Rattle.write_alloc.specs.Allocate.{near_cause, allocate_cause, new_run, new_chain, new_stream, allocate_in, allocate_clusters}
use Rattle.choice.proofs.ChoiceLaws.{length-around, in_around, chosen_scattered, count_few}
use Rattle.write_alloc.specs.declared.take.Taken.{Taken}
use Rattle.write_alloc.proofs.TakeLaws.{Before, Inside, taken_prev, taken_twice, last_twice}

pub wrap_low : (C k : ℕ) → k < C + 2 → wrap C k ≡ k
unfolding wrap
wrap_low C k h = rw (lt-ltb k (C + 2) h) refl

pub wrap_high : (C k : ℕ) → C + 2 ≤ k → wrap C k ≡ 2
unfolding wrap
wrap_high C k h = rw (le-ltb k (C + 2) h) refl

-- ---- the cluster before the first that is taken

pub record Prev (y : Layout) (d : List ℕ) (prev : ℕ) : Type 0 where
  pub taken : prev_taken y d prev ≡ true
  pub before : Before y prev
  pub small : prev < y.count + 2

pub prev_none : (y : Layout) (d : List ℕ) → prev_ok y d 0 ≡ true
unfolding prev_ok
prev_none y d = refl

pub prev_heap : (y : Layout) (d : List ℕ) (k : ℕ) → in_heap y.count k ≡ true → marked y d k ≡ true → prev_ok y d k ≡ true
unfolding prev_ok
prev_heap y d k h e = rw (h, e) (or-true (eqb k 0))

pub prev_facts : (y : Layout) (d : List ℕ) (prev : ℕ) → prev_ok y d prev ≡ true → Prev y d prev
unfolding prev_ok
prev_facts y d prev e = by (eqb prev 0) refl e
  where
    by : (b : Bool) → eqb prev 0 ≡ b → b || (in_heap y.count prev && marked y d prev) ≡ true → Prev y d prev
    by true q r =
        let z = eqb-true prev 0 q in
        record { taken = unfold prev_taken in rw q refl; before = λ n. absurd (n z); small = omega arith }
    by false q r =
        let h = and_left (in_heap y.count prev) (marked y d prev) r in
        record {
          taken = unfold prev_taken in rw (q, and_right (in_heap y.count prev) (marked y d prev) r) refl;
          before = λ _. h;
          small = (in_heap_lem y.count prev h).1;
        }

-- ---- the last of those that are taken

last_before : (y : Layout) (prev : ℕ) (ks : List ℕ) → prev < y.count + 2 → Inside y ks → last_or prev ks < y.count + 2
unfolding last_or
last_before y prev [] h i = h
last_before y prev (k ∷ ks) h i = last_before y k ks (in_heap_lem y.count k (i k (here refl))).1 (λ j m. i j (there m))

module _ (u : ℕ → Bool) (C start n : ℕ) (low : 2 ≤ start) (high : start < C + 2) where
  pub length_taken : n ≤ count u 2 C → length (take n (around u C start)) ≡ n
  length_taken h = length-take-le n (around u C start) (omega (arith, length-around u C start low (omega arith)))

  pub last_small : (z : ℕ) → 1 ≤ n → n ≤ count u 2 C → last_or z (take n (around u C start)) < C + 2
  last_small z l h =
      let m = last_of z (take n (around u C start)) (omega (arith, length_taken h)) in
      (in_heap_lem C _ (in_around u C start low (omega arith) _ (mem_take n (around u C start) m)).0).1

-- ---- usable clusters taken from a start to the end of the heap, and then from 2

module _ (y : Layout) (d m : List ℕ) (start n prev : ℕ) (l : Laid y) (x : Apart y) (long : length d ≡ y.len) (low : 2 ≤ start)
    (high : start < y.count + 2) (ok : prev_ok y d prev ≡ true) where
  fits : Fits y d
  fits = record { laid = l; apart = x; long = long }

  module _ (e : List ℕ) (t : Taken) (p : e ≡ take_each y d prev (taken_from y d m start (y.count + 2) n))
      (q : t ≡ taken_of (record { prev = prev; left = n }) (taken_from y d m start (y.count + 2) n)) where
    from_start : Inside y (taken_from y d m start (y.count + 2) n)
    from_start k i =
        let r = in_keep (is_usable y d m) start (y.count + 2 - start) k (mem_take n _ (unfold taken_from in i)) in
        heap_in y.count k (omega (arith, r.0)) (omega (arith, r.1))

    pub then_ready : (t.prev < y.count + 2) × (prev_taken y e t.prev ≡ true)
    then_ready =
        let f = prev_facts y d prev ok in
        rw (q, p) (
          last_before y prev (taken_from y d m start (y.count + 2) n) f.small from_start,
          taken_prev y m d fits prev (taken_from y d m start (y.count + 2) n) f.before from_start f.taken,
        )

    pub then_done : (e' : List ℕ) (t' : Taken) → e' ≡ take_each y e t.prev (taken_from y e m 2 start t.left)
        → t' ≡ taken_of t (taken_from y e m 2 start t.left)
        → (e' ≡ take_each y d prev (take n (around (is_usable y d m) y.count start)))
        × (t'.prev ≡ last_or prev (take n (around (is_usable y d m) y.count start)))
    then_done e' t' r s =
        let f = prev_facts y d prev ok in (
          (rw (q, p) at r) ∙ taken_twice y m d fits prev n start f.before f.taken low (omega arith),
          (rw (q, p) at (ap (λ (v : Taken). v.prev) s)) ∙ last_twice y m d fits prev n start f.before f.taken low (omega arith),
        )

-- ---- the outcomes

-- what a call that has outcome o answers and leaves
abbrev pub Shown : Outcome → Answer → List ℕ → Type 0
Shown o r d = (r ≡ o.answer) × (d ≡ o.volume)

module _ (y : Layout) (d m : List ℕ) (n start hint : ℕ) where
  pub stream_run : (k : ℕ) → choose (is_usable y d m) y.count n start ≡ Run k → new_stream y d m n start hint ≡ new_run y d k n
  unfolding new_stream
  stream_run k e = rw e refl

  pub stream_chain : 2 ≤ start → choose (is_usable y d m) y.count n start ≡ Scattered
      → new_stream y d m n start hint ≡ new_chain y d (take n (around (is_usable y d m) y.count start))
  unfolding new_stream
  stream_chain l e = rw e (ap (new_chain y d) (chosen_scattered (is_usable y d m) y.count n start l e))

  pub stream_few : choose (is_usable y d m) y.count n start ≡ TooFew → new_stream y d m n start hint ≡ unchanged 7 empty hint d
  unfolding new_stream
  stream_few e = rw e refl

pub near_given : (C : ℕ) (given : Bool) (near : ℕ) → given ≡ true → eqb (near_cause C given near) 0 ≡ in_heap C near
unfolding near_cause heap_cause
near_given C given near e = rw e (by (in_heap C near))
  where
    by : (b : Bool) → eqb (cond b 0 2) 0 ≡ b
    by true = refl
    by false = refl

pub near_none : (C : ℕ) (given : Bool) (near : ℕ) → given ≡ false → eqb (near_cause C given near) 0 ≡ true
unfolding near_cause
near_none C given near e = rw e refl

pub space_met : (wanted room : ℕ) → room < wanted → space_cause wanted room ≡ 7
unfolding space_cause
space_met wanted room h = rw (lt-ltb room wanted h) refl

pub space_kept : (wanted room : ℕ) → wanted ≤ room → space_cause wanted room ≡ 0
unfolding space_cause
space_kept wanted room h = rw (le-ltb room wanted h) refl

-- a near that is refused is refused with 2
near_two : (C : ℕ) (given : Bool) (near : ℕ) → eqb (near_cause C given near) 0 ≡ false → near_cause C given near ≡ 2
unfolding near_cause heap_cause
near_two C given near e = by given (in_heap C near) e
  where
    by : (a b : Bool) → eqb (cond a (cond b 0 2) 0) 0 ≡ false → ◌≡◌ {A = ℕ} (cond a (cond b 0 2) 0) 2
    by true true q = absurd (false≢true (sym q))
    by true false q = refl
    by false b q = absurd (false≢true (sym q))

-- a near cluster that is given, or the hint, is where the search starts
pub start_is : (near : Option ℕ) (hint : ℕ) → cond (is_some near) (unwrap_or near 0) hint ≡ unwrap_or near hint
start_is None hint = refl
start_is (Some k) hint = refl

pub near_is : (C : ℕ) (near : Option ℕ) (hint : ℕ) → in_heap C hint ≡ true
    → eqb (near_cause C (is_some near) (unwrap_or near 0)) 0 ≡ in_heap C (unwrap_or near hint)
near_is C None hint h = near_none C false 0 refl ∙ sym h
near_is C (Some k) hint h = near_given C true k refl

-- the search starts in the heap
pub start_heap : (C : ℕ) (given : Bool) (near hint : ℕ) → in_heap C hint ≡ true → eqb (near_cause C given near) 0 ≡ true
    → in_heap C (cond given near hint) ≡ true
start_heap C true near hint h e = sym (near_given C true near refl) ∙ e
start_heap C false near hint h e = h

module _ (y : Layout) (d m : List ℕ) (n : ℕ) (given : Bool) (near hint : ℕ) where
  pub in_hint : in_heap y.count hint ≡ false → allocate_in y d m n given near hint ≡ unchanged 2 empty hint d
  unfolding allocate_in first_cause
  in_hint e = rw (heap_met y.count hint e) refl

  pub in_none : in_heap y.count hint ≡ true → n ≡ 0 → allocate_in y d m n given near hint ≡ unchanged 0 empty hint d
  unfolding allocate_in first_cause
  in_none e z = rw (heap_kept y.count hint e, eq-eqb n 0 z) refl

  pub in_free : in_heap y.count hint ≡ true → (n ≡ 0 → ⊥) → free_count y d < n → allocate_in y d m n given near hint ≡ unchanged 7 empty hint d
  unfolding allocate_in first_cause allocate_cause
  in_free e z h = rw (heap_kept y.count hint e, ne_eqb n 0 z, space_met n (free_count y d) h) refl

  pub in_near : in_heap y.count hint ≡ true → (n ≡ 0 → ⊥) → n ≤ free_count y d → eqb (near_cause y.count given near) 0 ≡ false
      → allocate_in y d m n given near hint ≡ unchanged 2 empty hint d
  unfolding allocate_in first_cause allocate_cause
  in_near e z h f =
      rw (heap_kept y.count hint e, ne_eqb n 0 z, space_kept n (free_count y d) h, near_two y.count given near f) refl

  in_room : in_heap y.count hint ≡ true → (n ≡ 0 → ⊥) → n ≤ free_count y d → eqb (near_cause y.count given near) 0 ≡ true
      → allocate_in y d m n given near hint ≡ new_stream y d m n (cond given near hint) hint
  unfolding allocate_in first_cause allocate_cause
  in_room e z h f =
      let u = is_usable y d m in
      let s = start_heap y.count given near hint e f in
      let k = eqb-true (near_cause y.count given near) 0 f in
      elim (dec_lt (count u 2 y.count) n) [
        | yes w ↦ rw (heap_kept y.count hint e, ne_eqb n 0 z, space_kept n (free_count y d) h, k, space_met n (count u 2 y.count) w)
            (sym (stream_few y d m n (cond given near hint) hint (count_few u y.count n (cond given near hint) (in_heap_lem y.count (cond given near hint) s).0 w)))
        | no w ↦ rw (heap_kept y.count hint e, ne_eqb n 0 z, space_kept n (free_count y d) h, k, space_kept n (count u 2 y.count) (omega arith)) refl
      ]

  -- the free count decides only where near is refused: fewer usable clusters than n are 7 with it or without
  pub in_new : in_heap y.count hint ≡ true → (n ≡ 0 → ⊥) → eqb (near_cause y.count given near) 0 ≡ true
      → allocate_in y d m n given near hint ≡ new_stream y d m n (cond given near hint) hint
  in_new e z f =
      let s = in_heap_lem y.count (cond given near hint) (start_heap y.count given near hint e f) in
      elim (dec_lt (free_count y d) n) [
        | yes h ↦ in_free e z h
            ∙ sym (stream_few y d m n (cond given near hint) hint (count_few (is_usable y d m) y.count n (cond given near hint) s.0 (omega (arith, usables_free))))
        | no h ↦ in_room e z (omega arith) f
      ]
    where
      usables_free : count (is_usable y d m) 2 y.count ≤ free_count y d
      usables_free = unfold usable_count in (usable_free y d m)

module _ (g : Geometry) (d m : List ℕ) (n : ℕ) (given : Bool) (near hint : ℕ) where
  pub allocate_is : (y : Layout) → Admits g d m y → allocate_clusters g d m n given near hint ≡ allocate_in y d m n given near hint
  unfolding allocate_clusters
  allocate_is y w = rw (w.cause, w.is) refl

  pub allocate_not-admitted : (k : ℕ) → k ≡ admit_cause g d m → (k ≡ 0 → ⊥) → allocate_clusters g d m n given near hint ≡ unchanged k empty hint d
  unfolding allocate_clusters
  allocate_not-admitted k e z = rw (← e, ne_eqb k 0 z) refl

-- the record and the volume of a chain of n clusters
module _ (y : Layout) (d m : List ℕ) (n start : ℕ) (low : 2 ≤ start) (high : start < y.count + 2) (some : 1 ≤ n)
    (enough : n ≤ count (is_usable y d m) 2 y.count) where
  pub chain_is : (first last hint : ℕ) (e : List ℕ) → first ≡ first_usable (is_usable y d m) y.count start
      → last ≡ last_or 0 (take n (around (is_usable y d m) y.count start)) → hint ≡ wrap y.count (last + 1)
      → e ≡ set_fat y (take_each y d 0 (take n (around (is_usable y d m) y.count start))) last END
      → Shown (new_chain y d (take n (around (is_usable y d m) y.count start)))
      (record { number = 0; allocation = record { first = first; last = last; count = n; no_fat_chain = false }; hint = hint }) e
  unfolding new_chain first_usable
  chain_is first last hint e p q r s =
      let ks = take n (around (is_usable y d m) y.count start) in
      let c : length ks ≡ n = length_taken (is_usable y d m) y.count start n low high enough in
      let f : get_or ks 0 0 ≡ first = get_or-take n (around (is_usable y d m) y.count start) 0 0 (omega arith) ∙ sym p in
      (rw (c, f, ← q) (ap (λ (h : ℕ). record { number = 0; allocation = record { first = first; last = last; count = n; no_fat_chain = false }; hint = h }) r), rw (← q) s)

-- shown of one outcome, shown of an equal one
pub shown_as : {o o' : Outcome} {r : Answer} {d : List ℕ} → o ≡ o' → (r ≡ o'.answer) × (d ≡ o'.volume) → (r ≡ o.answer) × (d ≡ o.volume)
shown_as e s = (s.0 ∙ ap (λ (o : Outcome). o.answer) (sym e), s.1 ∙ ap (λ (o : Outcome). o.volume) (sym e))
