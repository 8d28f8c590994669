-- That an accepted allocation is what 01 says, from the choice to the public definition. Assumes nothing.
use mathlib.Core.Path.{◌≡◌, refl, sym, ◌∙◌, ap, subst}
use mathlib.Core.Bool.{Bool, true, false, cond, false≢true}
use mathlib.Core.List.{List, []}
use Prim.Native.Nat.{ℕ, ◌+◌, ◌≤◌, ◌<◌}
use native.Mathlib.Decide.{dec_lt}
use native.Mathlib.Omega.{arith}
use lib.Dec.{eqb}
use lib.ListN.{length, get_or}
use Rattle.tables.specs.Lists.{Mem, last_or, consec}
use Rattle.tables.proofs.Cases.{clash}
use Rattle.tables.proofs.ListLaws.{last_of}
use Rattle.boot.specs.declared.geometry.Geometry.{Geometry}
use Rattle.boot.specs.declared.layout.Layout.{Layout}
use Rattle.boot.specs.Limits.{limits}
use Rattle.boot.specs.Layout.{in_heap, layout_of}
use Rattle.boot.proofs.Admission.{Admits, limits_refused, limits_admits}
use Rattle.boot.proofs.Apart.{in_heap_lem, heap_in}
use Rattle.metadata.specs.Fat.{END, set_fat}
use Rattle.metadata.specs.Marks.{free_count, mark_run}
use Rattle.metadata.specs.Usable.{is_usable}
use Rattle.metadata.proofs.Frame.{Fits}
use Rattle.metadata.proofs.Keeps.{Own, Keeps, Went, went_none, fat_on}
use Rattle.kept.proofs.TwinKeeps.{FatTwins, BitmapTwins, fat_keeps, bitmap_keeps}
use Rattle.stream.proofs.StreamLaws.{last_consec}
use Rattle.choice.specs.declared.choice.Choice.{Choice}
use Rattle.choice.specs.declared.choice.Choice.TheVariants.{Run, Scattered, TooFew}
use Rattle.choice.specs.Choice.{choose, chosen}
use Rattle.choice_claim.specs.Picked.{Picked}
use Rattle.write_alloc.specs.Take.{take_each}
use Rattle.write_alloc.specs.Outcome.{Outcome, unchanged}
use Rattle.stream.specs.Stream.{empty}
use Rattle.boot.specs.Causes.{wrap}
use Rattle.choice_claim.specs.Adds.{OffBitmaps, Allocates}
use Rattle.write_alloc.specs.Allocate.{near_cause, new_run, new_chain, new_stream, allocate_in, allocate_clusters}
use Rattle.search.proofs.Lowest.{Whole}
use Rattle.choice.proofs.ChoiceLaws.{choose_inside, chosen-run, chosen_scattered, length-chosen}
use Rattle.choice_claim.proofs.PickedLaws.{run_picked, list_picked}
use Rattle.write_alloc.proofs.AllocateLaws.{stream_run, stream_chain, stream_few, start_heap, in_hint, in_free, in_near, in_new, allocate_is, allocate_not-admitted}
use Rattle.write_alloc.proofs.KeepLaws.{mark_run_on, take_on}
use Rattle.write_alloc.proofs.GrowLaws.{Fresh, Grows, fresh_inside, new-run_grown, new-chain_grown, chosen_fresh}
use Rattle.choice_claim.proofs.KeptLaws.{fat_off, run_off, take_off, entries_kept}

-- a volume that is admitted
pub fits_admitted : (g : Geometry) (d m : List ℕ) (y : Layout) → Admits g d m y → Fits y d
fits_admitted g d m y w = record { laid = w.laid; apart = w.apart; long = w.long }

-- every cluster of the heap may be stored to
abbrev pub InHeap : Layout → ℕ → Type 0
InHeap y k = in_heap y.count k ≡ true

-- ---- a new stream

module _ (y : Layout) (d m : List ℕ) (w : Fits y d) (n start : ℕ) (one : 1 ≤ n) (inside : in_heap y.count start ≡ true) where
  abbrev u : ℕ → Bool
  u = is_usable y d m

  low : 2 ≤ start
  low = (in_heap_lem y.count start inside).0

  high : start ≤ y.count + 2
  high = omega (arith, (in_heap_lem y.count start inside).1)

  -- as a run
  run_allocates : (k : ℕ) → choose u y.count n start ≡ Run k → Allocates y d m n start (new_run y d k n)
  unfolding new_run
  run_allocates k e = record {
    adds = record {
      new = consec k n;
      run = true;
      picked = subst (Picked u y.count n start true) (chosen-run u y.count n start low k e) (run_picked u y.count n start low high k e);
      reads = grown.reads;
      marks_new = grown.marks_new;
      marks_kept = grown.marks_kept;
      hint = ap (wrap y.count) (sym (last_consec 0 k n (λ z. omega arith)));
      fats_kept = λ _. entries_kept y d (mark_run y d k n) w kept;
      run_bytes_kept = λ _. kept;
      bytes_kept = λ p o _. kept p o;
      fats_alike = λ two. (marked_on (FatTwins y) (fat_keeps y two (InHeap y))).kept;
      bitmaps_alike = λ two. (marked_on (BitmapTwins y) (bitmap_keeps y two (InHeap y))).kept;
      same_length = grown.long;
    };
    flag = refl;
  }
    where
      at : (2 ≤ k) × (k + n ≤ y.count + 2) × Whole (is_usable y d m) k n
      at = choose_inside u y.count n start low k e

      grown : Grows y d m (new_run y d k n) [] (consec k n)
      grown = new-run_grown y d m w k n at.0 at.1 at.2 one

      kept : (p : ℕ) → OffBitmaps y p → get_or (mark_run y d k n) p 0 ≡ get_or d p 0
      kept p o = run_off y p o d k n at.0 at.1

      marked_on : (K : List ℕ → List ℕ → Type 0) → Keeps y (InHeap y) K → Went y K d (mark_run y d k n)
      marked_on K s =
          mark_run_on y (InHeap y) K s d n k d (went_none y (InHeap y) K s d w)
          (λ j a b. let i = heap_in y.count j (omega (arith, at.0)) (omega (arith, at.1)) in (i, i))

  -- as a chain
  chain_allocates : choose u y.count n start ≡ Scattered → Allocates y d m n start (new_chain y d (chosen u y.count n start))
  unfolding new_chain
  chain_allocates e = record {
    adds = record {
      new = ks;
      run = false;
      picked = list_picked u y.count n start low high e;
      reads = grown.reads;
      marks_new = grown.marks_new;
      marks_kept = grown.marks_kept;
      hint = refl;
      fats_kept = λ f. absurd (false≢true f);
      run_bytes_kept = λ f. absurd (false≢true f);
      bytes_kept = λ p o q.
          fat_off y p (take_each y d 0 ks) (last_or 0 ks) END (λ r b. q (last_or 0 ks) r (last_of 0 ks (omega (arith, many))) b)
          ∙ take_off y p o d 0 ks (λ z. absurd (z refl)) q (fresh_inside y d m ks fresh);
      fats_alike = λ two. (linked_on (FatTwins y) (fat_keeps y two (InHeap y))).kept;
      bitmaps_alike = λ two. (linked_on (BitmapTwins y) (bitmap_keeps y two (InHeap y))).kept;
      same_length = grown.long;
    };
    flag = refl;
  }
    where
      ks : List ℕ
      ks = chosen (is_usable y d m) y.count n start

      many : length ks ≡ n
      many = length-chosen u y.count n start low high (λ z. clash (cc))

      fresh : Fresh y d m ks
      fresh = chosen_fresh y d m w n start inside

      grown : Grows y d m (new_chain y d ks) [] ks
      grown = new-chain_grown y d m w ks fresh (omega (arith, many))

      in_heap_both : (k : ℕ) → Mem k ks → Own y (InHeap y) k
      in_heap_both k i = let h = fresh_inside y d m ks fresh k i in (h, h)

      linked_on : (K : List ℕ → List ℕ → Type 0) → Keeps y (InHeap y) K → Went y K d (set_fat y (take_each y d 0 ks) (last_or 0 ks) END)
      linked_on K s =
          fat_on y (InHeap y) K s d (take_each y d 0 ks)
          (take_on y (InHeap y) K s d ks 0 d (went_none y (InHeap y) K s d w) (λ z. absurd (z refl)) in_heap_both) (last_or 0 ks) END
          (in_heap_both (last_or 0 ks) (last_of 0 ks (omega (arith, many))))

  pub stream_allocates : (hint : ℕ) → (new_stream y d m n start hint).answer.number ≡ 0 → Allocates y d m n start (new_stream y d m n start hint)
  stream_allocates hint z = by (choose u y.count n start) refl
    where
      by : (c : Choice) → choose (is_usable y d m) y.count n start ≡ c → Allocates y d m n start (new_stream y d m n start hint)
      by (Run k) e = subst (Allocates y d m n start) (sym (stream_run y d m n start hint k e)) (run_allocates k e)
      by Scattered e =
          subst (Allocates y d m n start)
          (ap (new_chain y d) (chosen_scattered u y.count n start low e) ∙ sym (stream_chain y d m n start hint low e)) (chain_allocates e)
      by TooFew e =
          let s : ◌≡◌ {A = ℕ} 7 0 = ap (λ (o : Outcome). o.answer.number) (sym (stream_few y d m n start hint e)) ∙ z in
          absurd (omega arith)

-- ---- allocate

module _ (y : Layout) (d m : List ℕ) (n : ℕ) (given : Bool) (near hint : ℕ) (one : 1 ≤ n) (z : (allocate_in y d m n given near hint).answer.number ≡ 0) where
  -- the search starts in the heap, and what it finds is the new stream
  in_stream : (in_heap y.count (cond given near hint) ≡ true) × (allocate_in y d m n given near hint ≡ new_stream y d m n (cond given near hint) hint)
  in_stream = by (in_heap y.count hint) refl (dec_lt (free_count y d) n) (eqb (near_cause y.count given near) 0) refl
    where
      number : (o : Outcome) → allocate_in y d m n given near hint ≡ o → o.answer.number ≡ 0
      number o q = ap (λ (o : Outcome). o.answer.number) (sym q) ∙ z

      by : (b : Bool) → in_heap y.count hint ≡ b → Dec (free_count y d < n) → (c : Bool) → eqb (near_cause y.count given near) 0 ≡ c
          → (in_heap y.count (cond given near hint) ≡ true) × (allocate_in y d m n given near hint ≡ new_stream y d m n (cond given near hint) hint)
      by false p f c q = let s : ◌≡◌ {A = ℕ} 2 0 = number (unchanged 2 empty hint d) (in_hint y d m n given near hint p) in absurd (omega arith)
      by true p (yes f) c q =
          let s : ◌≡◌ {A = ℕ} 7 0 = number (unchanged 7 empty hint d) (in_free y d m n given near hint p (λ t. omega arith) f) in absurd (omega arith)
      by true p (no f) false q =
          let s : ◌≡◌ {A = ℕ} 2 0 = number (unchanged 2 empty hint d) (in_near y d m n given near hint p (λ t. omega arith) (omega arith) q) in absurd (omega arith)
      by true p (no f) true q = (start_heap y.count given near hint p q, in_new y d m n given near hint p (λ t. omega arith) q)

  pub in_allocates : Fits y d → Allocates y d m n (cond given near hint) (allocate_in y d m n given near hint)
  in_allocates w =
      let r = in_stream in
      subst (Allocates y d m n (cond given near hint)) (sym r.1)
      (stream_allocates y d m w n (cond given near hint) one r.0 hint (ap (λ (o : Outcome). o.answer.number) (sym r.1) ∙ z))

-- any accepted allocation of at least one cluster, near or by the hint
pub allocate_allocates : (g : Geometry) (d m : List ℕ) (n : ℕ) (given : Bool) (near hint : ℕ) → 1 ≤ n
    → (allocate_clusters g d m n given near hint).answer.number ≡ 0
    → Allocates (layout_of g (length d)) d m n (cond given near hint) (allocate_clusters g d m n given near hint)
allocate_allocates g d m n given near hint one z = by (limits g (length d) m) refl
  where
    y : Layout
    y = layout_of g (length d)

    by : (b : Bool) → limits g (length d) m ≡ b → Allocates (layout_of g (length d)) d m n (cond given near hint) (allocate_clusters g d m n given near hint)
    by true l =
        let w = limits_admits g d m l in
        let q = allocate_is g d m n given near hint (layout_of g (length d)) w in
        subst (Allocates (layout_of g (length d)) d m n (cond given near hint)) (sym q)
        (in_allocates (layout_of g (length d)) d m n given near hint one (ap (λ (o : Outcome). o.answer.number) (sym q) ∙ z) (fits_admitted g d m (layout_of g (length d)) w))
    by false l =
        let s : ◌≡◌ {A = ℕ} 1 0 = ap (λ (o : Outcome). o.answer.number) (sym (allocate_not-admitted g d m n given near hint 1 (sym (limits_refused g d m l)) (λ r. omega arith))) ∙ z in
        absurd (omega arith)
