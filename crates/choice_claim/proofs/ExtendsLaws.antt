-- That an accepted extension is what 01 says, from the choice to the public definition. Assumes nothing.
use mathlib.Core.Path.{◌≡◌, refl, sym, ◌∙◌, ap, subst}
use mathlib.Core.Bool.{Bool, true, false, false≢true}
use mathlib.Core.List.{List, [], ◌∷◌}
use Prim.Native.Nat.{ℕ, ◌+◌, ◌-◌, ◌≤◌}
use native.Mathlib.Decide.{ℕ_discrete}
use native.Mathlib.Omega.{arith}
use lib.ListN.{length, get_or}
use Rattle.tables.specs.Lists.{Mem, last_or, consec}
use Rattle.tables.proofs.ListLaws.{mem_left, mem_right, every_mem, consec_in, last_of}
use Rattle.boot.specs.declared.geometry.Geometry.{Geometry}
use Rattle.boot.specs.declared.layout.Layout.{Layout}
use Rattle.boot.specs.Limits.{limits}
use Rattle.boot.specs.Layout.{in_heap, layout_of}
use Rattle.boot.proofs.Admission.{Admits, limits_refused, limits_admits}
use Rattle.boot.proofs.Apart.{in_heap_lem}
use Rattle.metadata.specs.Fat.{END, fat_entry}
use Rattle.metadata.specs.Marks.{marked, mark_run}
use Rattle.metadata.specs.Usable.{is_usable}
use Rattle.metadata.proofs.Frame.{Fits}
use Rattle.metadata.proofs.Keeps.{Keeps, went_none}
use Rattle.kept.proofs.TwinKeeps.{FatTwins, BitmapTwins, fat_keeps, bitmap_keeps}
use Rattle.stream.specs.declared.allocation.Allocation.{Allocation}
use Rattle.stream.specs.Stream.{stream_of, clusters_of}
use Rattle.stream.proofs.StreamLaws.{Read, last_consec}
use Rattle.stream.proofs.ListingLaws.{stream_read}
use Rattle.stream.proofs.Distinct.{read_length, read-run}
use Rattle.choice.specs.declared.choice.Choice.TheVariants.{Run}
use Rattle.choice.specs.Choice.{choose, chosen}
use Rattle.choice_claim.specs.Picked.{RunAt, Picked}
use Rattle.write_alloc.specs.Take.{link_run, take_each}
use Rattle.write_alloc.specs.Outcome.{Outcome, unchanged}
use Rattle.boot.specs.Causes.{wrap}
use Rattle.choice_claim.specs.Adds.{OffBitmaps, OffEntries, Allocates}
use Rattle.write_alloc.specs.Allocate.{allocate_in}
use Rattle.search.proofs.Runs.{run_hit}
use Rattle.choice.proofs.ChoiceLaws.{choose-after, chosen-run, few_count}
use Rattle.search.proofs.Lowest.{all_whole, whole_all}
use Rattle.choice_claim.proofs.PickedLaws.{run_picked, choice_picked}
use Rattle.write_alloc.proofs.AllocateLaws.{wrap_low}
use Rattle.write_alloc.proofs.GrowLaws.{Fresh, Grows, fresh_inside, chosen_fresh}
use Rattle.choice_claim.proofs.KeptLaws.{fat_off, link_off, run_off, take_off, entries_kept}
use Rattle.choice_claim.proofs.AddsLaws.{fits_admitted, InHeap, in_allocates}
use Rattle.write_extend.specs.Extend.{more_cause, in_place, link_old, longer_run, longer_chain, longer, extend_in, extend_clusters}
use Rattle.write_extend.specs.Internal.{Allowed}
use Rattle.choice_claim.specs.Extends.{Extends}
use Rattle.write_extend.proofs.ExtendLaws.{allowed_of, place_usable, link-chain, link-run, LastOf, tail_of, start_in, place_facts, longer_in, longer_out, extend_hint, extend_longer, extend_refused, extend_is, extend_not-admitted}
use Rattle.write_extend.proofs.KeepLaws.{longer_on}
use Rattle.write_extend.proofs.LongerLaws.{longer-run_grown, longer-chain_grown, place_run, length_more, extend_empty}

-- the last of a list that is not empty
last_any : (x z : ℕ) (ks : List ℕ) → 1 ≤ length ks → last_or x ks ≡ last_or z ks
unfolding last_or
last_any x z [] h = absurd (omega arith)
last_any x z (k ∷ ks) h = refl

-- ---- n more clusters for a record that has some

module _ (y : Layout) (d m : List ℕ) (w : Fits y d) (a : Allocation) (n : ℕ) (some : 1 ≤ a.count) (one : 1 ≤ n) (ok : Allowed y d m a n) where
  abbrev u : ℕ → Bool
  u = is_usable y d m

  abbrev old : List ℕ
  old = clusters_of (stream_of y d a)

  abbrev start : ℕ
  start = wrap y.count (a.last + 1)

  tail : LastOf y d a
  tail = tail_of y d a ok.reads some

  read : Read y.count (fat_entry y d) (marked y d) a old
  read = stream_read y d a ok.reads

  last_in : Mem a.last old
  last_in =
      subst (λ (x : ℕ). Mem x old) (read.last (λ z. omega arith) 0)
      (last_of 0 old (omega (arith, read_length y.count (fat_entry y d) (marked y d) a old read)))

  last_low : 2 ≤ a.last
  last_low = (in_heap_lem y.count a.last tail.heap).0

  start_heap : in_heap y.count start ≡ true
  start_heap = start_in y d m a n w.laid w.apart w.long some one ok

  -- both FATs and both bitmaps take each store
  longer_keeps : (K : List ℕ → List ℕ → Type 0) → Keeps y (InHeap y) K → K d (longer y d m a n).volume
  longer_keeps K s =
      (longer_on y (InHeap y) K s d m d (went_none y (InHeap y) K s d w) (λ k h _. h) a ok.reads
      (λ k i. every_mem (in_heap y.count) old read.heap k i) n start start_heap ok.enough some one
      ).kept

  fats_twins : y.two ≡ true → FatTwins y d (longer y d m a n).volume
  fats_twins two = longer_keeps (FatTwins y) (fat_keeps y two (InHeap y))

  bitmaps_twins : y.two ≡ true → BitmapTwins y d (longer y d m a n).volume
  bitmaps_twins two = longer_keeps (BitmapTwins y) (bitmap_keeps y two (InHeap y))

  -- ---- a run in place

  module _ (e : in_place y d m a n ≡ true) where
    is_run : a.no_fat_chain ≡ true
    is_run = place_run y d m a n e

    room : a.last + 1 + n ≤ y.count + 2
    room = place_facts y d m a n w.laid w.apart w.long some one ok e

    next : RunAt u y.count n (a.last + 1)
    next = record {
      low = omega (arith, last_low);
      high = room;
      usable = all_whole u (a.last + 1) n (sym (place_usable y d m a n is_run room) ∙ e);
    }

    found : choose u y.count n (a.last + 1) ≡ Run (a.last + 1)
    found =
        choose-after u y.count n (a.last + 1) (a.last + 1)
        (run_hit u (y.count + 2) n (a.last + 1) room (whole_all u (a.last + 1) n next.usable))

    in_place_lem : Picked u y.count n start true (consec (a.last + 1) n)
    in_place_lem =
        subst (λ (s : ℕ). Picked u y.count n s true (consec (a.last + 1) n)) (sym (wrap_low y.count (a.last + 1) (omega (arith, room))))
        (subst (Picked u y.count n (a.last + 1) true) (chosen-run u y.count n (a.last + 1) next.low (a.last + 1) found)
        (run_picked u y.count n (a.last + 1) next.low (omega (arith, room)) (a.last + 1) found))

    grown : Grows y d m (longer_run y d a n) old (consec (a.last + 1) n)
    grown = longer-run_grown y d w a some ok.reads m n is_run room next.usable

    kept : (p : ℕ) → OffBitmaps y p → get_or (mark_run y d (a.last + 1) n) p 0 ≡ get_or d p 0
    kept p o = run_off y p o d (a.last + 1) n next.low room

    run_extends : Extends y d m a n (longer_run y d a n)
    unfolding longer_run
    run_extends = record {
      adds = record {
        new = consec (a.last + 1) n;
        run = true;
        picked = in_place_lem;
        reads = grown.reads;
        marks_new = grown.marks_new;
        marks_kept = grown.marks_kept;
        hint = ap (wrap y.count) (omega (arith, last_consec 0 (a.last + 1) n (λ z. omega arith)));
        fats_kept = λ _. entries_kept y d (mark_run y d (a.last + 1) n) w kept;
        run_bytes_kept = λ _. kept;
        bytes_kept = λ p o _. kept p o;
        fats_alike = λ two. subst (λ (o : Outcome). FatTwins y d o.volume) (longer_in y d m a n e) (fats_twins two);
        bitmaps_alike = λ two. subst (λ (o : Outcome). BitmapTwins y d o.volume) (longer_in y d m a n e) (bitmaps_twins two);
        same_length = grown.long;
      };
      flag = (λ _. (is_run, next), λ _. refl);
    }

  -- ---- a chain

  abbrev ks : List ℕ
  ks = chosen (is_usable y d m) y.count n (wrap y.count (a.last + 1))

  many : length ks ≡ n
  many = length_more y d m w a n some one ok

  fresh : Fresh y d m ks
  fresh = chosen_fresh y d m w n start start_heap

  found_some : (run : Bool) × Picked u y.count n start run ks
  found_some =
      let s = in_heap_lem y.count start start_heap in
      choice_picked u y.count n start s.0 (omega arith) (λ q. let f = few_count u y.count n start q in let e = ok.enough in omega arith)

  -- the old clusters linked
  old_off : (p : ℕ) → OffEntries y old p → get_or (link_old y d a) p 0 ≡ get_or d p 0
  old_off p o = by a.no_fat_chain refl
    where
      by : (b : Bool) → a.no_fat_chain ≡ b → get_or (link_old y d a) p 0 ≡ get_or d p 0
      by false f = ap (λ (e : List ℕ). get_or e p 0) (link-chain y d a f)
      by true f =
          let q = read-run y.count (fat_entry y d) (marked y d) a old read f in
          ap (λ (e : List ℕ). get_or e p 0) (link-run y d a f)
          ∙ fat_off y p (link_run y d a.first (a.count - 1)) a.last END (λ r b. o a.last r last_in b)
          ∙ link_off y p d a.first (a.count - 1)
          (λ j l h r b. o j r (subst (Mem j) (sym q) (consec_in a.first a.count j l (omega arith))) b)

  chain_grown : Grows y d m (longer_chain y d a ks) old ks
  chain_grown = longer-chain_grown y d w a some ok.reads m ks fresh (omega (arith, many))

  chain_extends : in_place y d m a n ≡ false → Extends y d m a n (longer_chain y d a ks)
  unfolding longer_chain
  chain_extends e = record {
    adds = record {
      new = ks;
      run = found_some.0;
      picked = found_some.1;
      reads = chain_grown.reads;
      marks_new = chain_grown.marks_new;
      marks_kept = chain_grown.marks_kept;
      hint = ap (λ (k : ℕ). wrap y.count (k + 1)) (last_any a.last 0 ks (omega (arith, many)));
      fats_kept = λ f. absurd (false≢true f);
      run_bytes_kept = λ f. absurd (false≢true f);
      bytes_kept = λ p o q.
          fat_off y p (take_each y (link_old y d a) a.last ks) (last_or a.last ks) END
          (λ r b. q (last_or a.last ks) r (mem_right old (last_of a.last ks (omega (arith, many)))) b)
          ∙ take_off y p o (link_old y d a) a.last ks (λ _ r b. q a.last r (mem_left ks last_in) b) (λ k r i b. q k r (mem_right old i) b)
          (fresh_inside y d m ks fresh)
          ∙ old_off p (λ k r i b. q k r (mem_left ks i) b);
      fats_alike = λ two. subst (λ (o : Outcome). FatTwins y d o.volume) (longer_out y d m a n e) (fats_twins two);
      bitmaps_alike = λ two. subst (λ (o : Outcome). BitmapTwins y d o.volume) (longer_out y d m a n e) (bitmaps_twins two);
      same_length = chain_grown.long;
    };
    flag = (λ f. absurd (false≢true f), λ r. absurd (false≢true (sym e ∙ place_usable y d m a n r.0 r.1.high ∙ whole_all u (a.last + 1) n r.1.usable)));
  }

  pub longer_extends : Extends y d m a n (longer y d m a n)
  longer_extends = by (in_place y d m a n) refl
    where
      by : (b : Bool) → in_place y d m a n ≡ b → Extends y d m a n (longer y d m a n)
      by true e = subst (Extends y d m a n) (sym (longer_in y d m a n e)) (run_extends e)
      by false e = subst (Extends y d m a n) (sym (longer_out y d m a n e)) (chain_extends e)

-- ---- extend

module _ (y : Layout) (d m : List ℕ) (w : Fits y d) (a : Allocation) (n hint : ℕ) (one : 1 ≤ n) (z : (extend_in y d m a n hint).answer.number ≡ 0) where
  number : (o : Outcome) → extend_in y d m a n hint ≡ o → o.answer.number ≡ 0
  number o q = ap (λ (o : Outcome). o.answer.number) (sym q) ∙ z

  pub in_extends : 1 ≤ a.count → Extends y d m a n (extend_in y d m a n hint)
  in_extends some = by (in_heap y.count hint) refl (ℕ_discrete (more_cause y d m a n) 0)
    where
      by : (b : Bool) → in_heap y.count hint ≡ b → Dec (more_cause y d m a n ≡ 0) → Extends y d m a n (extend_in y d m a n hint)
      by false p c = let s : ◌≡◌ {A = ℕ} 2 0 = number (unchanged 2 a hint d) (extend_hint y d m a n hint p) in absurd (omega arith)
      by true p (yes c) =
          subst (Extends y d m a n) (sym (extend_longer y d m a n hint p (λ t. omega arith) (λ t. omega arith) c))
          (longer_extends y d m w a n some one (allowed_of y d m a n c))
      by true p (no c) =
          absurd (c (number (unchanged (more_cause y d m a n) a hint d) (extend_refused y d m a n hint (more_cause y d m a n) p (λ t. omega arith) (λ t. omega arith) refl c)))

  -- an empty record is an allocation without near
  pub in_extends_empty : a.count ≡ 0 → Allocates y d m n hint (extend_in y d m a n hint)
  in_extends_empty c =
      let q = extend_empty y d m w a n hint c one z in
      subst (Allocates y d m n hint) (sym q) (in_allocates y d m n false 0 hint one (number (allocate_in y d m n false 0 hint) q) w)

module _ (g : Geometry) (d m : List ℕ) (a : Allocation) (n hint : ℕ) (one : 1 ≤ n) (z : (extend_clusters g d m a n hint).answer.number ≡ 0) where
  abbrev lay : Layout
  lay = layout_of g (length d)

  admits : Admits g d m lay
  admits = by (limits g (length d) m) refl
    where
      by : (b : Bool) → limits g (length d) m ≡ b → Admits g d m lay
      by true l = limits_admits g d m l
      by false l =
          let s : ◌≡◌ {A = ℕ} 1 0 = ap (λ (o : Outcome). o.answer.number)
          (sym (extend_not-admitted g d m a n hint 1 (sym (limits_refused g d m l)) (λ r. omega arith))) ∙ z in
          absurd (omega arith)

  is_in : extend_clusters g d m a n hint ≡ extend_in lay d m a n hint
  is_in = extend_is g d m a n hint lay admits

  in_zero : (extend_in lay d m a n hint).answer.number ≡ 0
  in_zero = ap (λ (o : Outcome). o.answer.number) (sym is_in) ∙ z

  -- any accepted extension by at least one cluster of a record that has some
  pub extend_extends : 1 ≤ a.count → Extends (layout_of g (length d)) d m a n (extend_clusters g d m a n hint)
  extend_extends some = subst (Extends lay d m a n) (sym is_in) (in_extends lay d m (fits_admitted g d m lay admits) a n hint one in_zero some)

  -- and of an empty one
  pub extend_allocates : a.count ≡ 0 → Allocates (layout_of g (length d)) d m n hint (extend_clusters g d m a n hint)
  extend_allocates c = subst (Allocates lay d m n hint) (sym is_in) (in_extends_empty lay d m (fits_admitted g d m lay admits) a n hint one in_zero c)
