-- A stream made longer keeps what each store keeps: its own clusters are linked, usable ones are taken. Assumes nothing.
use Rattle.std.proofs.Common.{◌≡◌, ℕ, ◌+◌, ◌-◌, ◌<◌, ◌≤◌, Bool, true, false, cond, ◌&&◌, leb, List, ◌∷◌, sym, refl, subst, arith}
use native.Mathlib.Decide.{ℕ_discrete}
use Rattle.tables.specs.Lists.{Mem, here, there, last_or}
use Rattle.tables.specs.Count.{count}
use Rattle.tables.proofs.Cases.{cond_case, and_right}
use Rattle.tables.proofs.ListLaws.{every_mem, consec_in, last_in, last_of}
use Rattle.boot.specs.declared.layout.Layout.{Layout}
use Rattle.boot.specs.Layout.{in_heap}
use Rattle.boot.proofs.Apart.{in_heap_lem, heap_in}
use Rattle.metadata.specs.Fat.{END, fat_entry, set_fat}
use Rattle.metadata.specs.Marks.{marked}
use Rattle.metadata.specs.Usable.{is_usable}
use Rattle.metadata.proofs.Keeps.{Own, Keeps, Went, fat_on}
use Rattle.stream.specs.declared.allocation.Allocation.{Allocation}
use Rattle.stream.specs.Stream.{number_of, stream_of, clusters_of}
use Rattle.stream.proofs.StreamLaws.{Read}
use Rattle.stream.proofs.ListingLaws.{stream_read}
use Rattle.stream.proofs.Distinct.{read_length, read-run}
use Rattle.search.specs.Search.{all_from}
use Rattle.choice.specs.Choice.{chosen}
use Rattle.write_alloc.specs.Take.{link_run, take_each}
use Rattle.write_alloc.specs.Outcome.{Outcome}
use Rattle.boot.specs.Causes.{wrap}
use Rattle.search.proofs.Lowest.{Whole, all_whole}
use Rattle.choice.proofs.ChoiceLaws.{in_chosen}
use Rattle.write_alloc.proofs.KeepLaws.{Taking, mark_run_on, link-run_on, take_on, new_on}
use Rattle.write_extend.specs.Extend.{in_place, longer_run, link_old, longer_chain, longer, extend_in}
use Rattle.write_extend.proofs.ExtendLaws.{wrap_heap, place_facts, extend_none}
use Rattle.write_extend.proofs.EnoughLaws.{grow_allowed, grow_longer, grow_new}

place_whole : (y : Layout) (d m : List ℕ) (a : Allocation) (n : ℕ) → in_place y d m a n ≡ true → Whole (is_usable y d m) (a.last + 1) n
unfolding in_place
place_whole y d m a n e =
    let h = leb (a.last + 1 + n) (y.count + 2) in
    let u = all_from (is_usable y d m) (a.last + 1) n in
    all_whole (is_usable y d m) (a.last + 1) n (and_right h u (and_right a.no_fat_chain (h && u) e))

module _ (y : Layout) (P : ℕ → Type 0) (K : List ℕ → List ℕ → Type 0) (s : Keeps y P K) (d : List ℕ) (m e : List ℕ) (w : Went y K d e) (u : Taking y P m e)
    (a : Allocation) (reads : number_of (stream_of y e a) ≡ 0) (own : (k : ℕ) → Mem k (clusters_of (stream_of y e a)) → P k) (n hint : ℕ)
    (hint_in : in_heap y.count hint ≡ true) (enough : n ≤ count (is_usable y e m) 2 y.count) where
  abbrev old : List ℕ
  old = clusters_of (stream_of y e a)

  read : Read y.count (fat_entry y e) (marked y e) a old
  read = stream_read y e a reads

  old_own : (k : ℕ) → Mem k old → Own y P k
  old_own k i = (every_mem (in_heap y.count) old read.heap k i, own k i)

  -- a stream that has clusters
  pub longer_on : 1 ≤ a.count → 1 ≤ n → Went y K d (longer y e m a n).volume
  unfolding longer longer_run longer_chain
  longer_on some one = by (in_place y e m a n) refl
    where
      last_own : Own y P a.last
      last_own =
          let l = read_length y.count (fat_entry y e) (marked y e) a old read in
          subst (Own y P) (read.last (λ z. omega arith) 0) (old_own (last_or 0 old) (last_of 0 old (omega arith)))

      run_own : a.no_fat_chain ≡ true → (j : ℕ) → a.first ≤ j → j < a.first + a.count → Own y P j
      run_own t j l b =
          old_own j (subst (Mem j) (sym (read-run y.count (fat_entry y e) (marked y e) a old read t)) (consec_in a.first a.count j l b))

      start_in : in_heap y.count (wrap y.count (a.last + 1)) ≡ true
      start_in = let l = w.fits.laid.count_low in let r = (in_heap_lem y.count a.last last_own.0).0 in wrap_heap y.count (a.last + 1) l (omega arith)

      ks : List ℕ
      ks = chosen (is_usable y e m) y.count n (wrap y.count (a.last + 1))

      new_own : (k : ℕ) → Mem k ks → Own y P k
      new_own k i =
          let r = in_heap_lem y.count (wrap y.count (a.last + 1)) start_in in
          let q = in_chosen (is_usable y e m) y.count n (wrap y.count (a.last + 1)) r.0 (omega arith) k i in
          (q.0, u k q.0 q.1)

      end_own : (k : ℕ) → Mem k (a.last ∷ ks) → Own y P k
      end_own k (here q) = subst (Own y P) (sym q) last_own
      end_own k (there i) = new_own k i

      linked : Went y K d (link_old y e a)
      linked =
          unfold link_old in
          (cond_case (Went y K d) a.no_fat_chain (set_fat y (link_run y e a.first (a.count - 1)) a.last END) e
          (λ t. fat_on y P K s d (link_run y e a.first (a.count - 1))
          (link-run_on y P K s d (a.count - 1) a.first e w (λ j l b. run_own t j l (omega arith))) a.last END last_own)
          (λ _. w))

      by : (b : Bool) → in_place y e m a n ≡ b
          → Went y K d
          (cond b (longer_run y e a n) (longer_chain y e a (chosen (is_usable y e m) y.count n (wrap y.count (a.last + 1))))).volume
      by true q =
          let r = in_heap_lem y.count a.last last_own.0 in
          let f = place_facts y e m a n w.fits.laid w.fits.apart w.fits.long some one (grow_allowed y e m w.fits a n hint reads hint_in enough) q in
          mark_run_on y P K s d n (a.last + 1) e w
          (λ j l b. let i = heap_in y.count j (omega arith) (omega arith) in (i, u j i (place_whole y e m a n q j l b)))
      by false q =
          fat_on y P K s d (take_each y (link_old y e a) a.last ks) (take_on y P K s d ks a.last (link_old y e a) linked (λ _. last_own) new_own)
          (last_or a.last ks) END (end_own (last_or a.last ks) (last_in a.last ks))

  pub extend_on : Went y K d (extend_in y e m a n hint).volume
  extend_on =
      elim (ℕ_discrete n 0) [
        | yes z ↦ subst (λ (o : Outcome). Went y K d o.volume) (sym (extend_none y e m a n hint hint_in z)) w
        | no z ↦ elim (ℕ_discrete a.count 0) [
          | yes c ↦ subst (λ (o : Outcome). Went y K d o.volume) (sym (grow_new y e m w.fits a n hint reads hint_in c (omega arith) enough))
              (new_on y P K s d m e w u n hint hint (omega arith) hint_in)
          | no c ↦ subst (λ (o : Outcome). Went y K d o.volume) (sym (grow_longer y e m w.fits a n hint reads hint_in (omega arith) (omega arith) enough))
              (longer_on (omega arith) (omega arith))
        ]
      ]
