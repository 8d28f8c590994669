-- What the choice means, for any test u of which clusters are usable. Assumes nothing.
use mathlib.Core.Path.{◌≡◌, refl, sym, ◌∙◌, ap, subst}
use mathlib.Core.Logic.{◌≢◌, ◌⊎◌, inl, inr, ⊎_elim}
use mathlib.Core.Bool.{Bool, true, false, ◌&&◌, cond}
use Prim.Native.Nat.{ℕ, ◌+◌, ◌-◌, ◌≤◌, ◌<◌}
use native.Mathlib.Decide.{dec_lt}
use native.Mathlib.Omega.{arith}
use lib.Dec.{leb, ltb}
use lib.ListN.{length, take, length-append}
use lib.Seq.{length-take-le}
use borrow.Author.Tests.{leb-true, ltb-true, ltb-false, lt-ltb, le-ltb, le-leb, lt-leb}
use Rattle.tables.specs.Lists.{Mem, Distinct, consec}
use Rattle.tables.specs.Count.{count, keep}
use Rattle.tables.proofs.Cases.{clash, cond_case, and_left, and_right}
use Rattle.tables.proofs.ListLaws.{mem_append, mem_take, distinct_append, distinct_take}
use Rattle.tables.proofs.CountLaws.{count-append, count_whole, length-keep, in_keep, keep_distinct, keep_cong, take_whole}
use Rattle.boot.specs.Layout.{in_heap}
use Rattle.boot.proofs.Apart.{in_heap_lem, heap_in}
use Rattle.std.specs.Prelude.{Option, Some, None}
use Rattle.choice.specs.declared.choice.Choice.{Choice}
use Rattle.choice.specs.declared.choice.Choice.TheVariants.{Run, Scattered, TooFew}
use Rattle.search.specs.Search.{all_from, run_from}
use Rattle.search.proofs.Lowest.{Whole, Lowest, all_whole, run_at}
use Rattle.choice.specs.Choice.{or_else, choose, around, begin_of, chosen}
use Rattle.choice.specs.Internal.{run_fits}

module _ (u : ℕ → Bool) where
  -- ---- a run of n that lies in the heap

  module _ (C near n : ℕ) where
    pub fits_outside : in_heap C near ≡ false → run_fits u C near n ≡ false
    unfolding run_fits
    fits_outside e = rw e refl

    pub fits_past : in_heap C near ≡ true → C + 2 < near + n → run_fits u C near n ≡ false
    unfolding run_fits
    fits_past e h = rw (e, lt-leb (near + n) (C + 2) h) refl

    pub fits_in : in_heap C near ≡ true → near + n ≤ C + 2 → run_fits u C near n ≡ all_from u near n
    unfolding run_fits
    fits_in e h = rw (e, le-leb (near + n) (C + 2) h) refl

  -- ---- the usable clusters around a start

  module _ (C start : ℕ) (low : 2 ≤ start) (high : start ≤ C + 2) where
    pub length-around : length (around u C start) ≡ count u 2 C
    unfolding around
    length-around =
        let e : start - 2 + (C + 2 - start) ≡ C = omega arith in
        let f : 2 + (start - 2) ≡ start = omega arith in
        let s : count u 2 C ≡ count u 2 (start - 2) + count u start (C + 2 - start)
        = ap (count u 2) (sym e) ∙ count-append u 2 (start - 2) (C + 2 - start)
        ∙ ap (λ (x : ℕ). count u 2 (start - 2) + count u x (C + 2 - start)) f in
        rw length-append (omega (arith, s, length-keep u start (C + 2 - start), length-keep u 2 (start - 2)))

    pub in_around : (k : ℕ) → Mem k (around u C start) → (in_heap C k ≡ true) × (u k ≡ true)
    unfolding around
    in_around k m =
        ⊎_elim
        (λ p. let r = in_keep u start (C + 2 - start) k p in (heap_in C k (omega arith) (omega arith), r.2))
        (λ p. let r = in_keep u 2 (start - 2) k p in (heap_in C k (omega arith) (omega arith), r.2))
        (mem_append (keep u start (C + 2 - start)) m)

    pub around_distinct : Distinct (around u C start)
    unfolding around
    around_distinct =
        distinct_append (keep u start (C + 2 - start)) (keep u 2 (start - 2)) (keep_distinct u start (C + 2 - start)) (keep_distinct u 2 (start - 2))
        (λ k p q. let a = in_keep u start (C + 2 - start) k p in let b = in_keep u 2 (start - 2) k q in omega arith)

  -- ---- the choice

  module _ (C n start : ℕ) where
    -- by what the searches and the count say
    pub choose_case {ℓ} : (P : Choice → Type ℓ)
        → ((k : ℕ) → run_from u (C + 2) n start ≡ Some k → P (Run k))
        → ((k : ℕ) → run_from u (C + 2) n start ≡ None → run_from u (C + 2) n 2 ≡ Some k → P (Run k))
        → (run_from u (C + 2) n start ≡ None → run_from u (C + 2) n 2 ≡ None → count u 2 C < n → P TooFew)
        → (run_from u (C + 2) n start ≡ None → run_from u (C + 2) n 2 ≡ None → n ≤ count u 2 C → P Scattered)
        → P (choose u C n start)
    unfolding choose
    choose_case P a b f s = first (run_from u (C + 2) n start) refl
      where
        last : Choice
        last = cond (ltb (count u 2 C) n) TooFew Scattered

        second : run_from u (C + 2) n start ≡ None → (t : Option ℕ) → run_from u (C + 2) n 2 ≡ t → P (or_else t last)
        second e (Some k) g = b k e g
        second e None g =
            cond_case P (ltb (count u 2 C) n) TooFew Scattered
            (λ t. f e g (ltb-true (count u 2 C) n t)) (λ t. s e g (ltb-false (count u 2 C) n t))

        first : (t : Option ℕ) → run_from u (C + 2) n start ≡ t → P (or_else t (or_else (run_from u (C + 2) n 2) last))
        first (Some k) e = a k e
        first None e = second e (run_from u (C + 2) n 2) refl

    -- a run is the lowest from the start on, or there is none and it is the lowest of all
    pub choose-run : (k : ℕ) → choose u C n start ≡ Run k
        → Lowest u (C + 2) n start k ⊎ ((run_from u (C + 2) n start ≡ None) × Lowest u (C + 2) n 2 k)
    choose-run k =
        choose_case (λ c. c ≡ Run k → Lowest u (C + 2) n start k ⊎ ((run_from u (C + 2) n start ≡ None) × Lowest u (C + 2) n 2 k))
        (λ j e q. let r : j ≡ k = cc in inl (subst (Lowest u (C + 2) n start) r (run_at u (C + 2) n start j e)))
        (λ j e g q. let r : j ≡ k = cc in inr (e, subst (Lowest u (C + 2) n 2) r (run_at u (C + 2) n 2 j g)))
        (λ e g h q. clash (cc)) (λ e g h q. clash (cc))

    -- n usable clusters in a row are n usable clusters
    pub run-count : (k : ℕ) → 2 ≤ k → k + n ≤ C + 2 → Whole u k n → n ≤ count u 2 C
    run-count k l h g =
        let e : C ≡ k - 2 + (n + (C + 2 - (k + n))) = omega arith in
        let f : 2 + (k - 2) ≡ k = omega arith in
        let s = ap (count u 2) e ∙ count-append u 2 (k - 2) (n + (C + 2 - (k + n))) in
        let t : count u (2 + (k - 2)) (n + (C + 2 - (k + n))) ≡ n + count u (k + n) (C + 2 - (k + n))
        = ap (λ (x : ℕ). count u x (n + (C + 2 - (k + n)))) f ∙ count-append u k n (C + 2 - (k + n))
        ∙ ap (λ (x : ℕ). x + count u (k + n) (C + 2 - (k + n))) (count_whole u k n g) in
        omega arith

    -- such a run is enough
    pub fits_count : run_fits u C start n ≡ true → n ≤ count u 2 C
    unfolding run_fits
    fits_count e =
        let i = and_left (in_heap C start) (leb (start + n) (C + 2) && all_from u start n) e in
        let r = and_right (in_heap C start) (leb (start + n) (C + 2) && all_from u start n) e in
        run-count start (in_heap_lem C start i).0 (leb-true (start + n) (C + 2) (and_left (leb (start + n) (C + 2)) (all_from u start n) r))
        (all_whole u start n (and_right (leb (start + n) (C + 2)) (all_from u start n) r))

    pub few_count : choose u C n start ≡ TooFew → count u 2 C < n
    few_count =
        choose_case (λ c. c ≡ TooFew → count u 2 C < n)
        (λ k e q. clash (cc)) (λ k e g q. clash (cc)) (λ e g h q. h) (λ e g h q. clash (cc))

    module _ (low : 2 ≤ start) where
      -- where a run lies
      pub choose_inside : (k : ℕ) → choose u C n start ≡ Run k → (2 ≤ k) × (k + n ≤ C + 2) × Whole u k n
      choose_inside k e =
          ⊎_elim (λ w. (omega (arith, w.after), w.inside, w.whole)) (λ p. let w = p.1 in (w.after, w.inside, w.whole)) (choose-run k e)

      -- too few only where they are too few
      pub count_few : count u 2 C < n → choose u C n start ≡ TooFew
      count_few h =
          choose_case (λ c. c ≡ TooFew)
          (λ k e. let w = run_at u (C + 2) n start k e in absurd (omega (arith, run-count k (omega (arith, w.after)) w.inside w.whole)))
          (λ k e g. let w = run_at u (C + 2) n 2 k g in absurd (omega (arith, run-count k w.after w.inside w.whole)))
          (λ e g b. refl)
          (λ e g b. absurd (omega arith))

      pub enough_count : choose u C n start ≢ TooFew → n ≤ count u 2 C
      enough_count d = elim (dec_lt (count u 2 C) n) [ yes w ↦ absurd (d (count_few w)) | no w ↦ omega arith ]

      -- ---- the clusters that are taken

      -- of a run, they stand in a row
      pub chosen-run : (k : ℕ) → choose u C n start ≡ Run k → chosen u C n start ≡ consec k n
      unfolding chosen around
      chosen-run k e =
          let i = choose_inside k e in
          rw e (take_whole u k n (C + 2 - k) (keep u 2 (k - 2)) (omega arith) i.2)

      pub chosen_scattered : choose u C n start ≡ Scattered → chosen u C n start ≡ take n (around u C start)
      unfolding chosen
      chosen_scattered e = rw e refl

      module _ (high : start ≤ C + 2) where
        begin_in : (2 ≤ begin_of (choose u C n start) start) × (begin_of (choose u C n start) start ≤ C + 2)
        begin_in = at (choose u C n start) refl
          where
            at : (c : Choice) → choose u C n start ≡ c → (2 ≤ begin_of c start) × (begin_of c start ≤ C + 2)
            at (Run k) e = let i = choose_inside k e in (i.0, omega arith)
            at Scattered e = (low, high)
            at TooFew e = (low, high)

        pub length-chosen : choose u C n start ≢ TooFew → length (chosen u C n start) ≡ n
        unfolding chosen
        length-chosen d =
            let b = begin_of (choose u C n start) start in
            length-take-le n (around u C b) (omega (arith, enough_count d, length-around C b begin_in.0 begin_in.1))

        pub in_chosen : (k : ℕ) → Mem k (chosen u C n start) → (in_heap C k ≡ true) × (u k ≡ true)
        unfolding chosen
        in_chosen k m =
            let b = begin_of (choose u C n start) start in
            in_around C b begin_in.0 begin_in.1 k (mem_take n (around u C b) m)

        pub chosen_distinct : Distinct (chosen u C n start)
        unfolding chosen
        chosen_distinct =
            let b = begin_of (choose u C n start) start in
            distinct_take n (around u C b) (around_distinct C b begin_in.0 begin_in.1)

  -- ---- the choice, as the code meets it

  module _ (C n start : ℕ) where
    pub choose-after : (k : ℕ) → run_from u (C + 2) n start ≡ Some k → choose u C n start ≡ Run k
    unfolding choose
    choose-after k e = rw e refl

    pub choose_lowest : (k : ℕ) → run_from u (C + 2) n start ≡ None → run_from u (C + 2) n 2 ≡ Some k → choose u C n start ≡ Run k
    unfolding choose
    choose_lowest k e f = rw (e, f) refl

    pub choose_few : run_from u (C + 2) n start ≡ None → run_from u (C + 2) n 2 ≡ None → count u 2 C < n → choose u C n start ≡ TooFew
    unfolding choose
    choose_few e f h = rw (e, f, lt-ltb (count u 2 C) n h) refl

    pub choose_scattered : run_from u (C + 2) n start ≡ None → run_from u (C + 2) n 2 ≡ None → n ≤ count u 2 C → choose u C n start ≡ Scattered
    unfolding choose
    choose_scattered e f h = rw (e, f, le-ltb (count u 2 C) n h) refl

-- ---- only the heap matters

module _ (u u' : ℕ → Bool) where
  module _ (C n start : ℕ) (low : 2 ≤ start) (same : (k : ℕ) → in_heap C k ≡ true → u' k ≡ u k) where
    pub around_cong : (b : ℕ) → 2 ≤ b → b ≤ C + 2 → around u' C b ≡ around u C b
    unfolding around
    around_cong b l h =
        rw (
          keep_cong u u' b (C + 2 - b) (λ k a c. same k (heap_in C k (omega arith) (omega arith))),
          keep_cong u u' 2 (b - 2) (λ k a c. same k (heap_in C k (omega arith) (omega arith))),
        ) refl
