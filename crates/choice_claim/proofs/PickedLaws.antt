-- The clusters of the choice are those that are to be taken, and no others are. Assumes nothing.
use mathlib.Core.Path.{◌≡◌, refl, sym, ◌∙◌, ap}
use mathlib.Core.Logic.{◌≢◌, ⊎_elim}
use mathlib.Core.Bool.{Bool, true, false, false≢true}
use mathlib.Core.List.{List}
use Prim.Native.Nat.{ℕ, ◌+◌, ◌≤◌}
use native.Mathlib.Decide.{dec_lt}
use native.Mathlib.Omega.{arith}
use Rattle.tables.specs.Lists.{consec}
use Rattle.tables.proofs.Cases.{clash, bool_ext}
use Rattle.std.specs.Prelude.{None}
use Rattle.choice.specs.declared.choice.Choice.{Choice}
use Rattle.choice.specs.declared.choice.Choice.TheVariants.{Run, Scattered, TooFew}
use Rattle.search.specs.Search.{run_from}
use Rattle.choice.specs.Choice.{choose, around, chosen}
use Rattle.choice_claim.specs.Picked.{RunAt, LowestRun, Picked}
use Rattle.search.proofs.Lowest.{Lowest, run_at, run_nothing}
use Rattle.choice.proofs.ChoiceLaws.{choose_case, choose-run, choose_inside, chosen-run, chosen_scattered, length-chosen, in_chosen, chosen_distinct}

module _ (u : ℕ → Bool) (C n : ℕ) where
  -- a run that a search from s finds
  pub lowest_run : (s k : ℕ) → 2 ≤ s → Lowest u (C + 2) n s k → LowestRun u C n s k
  lowest_run s k low w = record {
    stands = record { low = omega (arith, w.after); high = w.inside; usable = w.whole };
    after = w.after;
    lowest = λ j l r. elim (dec_lt j k) [ yes h ↦ absurd (w.least j l h r.usable) | no h ↦ omega arith ];
  }

  -- two that are the lowest are one
  same_lowest : (s j k : ℕ) → LowestRun u C n s j → LowestRun u C n s k → j ≡ k
  same_lowest s j k v w = omega (arith, v.lowest k w.after w.stands, w.lowest j v.after v.stands)

  -- a search that finds nothing
  none_from : (s : ℕ) → run_from u (C + 2) n s ≡ None → (k : ℕ) → s ≤ k → RunAt u C n k → ⊥
  none_from s e k l r = run_nothing u (C + 2) n s e k l r.high r.usable

  module _ (start : ℕ) (low : 2 ≤ start) where
    -- a list is taken only where there is no run
    pub scattered_none : choose u C n start ≡ Scattered → (k : ℕ) → RunAt u C n k → ⊥
    scattered_none =
        choose_case u C n start (λ c. c ≡ Scattered → (k : ℕ) → RunAt u C n k → ⊥)
        (λ k e q. clash (cc)) (λ k e g q. clash (cc)) (λ e g h q. clash (cc)) (λ e g h q k r. none_from 2 g k r.low r)

    module _ (high : start ≤ C + 2) where
      pub run_picked : (k : ℕ) → choose u C n start ≡ Run k → Picked u C n start true (chosen u C n start)
      run_picked k e = record {
        many = length-chosen u C n start low high (λ z. clash (cc));
        heap = λ j i. (in_chosen u C n start low high j i).0;
        usable = λ j i. (in_chosen u C n start low high j i).1;
        distinct = chosen_distinct u C n start low high;
        run_where = (λ _. (k, here), λ _. refl);
        run_after = λ _ j w. row ∙ ap (λ (x : ℕ). consec x n) (after j w);
        run_else = λ _ none j w. row ∙ ap (λ (x : ℕ). consec x n) (of_all none j w);
        list_order = λ f. absurd (false≢true (sym f));
      }
        where
          here : RunAt u C n k
          here = let i = choose_inside u C n start low k e in record { low = i.0; high = i.1; usable = i.2 }

          row : chosen u C n start ≡ consec k n
          row = chosen-run u C n start low k e

          after : (j : ℕ) → LowestRun u C n start j → k ≡ j
          after j w =
              ⊎_elim (λ v. same_lowest start k j (lowest_run start k low v) w)
              (λ p. absurd (none_from start p.0 j w.after w.stands))
              (choose-run u C n start k e)

          of_all : ((j : ℕ) → start ≤ j → RunAt u C n j → ⊥) → (j : ℕ) → LowestRun u C n 2 j → k ≡ j
          of_all none j w =
              ⊎_elim (λ v. absurd (none k v.after here)) (λ p. same_lowest 2 k j (lowest_run 2 k (omega arith) p.1) w)
              (choose-run u C n start k e)

      pub list_picked : choose u C n start ≡ Scattered → Picked u C n start false (chosen u C n start)
      list_picked e = record {
        many = length-chosen u C n start low high (λ z. clash (cc));
        heap = λ j i. (in_chosen u C n start low high j i).0;
        usable = λ j i. (in_chosen u C n start low high j i).1;
        distinct = chosen_distinct u C n start low high;
        run_where = (λ f. absurd (false≢true f), λ r. absurd (scattered_none e r.0 r.1));
        run_after = λ f. absurd (false≢true f);
        run_else = λ f. absurd (false≢true f);
        list_order = λ _. unfold around in (chosen_scattered u C n start low e);
      }

      -- where enough are usable, those of the choice are to be taken
      pub choice_picked : choose u C n start ≢ TooFew → (run : Bool) × Picked u C n start run (chosen u C n start)
      choice_picked enough = by (choose u C n start) refl
        where
          by : (c : Choice) → choose u C n start ≡ c → (run : Bool) × Picked u C n start run (chosen u C n start)
          by (Run k) e = (true, run_picked k e)
          by Scattered e = (false, list_picked e)
          by TooFew e = absurd (enough e)

    -- what is to be taken is one thing
    pub picked_same : (run run' : Bool) (ks ks' : List ℕ) → Picked u C n start run ks → Picked u C n start run' ks' → (run ≡ run') × (ks ≡ ks')
    picked_same run run' ks ks' p q = (flags, by run refl)
      where
        flags : run ≡ run'
        flags = bool_ext run run' (λ e. q.run_where.1 (p.run_where.0 e)) (λ e. p.run_where.1 (q.run_where.0 e))

        -- of runs
        rows : run ≡ true → ks ≡ ks'
        rows e =
            choose_case u C n start (λ _. ks ≡ ks')
            (λ k f. let w = lowest_run start k low (run_at u (C + 2) n start k f) in
            p.run_after e k w ∙ sym (q.run_after (sym flags ∙ e) k w))
            (λ k f g. let w = lowest_run 2 k (omega arith) (run_at u (C + 2) n 2 k g) in
            p.run_else e (none_from start f) k w ∙ sym (q.run_else (sym flags ∙ e) (none_from start f) k w))
            (λ f g h. let r = p.run_where.0 e in absurd (none_from 2 g r.0 r.1.low r.1))
            (λ f g h. let r = p.run_where.0 e in absurd (none_from 2 g r.0 r.1.low r.1))

        by : (b : Bool) → run ≡ b → ks ≡ ks'
        by true e = rows e
        by false e = p.list_order e ∙ sym (q.list_order (sym flags ∙ e))
