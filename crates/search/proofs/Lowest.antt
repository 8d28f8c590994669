-- The lowest row that passes a test, the least number that one takes, and that only the numbers looked at matter. Assumes nothing.
use mathlib.Core.Path.{◌≡◌, refl, sym, ◌∙◌, ap, subst}
use mathlib.Core.Bool.{Bool, true, false, not, false≢true}
use Prim.Native.Nat.{ℕ, zero, suc, ◌+◌, ◌-◌, ◌≤◌, ◌<◌}
use native.Mathlib.Decide.{dec_lt, ℕ_discrete}
use native.Mathlib.Omega.{arith}
use lib.Dec.{eqb}
use borrow.Author.Tests.{eq-eqb, ne_eqb}
use Rattle.tables.proofs.Cases.{clash, cond_case, and_left, and_right, and_both}
use Rattle.std.specs.Prelude.{Some, None}
use Rattle.search.specs.Search.{all_from, first_run, run_from, fewest}
use Rattle.search.proofs.Runs.{all-not, run_none}

-- the n numbers from s all pass
abbrev pub Whole : (ℕ → Bool) → ℕ → ℕ → Type 0
Whole u s n = (k : ℕ) → s ≤ k → k < s + n → u k ≡ true

-- a is the lowest start, at or after s, of n numbers below end that pass
pub record Lowest (u : ℕ → Bool) (end n s a : ℕ) : Type 0 where
  pub after : s ≤ a
  pub inside : a + n ≤ end
  pub whole : Whole u a n
  pub least : (b : ℕ) → s ≤ b → b < a → Whole u b n → ⊥

module _ (u : ℕ → Bool) where
  -- ---- the test of a run

  pub all_whole : (s n : ℕ) → all_from u s n ≡ true → Whole u s n
  unfolding all_from
  all_whole s zero e k l h = absurd (omega arith)
  all_whole s (suc n) e k l h =
      elim (dec_lt k (s + n)) [
        | yes w ↦ all_whole s n (and_left (all_from u s n) (u (s + n)) e) k l w
        | no w ↦ (let q : k ≡ s + n = omega arith in rw q (and_right (all_from u s n) (u (s + n)) e))
      ]

  pub whole_all : (s n : ℕ) → Whole u s n → all_from u s n ≡ true
  unfolding all_from
  whole_all s zero h = refl
  whole_all s (suc n) h =
      and_both (all_from u s n) (u (s + n)) (whole_all s n (λ k l b. h k l (omega arith))) (h (s + n) (omega arith) (omega arith))

  not_whole : (s n : ℕ) → all_from u s n ≡ false → Whole u s n → ⊥
  not_whole s n e h = false≢true (sym e ∙ whole_all s n h)

  -- ---- the lowest run

  lowest_later : (end n s a : ℕ) → all_from u s n ≡ false → Lowest u end n (s + 1) a → Lowest u end n s a
  lowest_later end n s a e w = record {
    after = omega (arith, w.after);
    inside = w.inside;
    whole = w.whole;
    least = λ b l h g. elim (dec_lt s b) [
      | yes q ↦ w.least b (omega arith) h g
      | no q ↦ (let r : b ≡ s = omega arith in not_whole s n e (subst (λ x. Whole u x n) r g))
    ];
  }

  first_at : (end n tries s a : ℕ) → s + n + tries ≡ end + 1 → first_run u n tries s ≡ Some a → Lowest u end n s a
  unfolding first_run
  first_at end n zero s a h e = clash (cc)
  first_at end n (suc tries) s a h e =
      cond_case (λ f. f ≡ Some a → Lowest u end n s a) (all_from u s n) (Some s) (first_run u n tries (s + 1))
      (λ t q. let r : s ≡ a = cc in subst (Lowest u end n s) r
      (record { after = omega arith; inside = omega arith; whole = all_whole s n t; least = λ b l m g. omega arith }))
      (λ t q. lowest_later end n s a t (first_at end n tries (s + 1) a (omega arith) q)) e

  -- a start that was found
  pub run_at : (end n s a : ℕ) → run_from u end n s ≡ Some a → Lowest u end n s a
  run_at end n s a e =
      elim (dec_lt end (s + n)) [
        | yes w ↦ (let q = run_none u end n s w in clash (cc))
        | no w ↦ first_at end n (end + 1 - (n + s)) s a (omega arith) (unfold run_from in e)
      ]

  first_nothing : (n tries s : ℕ) → first_run u n tries s ≡ None → (b : ℕ) → s ≤ b → b < s + tries → Whole u b n → ⊥
  unfolding first_run
  first_nothing n zero s e b l h g = omega arith
  first_nothing n (suc tries) s e b l h g =
      cond_case (λ f. f ≡ None → ⊥) (all_from u s n) (Some s) (first_run u n tries (s + 1))
      (λ t q. clash (cc))
      (λ t q. elim (dec_lt s b) [
        | yes w ↦ first_nothing n tries (s + 1) q b (omega arith) (omega arith) g
        | no w ↦ (let r : b ≡ s = omega arith in not_whole s n t (subst (λ x. Whole u x n) r g))
      ]) e

  -- none was found: no start at or after s has n numbers below end that pass
  pub run_nothing : (end n s : ℕ) → run_from u end n s ≡ None → (b : ℕ) → s ≤ b → b + n ≤ end → Whole u b n → ⊥
  unfolding run_from
  run_nothing end n s e b l h g = first_nothing n (end + 1 - (n + s)) s e b l (omega arith) g

-- ---- only the numbers looked at matter

module _ (u u' : ℕ → Bool) where
  pub all_cong : (s n : ℕ) → ((k : ℕ) → s ≤ k → k < s + n → u' k ≡ u k) → all_from u' s n ≡ all_from u s n
  unfolding all_from
  all_cong s zero h = refl
  all_cong s (suc n) h = cc (h (s + n) (omega arith) (omega arith), all_cong s n (λ k a b. h k a (omega arith)))

  first_cong : (n tries s : ℕ) → ((k : ℕ) → s ≤ k → k + 1 < s + n + tries → u' k ≡ u k) → first_run u' n tries s ≡ first_run u n tries s
  unfolding first_run
  first_cong n zero s h = refl
  first_cong n (suc tries) s h =
      cc (all_cong s n (λ k a b. h k a (omega arith)), first_cong n tries (s + 1) (λ k a b. h k (omega arith) (omega arith)))

  pub run_cong : (end n s : ℕ) → ((k : ℕ) → s ≤ k → k < end → u' k ≡ u k) → run_from u' end n s ≡ run_from u end n s
  run_cong end n s h =
      elim (dec_lt end (s + n)) [
        | yes w ↦ run_none u' end n s w ∙ sym (run_none u end n s w)
        | no w ↦ unfold run_from in (first_cong n (end + 1 - (n + s)) s (λ k a b. h k a (omega arith)))
      ]

-- ---- the least number that a test takes

module _ (p : ℕ → Bool) where
  -- the first that passes, g + n where none of them does
  pub fewest_is : (n g m : ℕ) → g ≤ m → m ≤ g + n → (m < g + n → p m ≡ true) → ((h : ℕ) → g ≤ h → h < m → p h ≡ false) → fewest p n g ≡ m
  unfolding fewest
  fewest_is zero g m a b t f = omega arith
  fewest_is (suc n) g m a b t f =
      elim (dec_lt g m) [
        | yes l ↦ rw (f g (omega arith) l) (fewest_is n (g + 1) m (omega arith) (omega arith) (λ h. t (omega arith)) (λ h c d. f h (omega arith) d))
        | no l ↦ (let e : g ≡ m = omega arith in let q : p g ≡ true = ap p e ∙ t (omega arith) in rw q e)
      ]

  pub fewest_bounds : (n g : ℕ) → (g ≤ fewest p n g) × (fewest p n g ≤ g + n)
  unfolding fewest
  fewest_bounds zero g = omega arith
  fewest_bounds (suc n) g =
      cond_case (λ x. (g ≤ x) × (x ≤ g + suc n)) (p g) g (fewest p n (g + 1)) (λ e. omega arith) (λ e. omega (arith, fewest_bounds n (g + 1)))

  -- none before it passes
  pub fewest_before : (n g j : ℕ) → g ≤ j → j < fewest p n g → p j ≡ false
  unfolding fewest
  fewest_before zero g j a b = absurd (omega arith)
  fewest_before (suc n) g j a b =
      cond_case (λ x. j < x → p j ≡ false) (p g) g (fewest p n (g + 1)) (λ e h. absurd (omega arith))
      (λ e h. elim (ℕ_discrete j g) [
        | yes q ↦ ap p q ∙ e
        | no q ↦ fewest_before n (g + 1) j (omega arith) h
      ]) b

  -- it passes, where one does
  pub fewest_at : (n g : ℕ) → fewest p n g < g + n → p (fewest p n g) ≡ true
  unfolding fewest
  fewest_at zero g h = absurd (omega arith)
  fewest_at (suc n) g h =
      cond_case (λ x. x < g + suc n → p x ≡ true) (p g) g (fewest p n (g + 1)) (λ e q. e) (λ e q. fewest_at n (g + 1) (omega arith)) h

  -- those that do not pass are left out
  pub fewest_skip : (g m end : ℕ) → g ≤ m → m ≤ end → ((h : ℕ) → g ≤ h → h < m → p h ≡ false) → fewest p (end - m) m ≡ fewest p (end - g) g
  fewest_skip g m end a b f =
      let r = fewest_bounds (end - m) m in
      sym
      (fewest_is (end - g) g (fewest p (end - m) m) (omega arith) (omega arith) (λ h. fewest_at (end - m) m (omega arith))
      (λ h c d. elim (dec_lt h m) [
        | yes w ↦ f h c w
        | no w ↦ fewest_before (end - m) m h (omega arith) d
      ]))

  -- the search up to end: of n numbers, and of none
  pub fewest_whole : (g n end : ℕ) → end ≡ g + n → fewest p (end - g) g ≡ fewest p n g
  fewest_whole g n end e = let q : end - g ≡ n = omega arith in rw q refl

  pub fewest_end : (g end : ℕ) → g ≡ end → fewest p (end - g) g ≡ end
  fewest_end g end e = omega (arith, fewest_bounds (end - g) g)

  -- none passes
  pub fewest-none : (n g r : ℕ) → r ≡ fewest p n g → eqb r (g + n) ≡ all_from (λ j. not (p j)) g n
  fewest-none n g r q =
      let t = fewest_bounds n g in
      elim (ℕ_discrete r (g + n)) [
        | yes e ↦ eq-eqb _ _ e ∙ sym (whole_all (λ j. not (p j)) g n (λ k a b. ap not (fewest_before n g k a (omega arith))))
        | no e ↦ ne_eqb _ _ e
            ∙ sym (all-not (λ j. not (p j)) g n (fewest p n g) (omega arith) (omega arith) (ap not (fewest_at n g (omega arith))))
      ]

  -- with its bounds, as a function promises it
  pub fewest_within : (n g r : ℕ) → r ≡ fewest p n g → (r ≡ fewest p n g) × ((g ≤ r) × (r ≤ g + n))
  fewest_within n g r e = let t = fewest_bounds n g in (e, (omega arith, omega arith))

-- ---- numbers s further on

module _ (p q : ℕ → Bool) (s : ℕ) where
  pub fewest_shift : (n g : ℕ) → ((j : ℕ) → g ≤ j → j < g + n → p j ≡ q (j + s)) → fewest p n g + s ≡ fewest q n (g + s)
  fewest_shift n g f =
      let b = fewest_bounds p n g in
      sym
      (fewest_is q n (g + s) (fewest p n g + s) (omega arith) (omega arith)
      (λ h. sym (f (fewest p n g) (omega arith) (omega arith)) ∙ fewest_at p n g (omega arith))
      (λ h c d.
      let e : h - s + s ≡ h = omega arith in
      ap q (sym e) ∙ sym (f (h - s) (omega arith) (omega arith)) ∙ fewest_before p n g (h - s) (omega arith) (omega arith)))
