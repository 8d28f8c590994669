-- Rows of numbers that pass a test, as code that searches meets them. Assumes nothing.
use mathlib.Core.Path.{◌≡◌, refl, sym, ◌∙◌, ap, ap₂}
use mathlib.Core.Logic.{◌≢◌}
use mathlib.Core.Bool.{Bool, true, false, ◌&&◌, and-true, and-false, and_assoc}
use Prim.Native.Nat.{ℕ, zero, suc, ◌+◌, ◌-◌, ◌≤◌, ◌<◌, min}
use native.Mathlib.Decide.{dec_lt}
use native.Mathlib.Numerals.{add-one, sub-one}
use native.Mathlib.Omega.{arith}
use Rattle.tables.specs.Lists.{every, consec}
use Rattle.tables.proofs.Cases.{and_left, and_right, and_both}
use Rattle.std.specs.Prelude.{Some, None}
use Rattle.search.specs.Search.{all_from, first_run, run_from}
use Rattle.search.specs.Internal.{past_failing}

lesser_left : (a b : ℕ) → a ≤ b → min a b ≡ a
lesser_left a b h = omega arith

lesser_right : (a b : ℕ) → b ≤ a → min a b ≡ b
lesser_right a b h = omega arith

-- the starts from 2 on are those before s and those from s on
starts : (end n s : ℕ) → 2 ≤ s → s + n ≤ end + 1 → end + 1 - (n + 2) ≡ s - 2 + (end + 1 - (n + s))
starts end n s l h = omega arith

starts_from : (s : ℕ) → 2 ≤ s → 2 + (s - 2) ≡ s
starts_from s l = omega arith

starts_below : (n s : ℕ) → 2 ≤ s → 1 ≤ n → s + n - 1 + 1 - (n + 2) ≡ s - 2
starts_below n s l h = omega arith

module _ (u : ℕ → Bool) where
  -- ---- all of a run

  pub all_none : (s n : ℕ) → n ≡ 0 → all_from u s n ≡ true
  unfolding all_from
  all_none s zero h = refl
  all_none s (suc n) h = absurd (omega arith)

  -- one more
  pub all_more : (s n : ℕ) → all_from u s (n + 1) ≡ all_from u s n && u (s + n)
  unfolding all_from
  all_more s n = rw add-one refl

  -- the same, by the last number
  pub all_next : (s k n : ℕ) → s ≤ k → n ≡ k + 1 - s → all_from u s (k - s) ≡ true → u k ≡ true → all_from u s n ≡ true
  unfolding all_from
  all_next s k n h q e f =
      let r : n ≡ suc (k - s) = omega arith in
      let t : s + (k - s) ≡ k = omega arith in
      rw r (and_both (all_from u s (k - s)) (u (s + (k - s))) e (ap u t ∙ f))

  -- by the first number
  pub all_first : (s n : ℕ) → all_from u s (suc n) ≡ u s && all_from u (s + 1) n
  unfolding all_from
  all_first s zero =
      let q : s + zero ≡ s = omega arith in
      rw q (sym (and-true (u s)))
  all_first s (suc n) =
      let q : s + suc n ≡ s + 1 + n = omega arith in
      ap (λ b. b && u (s + suc n)) (all_first s n) ∙ rw q (and_assoc (u s) (all_from u (s + 1) n) (u (s + 1 + n)))

  -- by the list of the numbers
  pub all-every : (s n : ℕ) → every u (consec s n) ≡ all_from u s n
  unfolding every consec
  all-every s zero = sym (all_none s zero refl)
  all-every s (suc n) = ap (λ b. u s && b) (all-every (s + 1) n) ∙ sym (all_first s n)

  -- a number of the run that fails
  pub all-not : (s n k : ℕ) → s ≤ k → k < s + n → u k ≡ false → all_from u s n ≡ false
  unfolding all_from
  all-not s zero k h l e = absurd (omega arith)
  all-not s (suc n) k h l e =
      elim (dec_lt k (s + n)) [
        | yes w ↦ rw (all-not s n k h w e) refl
        | no w ↦ (let q : s + n ≡ k = omega arith in rw (q, e) (and-false (all_from u s n)))
      ]

  -- ---- the last number that fails

  pub tail_none : (low n : ℕ) → n ≤ 0 → past_failing u low n ≡ low
  unfolding past_failing
  tail_none low zero h = refl
  tail_none low (suc n) h = absurd (omega arith)

  tail_yes : (low n : ℕ) → u (low + n) ≡ true → past_failing u low (suc n) ≡ past_failing u low n
  unfolding past_failing
  tail_yes low n e = rw e refl

  tail_no : (low n : ℕ) → u (low + n) ≡ false → past_failing u low (suc n) ≡ low + n + 1
  unfolding past_failing
  tail_no low n e = rw e refl

  -- by the number k after the last one
  pub tail_whole : (low n k : ℕ) → k ≡ low + n → past_failing u low (k - low) ≡ past_failing u low n
  tail_whole low n k e = ap (past_failing u low) (omega arith)

  pub tail_pass : (low k : ℕ) → low < k → u (k - 1) ≡ true → past_failing u low (k - 1 - low) ≡ past_failing u low (k - low)
  tail_pass low k h e =
      let t : low + (k - 1 - low) ≡ k - 1 = omega arith in
      sym (ap (past_failing u low) (omega arith) ∙ tail_yes low (k - 1 - low) (ap u t ∙ e))

  pub tail_fail : (low k : ℕ) → low < k → u (k - 1) ≡ false → past_failing u low (k - low) ≡ k
  tail_fail low k h e =
      let t : low + (k - 1 - low) ≡ k - 1 = omega arith in
      ap (past_failing u low) (omega arith) ∙ tail_no low (k - 1 - low) (ap u t ∙ e) ∙ omega arith

  pub tail_bounds : (low n : ℕ) → (low ≤ past_failing u low n) × (past_failing u low n ≤ low + n)
  tail_bounds low zero = omega (arith, tail_none low 0 (omega arith))
  tail_bounds low (suc n) = by (u (low + n)) refl (tail_bounds low n)
    where
      by : (b : Bool) → u (low + n) ≡ b → (low ≤ past_failing u low n) × (past_failing u low n ≤ low + n)
          → (low ≤ past_failing u low (suc n)) × (past_failing u low (suc n) ≤ low + suc n)
      by true e r = omega (arith, tail_yes low n e)
      by false e r = omega (arith, tail_no low n e)

  -- all pass from there on
  pub tail_rest : (low n : ℕ) → all_from u (past_failing u low n) (low + n - past_failing u low n) ≡ true
  tail_rest low zero = all_none _ _ (omega (arith, tail_none low 0 (omega arith)))
  tail_rest low (suc n) = by (u (low + n)) refl (tail_rest low n) (tail_bounds low n)
    where
      by : (b : Bool) → u (low + n) ≡ b → all_from u (past_failing u low n) (low + n - past_failing u low n) ≡ true
          → (low ≤ past_failing u low n) × (past_failing u low n ≤ low + n)
          → all_from u (past_failing u low (suc n)) (low + suc n - past_failing u low (suc n)) ≡ true
      by true e f r =
          let q = tail_yes low n e in
          ap (λ (x : ℕ). all_from u x (low + suc n - x)) q
          ∙ all_next (past_failing u low n) (low + n) (low + suc n - past_failing u low n) (omega arith) (omega arith) f e
      by false e f r = all_none _ _ (omega (arith, tail_no low n e))

  -- and the one before fails
  pub tail_last : (low n : ℕ) → low < past_failing u low n → u (past_failing u low n - 1) ≡ false
  tail_last low zero h = absurd (omega (arith, tail_none low 0 (omega arith)))
  tail_last low (suc n) h = by (u (low + n)) refl (tail_last low n)
    where
      by : (b : Bool) → u (low + n) ≡ b → (low < past_failing u low n → u (past_failing u low n - 1) ≡ false) → u (past_failing u low (suc n) - 1) ≡ false
      by true e f = let q = tail_yes low n e in ap (λ (x : ℕ). u (x - 1)) q ∙ f (omega arith)
      by false e f = let q : past_failing u low (suc n) - 1 ≡ low + n = omega (arith, tail_no low n e) in ap u q ∙ e

  -- numbers that all pass
  pub tail_over : (low j k : ℕ) → low ≤ j → j ≤ k → ((i : ℕ) → j ≤ i → i < k → u i ≡ true) → past_failing u low (j - low) ≡ past_failing u low (k - low)
  tail_over low j k h t f = back (k - j) k t refl f
    where
      back : (m k : ℕ) → j ≤ k → m ≡ k - j → ((i : ℕ) → j ≤ i → i < k → u i ≡ true) → past_failing u low (j - low) ≡ past_failing u low (k - low)
      back zero k t e f = ap (λ (x : ℕ). past_failing u low (x - low)) (omega arith)
      back (suc m) k t e f =
          back m (k - 1) (omega arith) (omega arith) (λ i a b. f i a (omega arith))
          ∙ tail_pass low k (omega arith) (f (k - 1) (omega arith) (omega arith))

  -- where all pass
  pub tail_all : (low n : ℕ) → all_from u low n ≡ true → past_failing u low n ≡ low
  unfolding all_from
  tail_all low zero e = tail_none low 0 (omega arith)
  tail_all low (suc n) e = tail_yes low n (and_right (all_from u low n) (u (low + n)) e) ∙ tail_all low n (and_left (all_from u low n) (u (low + n)) e)

  -- ---- the lowest run

  first_hit : (n tries s : ℕ) → all_from u s n ≡ true → first_run u n (suc tries) s ≡ Some s
  unfolding first_run
  first_hit n tries s e = rw e refl

  first_step : (n tries s : ℕ) → all_from u s n ≡ false → first_run u n tries s ≡ first_run u n (tries - 1) (s + 1)
  unfolding first_run
  first_step n zero s e = refl
  first_step n (suc tries) s e = rw (e, sub-one) refl

  -- where no start of the last b tries is found, the first a decide
  first_cut : (n a b s : ℕ) → first_run u n b (s + a) ≡ None → first_run u n (a + b) s ≡ first_run u n a s
  unfolding first_run
  first_cut n zero b s e =
      let p : zero + b ≡ b = omega arith in
      let q : s ≡ s + zero = omega arith in
      rw p (ap (first_run u n b) q ∙ e)
  first_cut n (suc a) b s e =
      let p : suc a + b ≡ suc (a + b) = omega arith in
      let q : s + 1 + a ≡ s + suc a = omega arith in
      rw (p, first_cut n a b (s + 1) (ap (first_run u n b) q ∙ e)) refl

  module _ (end n : ℕ) where
    pub run_hit : (s : ℕ) → s + n ≤ end → all_from u s n ≡ true → run_from u end n s ≡ Some s
    unfolding run_from
    run_hit s h e =
        let q : end + 1 - (n + s) ≡ suc (end - (n + s)) = omega arith in
        rw q (first_hit n (end - (n + s)) s e)

    pub run_none : (s : ℕ) → end < s + n → run_from u end n s ≡ None
    unfolding run_from first_run
    run_none s h = let q : end + 1 - (n + s) ≡ zero = omega arith in rw q refl

    run_low : (s : ℕ) → 2 ≤ s → 1 ≤ n → s + n ≤ end + 1 → run_from u end n s ≡ None → run_from u (s + n - 1) n 2 ≡ run_from u end n 2
    unfolding run_from
    run_low s l h w e =
        ap (λ (x : ℕ). first_run u n x 2) (starts_below n s l h)
        ∙ sym
        (ap (λ (x : ℕ). first_run u n x 2) (starts end n s l w)
        ∙ first_cut n (s - 2) (end + 1 - (n + s)) 2 (ap (first_run u n (end + 1 - (n + s))) (starts_from s l) ∙ e))

    -- no run starts at or after s: the search of the whole may end where one that starts before s does
    pub run_before : (s : ℕ) → 2 ≤ s → 1 ≤ n → run_from u end n s ≡ None → run_from u (min end (s + n - 1)) n 2 ≡ run_from u end n 2
    run_before s l h e =
        elim (dec_lt end (s + n - 1)) [
          | yes w ↦ ap (λ (x : ℕ). run_from u x n 2) (lesser_left end (s + n - 1) (omega arith))
          | no w ↦ ap (λ (x : ℕ). run_from u x n 2) (lesser_right end (s + n - 1) (omega arith)) ∙ run_low s l h (omega arith) e
        ]

    run_step : (s : ℕ) → all_from u s n ≡ false → run_from u end n s ≡ run_from u end n (s + 1)
    unfolding run_from
    run_step s e = first_step n (end + 1 - (n + s)) s e ∙ ap (λ (t : ℕ). first_run u n t (s + 1)) (omega arith)

    -- no run starts in the d numbers from s, all within reach of k, which fails
    run_past : (d s k : ℕ) → s + d ≡ k + 1 → k < s + n → u k ≡ false → run_from u end n s ≡ run_from u end n (s + d)
    run_past zero s k h l e = ap (run_from u end n) (omega arith)
    run_past (suc d) s k h l e =
        run_step s (all-not s n k (omega arith) l e)
        ∙ (run_past d (s + 1) k (omega arith) (omega arith) e ∙ ap (run_from u end n) (omega arith))

    pub run_skip : (s k : ℕ) → s ≤ k → k < s + n → u k ≡ false → run_from u end n (k + 1) ≡ run_from u end n s
    run_skip s k h l e =
        let q : s + (k + 1 - s) ≡ k + 1 = omega arith in
        sym (run_past (k + 1 - s) s k q l e ∙ ap (run_from u end n) q)

    -- numbers that all fail
    run_over : (d s : ℕ) → 1 ≤ n → ((j : ℕ) → s ≤ j → j < s + d → u j ≡ false) → run_from u end n (s + d) ≡ run_from u end n s
    run_over zero s h f = ap (run_from u end n) (omega arith)
    run_over (suc d) s h f =
        ap (run_from u end n) (omega arith) ∙ run_over d (s + 1) h (λ j a b. f j (omega arith) (omega arith))
        ∙ run_skip s s (omega arith) (omega arith) (f s (omega arith) (omega arith))

    -- a window from base tested from its end: t is one past the last that fails
    pub window_hit : (base t : ℕ) → t ≡ past_failing u base n → base + n ≤ end → t ≡ base → run_from u end n base ≡ Some base
    window_hit base t q i z =
        run_hit base i (ap₂ (all_from u) (sym (sym q ∙ z)) (omega arith) ∙ tail_rest base n)

-- ---- numbers s further on

module _ (u v : ℕ → Bool) (s : ℕ) where
  pub all_shift : (k n : ℕ) → ((j : ℕ) → k ≤ j → j < k + n → u j ≡ v (j + s)) → all_from u k n ≡ all_from v (k + s) n
  unfolding all_from
  all_shift k zero f = refl
  all_shift k (suc n) f =
      let q : k + n + s ≡ k + s + n = omega arith in
      ap₂ ◌&&◌ (all_shift k n (λ j a b. f j a (omega arith))) (f (k + n) (omega arith) (omega arith) ∙ ap v q)

-- ---- a window tested by a test v that each number which passes u passes too

module _ (u v : ℕ → Bool) (weaker : (k : ℕ) → v k ≡ false → u k ≡ false) (end n base t : ℕ) (q : t ≡ past_failing v base n) (z : t ≢ base) where
  pub window_skip : run_from u end n t ≡ run_from u end n base
  window_skip =
      let b = tail_bounds v base n in
      let l : u (t - 1) ≡ false = ap (λ (x : ℕ). u (x - 1)) q ∙ weaker _ (tail_last v base n (omega arith)) in
      ap (run_from u end n) (omega arith) ∙ run_skip u end n base (t - 1) (omega arith) (omega arith) l

  -- and numbers after it that all fail
  pub window_beyond : (e : ℕ) → 1 ≤ n → t ≤ e → ((j : ℕ) → t ≤ j → j < e → u j ≡ false) → run_from u end n e ≡ run_from u end n base
  window_beyond e o i f =
      ap (run_from u end n) (omega arith) ∙ run_over u end n (e - t) t o (λ j a b. f j a (omega arith)) ∙ window_skip
