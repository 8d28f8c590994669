-- The first piece of a stream's clusters, step by step. Assumes nothing.
use mathlib.Core.Path.{◌≡◌, refl, sym, ◌∙◌, ap, ap₂}
use mathlib.Core.Logic.{◌≢◌}
use mathlib.Core.Bool.{Bool, true, false, ◌&&◌}
use Prim.Native.Nat.{ℕ, zero, suc, ◌+◌, ◌-◌, ◌≤◌, ◌<◌}
use native.Mathlib.Omega.{arith}
use lib.Dec.{eqb}
use borrow.Author.Tests.{eq-eqb, ne_eqb, eqb-true}
use Rattle.tables.specs.Lists.{every}
use Rattle.tables.proofs.Cases.{and_left, and_right}
use Rattle.stream.specs.Internal.{after, along, four_follow}
use Rattle.stream.specs.Pieces.{following, leading}
use Rattle.stream.proofs.StreamLaws.{along-step, along_rest, consec-along}
use Rattle.stream.proofs.PieceLaws.{leading-consec}

module _ (fat : ℕ → ℕ) where
  -- the clusters after k in a chain that follow it: none are left, the next number, another number
  pub following-none : (k n : ℕ) → n ≤ 0 → following k (along fat false (fat k) n) ≡ 0
  unfolding following along
  following-none k zero h = refl
  following-none k (suc n) h = absurd (omega arith)

  pub following_next : (k n : ℕ) → 0 < n → fat k ≡ k + 1
      → following k (along fat false (fat k) n) ≡ suc (following (k + 1) (along fat false (fat (k + 1)) (n - 1)))
  unfolding following after
  following_next k n h e =
      ap (λ (j : ℕ). following k (along fat false j n)) e ∙ ap (following k) (along-step fat false (k + 1) n h)
      ∙ (rw (eq-eqb (k + 1) (k + 1) refl) refl)

  pub following_other : (k n : ℕ) → 0 < n → fat k ≢ k + 1 → following k (along fat false (fat k) n) ≡ 0
  unfolding following
  following_other k n h e = ap (following k) (along-step fat false (fat k) n h) ∙ (rw (ne_eqb (fat k) (k + 1) e) refl)

  -- what is known of the clusters behind the next one
  pub heap_next : (p : ℕ → Bool) (k n : ℕ) → 0 < n → fat k ≡ k + 1 → every p (along fat false k (n + 1)) ≡ true
      → every p (along fat false (k + 1) (n - 1 + 1)) ≡ true
  unfolding after
  heap_next p k n h e w =
      let z : n + 1 - 1 ≡ n - 1 + 1 = omega arith in
      ap (λ (i : ℕ). every p (along fat false (k + 1) i)) (sym z) ∙ ap (λ (j : ℕ). every p (along fat false j (n + 1 - 1))) (sym e)
      ∙ along_rest p fat false k (n + 1) (omega arith) w

  -- ---- from the i-th cluster after k on, of n that come after it

  module _ (k n : ℕ) where
    -- how many follow cluster k + i
    abbrev rest : ℕ → ℕ
    rest i = following (k + i) (along fat false (fat (k + i)) (n - i))

    pub rest_next : (i : ℕ) → i < n → fat (k + i) ≡ k + i + 1 → rest i ≡ suc (rest (i + 1))
    rest_next i l e =
        let a : k + i + 1 ≡ k + (i + 1) = omega arith in
        let b : n - i - 1 ≡ n - (i + 1) = omega arith in
        following_next (k + i) (n - i) (omega arith) e ∙ ap₂ (λ (j m : ℕ). suc (following j (along fat false (fat j) m))) a b

    pub heap_rest : (p : ℕ → Bool) (i : ℕ) → i < n → fat (k + i) ≡ k + i + 1 → every p (along fat false (k + i) (n - i + 1)) ≡ true
        → every p (along fat false (k + (i + 1)) (n - (i + 1) + 1)) ≡ true
    heap_rest p i l e w =
        let a : k + i + 1 ≡ k + (i + 1) = omega arith in
        let b : n - i - 1 + 1 ≡ n - (i + 1) + 1 = omega arith in
        sym (ap₂ (λ (j m : ℕ). every p (along fat false j m)) a b) ∙ heap_next p (k + i) (n - i) (omega arith) e w

    -- four at a time
    module _ (i : ℕ) (h : i + 4 ≤ n) (e : four_follow fat (k + i) ≡ true) where
      abbrev one : Bool
      one = eqb (fat (k + i)) (k + i + 1)

      abbrev two : Bool
      two = eqb (fat (k + i + 1)) (k + i + 2)

      abbrev three : Bool
      three = eqb (fat (k + i + 2)) (k + i + 3)

      abbrev four : Bool
      four = eqb (fat (k + i + 3)) (k + i + 4)

      first : one && two ≡ true
      first = and_left (one && two) (three && four) (unfold four_follow in e)

      second : three && four ≡ true
      second = and_right (one && two) (three && four) (unfold four_follow in e)

      follows : (j : ℕ) → j < 4 → fat (k + (i + j)) ≡ k + (i + j) + 1
      follows j l = ap fat (omega arith) ∙ by j l ∙ (omega arith)
        where
          by : (j : ℕ) → j < 4 → fat (k + i + j) ≡ k + i + j + 1
          by zero l = let z : k + i + 0 ≡ k + i = omega arith in rw z (eqb-true (fat (k + i)) (k + i + 1) (and_left one two first))
          by (suc zero) l = eqb-true (fat (k + i + 1)) (k + i + 2) (and_right one two first) ∙ (omega arith)
          by (suc (suc zero)) l = eqb-true (fat (k + i + 2)) (k + i + 3) (and_left three four second) ∙ (omega arith)
          by (suc (suc (suc zero))) l = eqb-true (fat (k + i + 3)) (k + i + 4) (and_right three four second) ∙ (omega arith)
          by (suc (suc (suc (suc j)))) l = absurd (omega arith)

      rest_some : (j : ℕ) → j ≤ 4 → rest i ≡ j + rest (i + j)
      rest_some zero l = let z : i + 0 ≡ i = omega arith in rw z (omega arith)
      rest_some (suc j) l =
          let z : i + j + 1 ≡ i + suc j = omega arith in
          omega (arith, rest_some j (omega arith), rest_next (i + j) (omega arith) (follows j (omega arith)), ap rest z)

      pub rest_four : rest i ≡ 4 + rest (i + 4)
      rest_four = rest_some 4 (omega arith)

      module _ (p : ℕ → Bool) where
        heap_some : (j : ℕ) → j ≤ 4 → every p (along fat false (k + i) (n - i + 1)) ≡ true → every p (along fat false (k + (i + j)) (n - (i + j) + 1)) ≡ true
        heap_some zero l w = let z : i + 0 ≡ i = omega arith in rw z w
        heap_some (suc j) l w =
            let z : i + j + 1 ≡ i + suc j = omega arith in
            ap (λ (x : ℕ). every p (along fat false (k + x) (n - x + 1))) (sym z)
            ∙ heap_rest p (i + j) (omega arith) (follows j (omega arith)) (heap_some j (omega arith) w)

        pub heap_four : every p (along fat false (k + i) (n - i + 1)) ≡ true → every p (along fat false (k + (i + 4)) (n - (i + 4) + 1)) ≡ true
        heap_four = heap_some 4 (omega arith)

  pub leading-chain : (k n : ℕ) → 1 ≤ n → 1 + following k (along fat false (fat k) (n - 1)) ≡ leading (along fat false k n)
  unfolding leading after
  leading-chain k n h =
      let e : 1 + following k (along fat false (fat k) (n - 1)) ≡ suc (following k (along fat false (fat k) (n - 1))) = omega arith in
      e ∙ sym (ap leading (along-step fat false k n (omega arith)))

-- all of a run's clusters
pub leading-run : (fat : ℕ → ℕ) (run : Bool) (k n : ℕ) → run ≡ true → n ≡ leading (along fat run k n)
leading-run fat run k n e =
    sym (ap (λ (b : Bool). leading (along fat b k n)) e ∙ ap leading (sym (consec-along fat k n)) ∙ leading-consec k n)
