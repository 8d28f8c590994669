-- The first of the usable clusters around a start. Assumes nothing.
use mathlib.Core.Path.{◌≡◌, refl, sym, ◌∙◌, ap}
use mathlib.Core.Bool.{Bool, true, false, false≢true}
use mathlib.Core.List.{List, [], ◌∷◌}
use Prim.Native.Nat.{ℕ, zero, suc, ◌+◌, ◌-◌, ◌≤◌, ◌<◌}
use native.Mathlib.Decide.{ℕ_discrete}
use native.Mathlib.Omega.{arith}
use Rattle.std.specs.Prelude.{Option, Some, None, unwrap_or, MatchOption}
use Rattle.tables.specs.Count.{keep}
use Rattle.tables.proofs.Cases.{not_so}
use Rattle.search.specs.Search.{fewest}
use Rattle.search.proofs.Lowest.{fewest_bounds, fewest_before, fewest_at}
use Rattle.choice.specs.Choice.{around}
use Rattle.choice.specs.Internal.{first_usable}

module _ (u : ℕ → Bool) where
  -- the first that passes
  keep_head : (s n k : ℕ) → s ≤ k → k < s + n → u k ≡ true → ((b : ℕ) → s ≤ b → b < k → u b ≡ true → ⊥)
      → (l : List ℕ) × (keep u s n ≡ k ∷ l)
  unfolding keep
  keep_head s zero k l h e o = absurd (omega arith)
  keep_head s (suc n) k l h e o =
      elim (ℕ_discrete s k) [
        | yes q ↦ (keep u (suc s) n, (let t : u s ≡ true = rw q e in rw (t, q) refl))
        | no q ↦ (let r = keep_head (suc s) n k (omega arith) (omega arith) e (λ b p. o b (omega arith)) in
            (r.0, (let f : u s ≡ false = not_so (u s) (o s (omega arith) (omega arith)) in rw f r.1)))
      ]

  keep-nil : (s n : ℕ) → ((b : ℕ) → s ≤ b → b < s + n → u b ≡ true → ⊥) → keep u s n ≡ []
  unfolding keep
  keep-nil s zero o = refl
  keep-nil s (suc n) o =
      let f : u s ≡ false = not_so (u s) (o s (omega arith) (omega arith)) in
      rw f (keep-nil (suc s) n (λ b p q. o b (omega arith) (omega arith)))

  none_before : (s n b : ℕ) → s ≤ b → b < fewest u n s → u b ≡ true → ⊥
  none_before s n b l h t = false≢true (sym (fewest_before u n s b l h) ∙ t)

  -- none passes where the search finds none
  keep-unfound : (s n : ℕ) → fewest u n s ≡ s + n → keep u s n ≡ []
  keep-unfound s n e = keep-nil s n (λ b l h. none_before s n b l (omega arith))

  head : (s n k : ℕ) → k ≡ fewest u n s → k < s + n → (l : List ℕ) × (keep u s n ≡ k ∷ l)
  head s n k e h =
      let b = fewest_bounds u n s in
      keep_head s n k (omega arith) h (ap u e ∙ fewest_at u n s (omega arith)) (λ b p q. none_before s n b p (omega arith))

  module _ (C start : ℕ) (low : 2 ≤ start) (high : start < C + 2) where
    -- one from start on
    pub first_after : (k : ℕ) → k ≡ fewest u (C + 2 - start) start → k < C + 2 → first_usable u C start ≡ k
    unfolding first_usable around
    first_after k e h = let r = head start (C + 2 - start) k e (omega arith) in rw r.1 refl

    -- none there: what the search before it finds, 0 where that finds none either
    pub first_before : fewest u (C + 2 - start) start ≡ start + (C + 2 - start) → (o : Option ℕ)
        → MatchOption o (fewest u (start - 2) 2 ≡ 2 + (start - 2)) (λ k. (k ≡ fewest u (start - 2) 2) × ((2 ≤ k) × (k < 2 + (start - 2))))
        → first_usable u C start ≡ unwrap_or o 0
    unfolding first_usable around
    first_before e (Some k) f = let r = head 2 (start - 2) k f.0 f.1.1 in rw (keep-unfound start (C + 2 - start) e, r.1) refl
    first_before e None f = rw (keep-unfound start (C + 2 - start) e, keep-unfound 2 (start - 2) f) refl
