-- System clusters of a stream, and of a run. Assumes nothing.
use mathlib.Core.Path.{◌≡◌, refl, sym, ◌∙◌, ap}
use mathlib.Core.Bool.{Bool, true, false, not, cond}
use mathlib.Core.List.{List}
use Prim.Native.Nat.{ℕ, zero, suc, ◌-◌, ◌≤◌, ◌<◌}
use native.Mathlib.Numerals.{sub-one}
use native.Mathlib.Omega.{arith}
use lib.ListN.{drop}
use Rattle.primitives.specs.Internal.{bit_is}
use Rattle.tables.specs.Lists.{every, consec}
use Rattle.search.specs.Search.{all_from}
use Rattle.search.proofs.Runs.{all-every}
use Rattle.boot.specs.Limits.{in_map}
use Rattle.metadata.proofs.WindowLaws.{map-all}
use Rattle.stream.specs.Stream.{system_cause}
use Rattle.stream.specs.Internal.{after, along}
use Rattle.stream.proofs.BytesSteps.{every_drop}

-- a run has a system cluster where one of its bits of the map is set
pub run-system : (m : List ℕ) (k n : ℕ) (b : Bool) → 2 ≤ k → all_from (λ j. not (bit_is m 1 j)) (k - 2) n ≡ b → system_cause m (consec k n) ≡ cond b 0 9
unfolding system_cause
run-system m k n b h e = ap (λ b. cond b 0 9) (all-every (λ j. not (in_map m j)) k n ∙ sym (map-all m k n h) ∙ e)

-- ---- along a stream

module _ (fat : ℕ → ℕ) (run : Bool) where
  pub system-none : (m : List ℕ) (k n : ℕ) → n ≤ 0 → system_cause m (along fat run k n) ≡ 0
  unfolding system_cause along every
  system-none m k zero h = refl
  system-none m k (suc n) h = absurd (omega arith)

  pub system_hit : (m : List ℕ) (k n : ℕ) → 0 < n → in_map m k ≡ true → system_cause m (along fat run k n) ≡ 9
  unfolding system_cause along every
  system_hit m k zero h e = absurd (omega arith)
  system_hit m k (suc n) h e = rw e refl

  pub system-step : (m : List ℕ) (k n : ℕ) → 0 < n → in_map m k ≡ false
      → system_cause m (along fat run k n) ≡ system_cause m (along fat run (after fat run k) (n - 1))
  unfolding system_cause along every
  system-step m k zero h e = absurd (omega arith)
  system-step m k (suc n) h e = rw (e, sub-one) refl

-- ---- a list with none

none-every : (m ks : List ℕ) (b : Bool) → every (λ k. not (in_map m k)) ks ≡ b → ◌≡◌ {A = ℕ} (cond b 0 9) 0 → every (λ k. not (in_map m k)) ks ≡ true
none-every m ks true e z = e
none-every m ks false e z = absurd (omega arith)

pub system_clear : (m ks : List ℕ) → every (λ k. not (in_map m k)) ks ≡ true → system_cause m ks ≡ 0
unfolding system_cause
system_clear m ks e = rw e refl

-- what is left of it has none
pub system-drop : (m ks : List ℕ) (n : ℕ) → system_cause m ks ≡ 0 → system_cause m (drop n ks) ≡ 0
unfolding system_cause
system-drop m ks n e =
    let t = none-every m ks (every (λ k. not (in_map m k)) ks) refl e in
    rw (every_drop (λ k. not (in_map m k)) n ks t) refl
