-- Clusters taken keep what each store keeps: all are marked or linked one by one, and none but usable ones are taken. Assumes nothing.
use mathlib.Core.Path.{◌≡◌, refl}
use mathlib.Core.Logic.{◌≢◌}
use mathlib.Core.Bool.{true}
use mathlib.Core.List.{List, [], ◌∷◌}
use Prim.Native.Nat.{ℕ, zero, suc, ◌+◌, ◌≤◌, ◌<◌}
use native.Mathlib.Omega.{arith}
use lib.Dec.{eqb}
use borrow.Author.Tests.{eqb-false}
use Rattle.tables.specs.Lists.{Mem, here, there, last_or}
use Rattle.tables.proofs.Cases.{clash, cond_case}
use Rattle.tables.proofs.ListLaws.{last_of}
use Rattle.boot.specs.declared.layout.Layout.{Layout}
use Rattle.boot.specs.Layout.{in_heap}
use Rattle.boot.proofs.Apart.{in_heap_lem, heap_in}
use Rattle.metadata.specs.Fat.{END, set_fat}
use Rattle.metadata.specs.Marks.{set_mark, mark_run}
use Rattle.metadata.specs.Usable.{is_usable}
use Rattle.metadata.proofs.Keeps.{Own, Keeps, Went, fat_on, mark_on}
use Rattle.choice.specs.declared.choice.Choice.{Choice}
use Rattle.choice.specs.declared.choice.Choice.TheVariants.{Run, Scattered, TooFew}
use Rattle.choice.specs.Choice.{choose, chosen}
use Rattle.write_alloc.specs.Take.{link_run, take_single, take_each}
use Rattle.write_alloc.specs.Outcome.{unchanged}
use Rattle.stream.specs.Stream.{empty}
use Rattle.write_alloc.specs.Allocate.{new_run, new_chain, by_choice, new_stream}
use Rattle.choice.proofs.ChoiceLaws.{choose_inside, length-chosen, in_chosen}

-- the usable clusters of e may be stored to
abbrev pub Taking : Layout → (ℕ → Type 0) → List ℕ → List ℕ → Type 0
Taking y P m e = (k : ℕ) → in_heap y.count k ≡ true → is_usable y e m k ≡ true → P k

module _ (y : Layout) (P : ℕ → Type 0) (K : List ℕ → List ℕ → Type 0) (s : Keeps y P K) (d : List ℕ) where
  pub mark_run_on : (n k : ℕ) (e : List ℕ) → Went y K d e → ((j : ℕ) → k ≤ j → j < k + n → Own y P j) → Went y K d (mark_run y e k n)
  unfolding mark_run
  mark_run_on zero k e w o = w
  mark_run_on (suc n) k e w o =
      mark_run_on n (k + 1) (set_mark y e k true) (mark_on y P K s d e w k true (o k (omega arith) (omega arith)))
      (λ j a b. o j (omega arith) (omega arith))

  pub link-run_on : (n k : ℕ) (e : List ℕ) → Went y K d e → ((j : ℕ) → k ≤ j → j < k + n → Own y P j) → Went y K d (link_run y e k n)
  unfolding link_run
  link-run_on zero k e w o = w
  link-run_on (suc n) k e w o =
      link-run_on n (k + 1) (set_fat y e k (k + 1)) (fat_on y P K s d e w k (k + 1) (o k (omega arith) (omega arith)))
      (λ j a b. o j (omega arith) (omega arith))

  pub take_on : (ks : List ℕ) (prev : ℕ) (e : List ℕ) → Went y K d e → (prev ≢ 0 → Own y P prev) → ((k : ℕ) → Mem k ks → Own y P k)
      → Went y K d (take_each y e prev ks)
  unfolding take_each take_single
  take_on [] prev e w p o = w
  take_on (k ∷ ks) prev e w p o =
      let i = o k (here refl) in
      let w₁ = mark_on y P K s d e w k true i in
      take_on ks k (take_single y e prev k)
      (cond_case (Went y K d) (eqb prev 0) (set_mark y e k true) (set_fat y (set_mark y e k true) prev k) (λ _. w₁)
      (λ t. fat_on y P K s d (set_mark y e k true) w₁ prev k (p (eqb-false prev 0 t))))
      (λ _. i) (λ j q. o j (there q))

  -- a new stream
  pub new_on : (m e : List ℕ) → Went y K d e → Taking y P m e → (n start hint : ℕ) → 1 ≤ n → in_heap y.count start ≡ true
      → Went y K d (new_stream y e m n start hint).volume
  unfolding new_stream new_run new_chain
  new_on m e w u n start hint some h = by (choose (is_usable y e m) y.count n start) refl
    where
      ks : List ℕ
      ks = chosen (is_usable y e m) y.count n start

      low : 2 ≤ start
      low = (in_heap_lem y.count start h).0

      high : start ≤ y.count + 2
      high = let r = (in_heap_lem y.count start h).1 in omega arith

      all_own : (k : ℕ) → Mem k ks → Own y P k
      all_own k i = let r = in_chosen (is_usable y e m) y.count n start low high k i in (r.0, u k r.0 r.1)

      by : (c : Choice) → choose (is_usable y e m) y.count n start ≡ c
          → Went y K d (by_choice c (λ k. new_run y e k n) (new_chain y e (chosen (is_usable y e m) y.count n start)) (unchanged 7 empty hint e)).volume
      by (Run k) q =
          let r = choose_inside (is_usable y e m) y.count n start low k q in
          mark_run_on n k e w (λ j a b. let i = heap_in y.count j (omega arith) (omega arith) in (i, u j i (r.2 j a b)))
      by Scattered q =
          let l = length-chosen (is_usable y e m) y.count n start low high (λ z. clash (cc)) in
          fat_on y P K s d (take_each y e 0 ks) (take_on ks 0 e w (λ z. absurd (z refl)) all_own) (last_or 0 ks) END
          (all_own (last_or 0 ks) (last_of 0 ks (omega arith)))
      by TooFew q = w
