-- The first cluster that is not marked: those before it are, so that none of them may be taken. Assumes nothing.
use mathlib.Core.Path.{◌≡◌, ap, ◌∙◌}
use mathlib.Core.Bool.{true, false, not}
use mathlib.Core.List.{List}
use Prim.Native.Nat.{ℕ, ◌+◌, ◌-◌, ◌*◌, ◌≤◌, ◌<◌}
use native.Mathlib.Omega.{arith}
use borrow.Author.Tests.{not-false, not-true}
use lib.ListN.{take, drop}
use Rattle.primitives.specs.Internal.{bit_is}
use Rattle.primitives.proofs.ByteLaws.{clear_bit_lem}
use Rattle.search.specs.Search.{fewest}
use Rattle.search.proofs.Lowest.{fewest_bounds, fewest_before, fewest_at, fewest_shift}
use Rattle.boot.specs.declared.layout.Layout.{Layout}
use Rattle.metadata.specs.Marks.{marked}
use Rattle.metadata.specs.Internal.{first_unmarked}
use Rattle.metadata.specs.Usable.{is_usable}
use Rattle.metadata.proofs.Stores.{free_marked, usable-not_free}
use Rattle.metadata.proofs.WindowLaws.{bit_mark}

module _ (y : Layout) (d : List ℕ) where
  -- the search of the bitmap's part
  pub unmarked_part : (c k n r : ℕ) → 2 ≤ k → k - 2 + n ≤ 8 * c → r ≡ fewest (bit_is (take c (drop y.bitmap d)) 0) n (k - 2) → r + 2 ≡ first_unmarked y d k n
  unfolding first_unmarked
  unmarked_part c k n r l h q =
      let e : k - 2 + 2 ≡ k = omega arith in
      ap (λ (x : ℕ). x + 2) q
      ∙ fewest_shift _ (λ j. not (marked y d j)) 2 n (k - 2) (λ j a b. clear_bit_lem (take c (drop y.bitmap d)) j ∙ ap not (bit_mark y d c j (omega arith)))
      ∙ ap (fewest (λ j. not (marked y d j)) n) e

  pub unmarked_bounds : (k n : ℕ) → (k ≤ first_unmarked y d k n) × (first_unmarked y d k n ≤ k + n)
  unfolding first_unmarked
  unmarked_bounds k n = fewest_bounds (λ j. not (marked y d j)) n k

  -- each cluster before it is marked
  pub unmarked_before : (k n j : ℕ) → k ≤ j → j < first_unmarked y d k n → marked y d j ≡ true
  unfolding first_unmarked
  unmarked_before k n j l h = not-false (marked y d j) (fewest_before (λ j. not (marked y d j)) n k j l h)

  -- it is not, where there is one
  pub unmarked_at : (k n : ℕ) → first_unmarked y d k n < k + n → marked y d (first_unmarked y d k n) ≡ false
  unfolding first_unmarked
  unmarked_at k n h = not-true (marked y d (fewest (λ j. not (marked y d j)) n k)) (fewest_at (λ j. not (marked y d j)) n k h)

  pub before_unusable : (m : List ℕ) (k n j : ℕ) → k ≤ j → j < first_unmarked y d k n → is_usable y d m j ≡ false
  before_unusable m k n j l h = usable-not_free y d m j (free_marked y d m j (unmarked_before k n j l h))
