use Prim.Native.Nat.{ℕ, ◌+◌, ◌-◌, ◌≤◌, ◌<◌}
use mathlib.Core.Path.{◌≡◌, sym, ◌∙◌, ap}
use mathlib.Core.Bool.{true, false, not}
use mathlib.Core.List.{List}
use native.Mathlib.Omega.{arith}
use Rattle.boot.specs.declared.layout.Layout.{Layout}
use Rattle.metadata.specs.Marks.{marked}
use Rattle.metadata.specs.Internal.{byte_unmarked}
use Rattle.metadata.proofs.WindowLaws.{byte_each}
use Rattle.search.specs.Internal.{past_failing}
use Rattle.search.proofs.Runs.{tail_none, tail_pass, tail_fail, tail_over}
use Rattle.choice.proofs.choice.unmarked_tail.Goals as goal

-- clusters of one byte that marks none
over : (y : Layout) (d : List ℕ) (low j k : ℕ) → 2 ≤ low → low ≤ j → j ≤ k → k ≤ j + 8 → byte_unmarked y d (k - 1) ≡ true
    → past_failing (λ i. not (marked y d i)) low (j - low) ≡ past_failing (λ i. not (marked y d i)) low (k - low)
over y d low j k g h t r e =
    tail_over (λ i. not (marked y d i)) low j k h t (λ i a b. ap not (byte_each y d (k - 1) e i (omega arith) (omega arith) (omega arith)))

pass : (y : Layout) (d : List ℕ) (low k : ℕ) → low < k → marked y d (k - 1) ≡ false
    → past_failing (λ i. not (marked y d i)) low (k - 1 - low) ≡ past_failing (λ i. not (marked y d i)) low (k - low)
pass y d low k h e = tail_pass (λ i. not (marked y d i)) low k h (ap not e)

fail : (y : Layout) (d : List ℕ) (low k : ℕ) → low < k → marked y d (k - 1) ≡ true → past_failing (λ i. not (marked y d i)) low (k - low) ≡ k
fail y d low k h e = tail_fail (λ i. not (marked y d i)) low k h (ap not e)

pub returns-then-allocated : goal.returns-then-allocated
returns-then-allocated _ c =
    let l = c.loop-k in
    (sym (fail _ _ _ _ (omega arith) (cc)) ∙ l.invariant.1.1, (omega arith, omega arith))

pub returns-then-k-low : goal.returns-then-k-low
returns-then-k-low _ c =
    let a = c.args in
    let l = c.loop-k in (
      sym (tail_none _ _ (a.low - a.low) (omega arith)) ∙ over _ _ _ a.low l.k (omega arith) (omega arith) (omega arith) (omega arith) (cc) ∙ l.invariant.1.1,
      (omega arith, omega arith),
    )

pub loop-k-preserved-then-byte_unmarked : goal.loop-k-preserved-then-byte_unmarked
loop-k-preserved-then-byte_unmarked _ c =
    let l = c.loop-k in
    (omega arith, (omega arith, over _ _ _ _ l.k (omega arith) (omega arith) (omega arith) (omega arith) (cc) ∙ l.invariant.1.1))

pub loop-k-preserved : goal.loop-k-preserved
loop-k-preserved _ c =
    let l = c.loop-k in
    (omega arith, (omega arith, pass _ _ _ _ (omega arith) (cc) ∙ l.invariant.1.1))

pub returns : goal.returns
returns _ c = (sym (tail_none _ _ _ (omega arith)) ∙ c.loop-k.invariant.1.1, (omega arith, omega arith))
