use Prim.Native.Nat.{ℕ, ◌+◌, ◌-◌, min}
use mathlib.Core.Path.{◌≡◌, sym, ◌∙◌, ap}
use mathlib.Core.Bool.{true, false}
use mathlib.Core.List.{List}
use native.Mathlib.Omega.{arith}
use borrow.Author.Rules.{rules}
use Rattle.boot.specs.declared.layout.Layout.{Layout}
use Rattle.boot.specs.Layout.{in_heap}
use Rattle.boot.proofs.Apart.{in_heap_lem, heap_in}
use Rattle.metadata.specs.Marks.{marked}
use Rattle.metadata.specs.Internal.{first_unmarked}
use Rattle.metadata.proofs.UnmarkedLaws.{unmarked_bounds, unmarked_before, unmarked_at}
use Rattle.stream.specs.Stream.{run_cause}
use Rattle.stream.proofs.ChainLaws.{run_none, run_outside, run_unmarked, run_jump}
use Rattle.stream.proofs.walk.run_cause.Goals as goal

-- a run from a cluster of the heap on, up to the first of its clusters that is unmarked or outside the heap
module _ (y : Layout) (d : List ℕ) (first n next : ℕ) (i : in_heap y.count first ≡ true) (e : next ≡ first_unmarked y d first (min n (y.count + 2 - first))) where
  run_past : run_cause y.count (marked y d) first n ≡ run_cause y.count (marked y d) next (n - (next - first))
  run_past =
      let h = in_heap_lem y.count first i in
      let b = unmarked_bounds y d first (min n (y.count + 2 - first)) in
      let q : first + (next - first) ≡ next = omega arith in
      run_jump y.count (marked y d) (next - first) first n (omega arith)
      (λ j s t. (heap_in y.count j (omega arith) (omega arith), unmarked_before y d first (min n (y.count + 2 - first)) j s (omega arith)))
      ∙ ap (λ (k : ℕ). run_cause y.count (marked y d) k (n - (next - first))) q

  run-whole : next - first ≡ n → 0 ≡ run_cause y.count (marked y d) first n
  run-whole h = sym (run_past ∙ run_none y.count (marked y d) next (n - (next - first)) (omega arith))

  run-stops : (next - first ≡ n → ⊥) → in_heap y.count next ≡ true → 6 ≡ run_cause y.count (marked y d) first n
  run-stops h w =
      let a = in_heap_lem y.count first i in
      let z = in_heap_lem y.count next w in
      let b = unmarked_bounds y d first (min n (y.count + 2 - first)) in
      sym (run_past ∙ run_unmarked y.count (marked y d) next (n - (next - first)) (omega arith) w
      (ap (marked y d) e ∙ unmarked_at y d first (min n (y.count + 2 - first)) (omega arith)))

  run-leaves : (next - first ≡ n → ⊥) → in_heap y.count next ≡ false → 2 ≡ run_cause y.count (marked y d) first n
  run-leaves h w =
      let b = unmarked_bounds y d first (min n (y.count + 2 - first)) in
      sym (run_past ∙ run_outside y.count (marked y d) next (n - (next - first)) (omega arith) w)

pub overflow_sub-sys : goal.overflow_sub-sys
overflow_sub-sys _ c =
    let h = in_heap_lem c.args.sys.now.y.count c.args.first (cc) in
    omega arith

pub first_unmarked-next-requires : goal.first_unmarked-next-requires
first_unmarked-next-requires _ c =
    let h = in_heap_lem c.args.sys.now.y.count c.args.first (cc) in
    search rules

pub returns-then-next-first : goal.returns-then-next-first
returns-then-next-first _ c = run-whole _ _ _ _ _ (cc) (c.first_unmarked-next.ensures.0 ∙ ap (first_unmarked c.args.sys.now.y c.args.vol.now c.args.first) (omega arith)) (omega arith)

pub returns-then-in_heap-2 : goal.returns-then-in_heap-2
returns-then-in_heap-2 _ c = run-stops _ _ _ _ _ (cc) (c.first_unmarked-next.ensures.0 ∙ ap (first_unmarked c.args.sys.now.y c.args.vol.now c.args.first) (omega arith)) (λ z. omega arith) (cc)

pub returns-else-in_heap-2 : goal.returns-else-in_heap-2
returns-else-in_heap-2 _ c = run-leaves _ _ _ _ _ (cc) (c.first_unmarked-next.ensures.0 ∙ ap (first_unmarked c.args.sys.now.y c.args.vol.now c.args.first) (omega arith)) (λ z. omega arith) (cc)

pub returns-else-in_heap : goal.returns-else-in_heap
returns-else-in_heap _ c = sym (run_outside _ _ _ _ (omega arith) (cc))
