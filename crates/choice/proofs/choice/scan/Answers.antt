use Prim.Native.Nat.{ℕ, ◌-◌}
use mathlib.Core.Path.{◌≡◌, sym, ◌∙◌}
use mathlib.Core.Bool.{false, not}
use mathlib.Core.List.{List}
use native.Mathlib.Omega.{arith}
use borrow.Author.Tests.{not-false}
use Rattle.boot.specs.declared.layout.Layout.{Layout}
use Rattle.metadata.specs.Marks.{marked}
use Rattle.metadata.specs.Usable.{is_usable}
use Rattle.metadata.proofs.Stores.{free_marked, usable-not_free}
use Rattle.metadata.proofs.UnmarkedLaws.{before_unusable}
use Rattle.search.proofs.Runs.{run_none, window_hit, window_skip, window_beyond}
use Rattle.choice.proofs.choice.scan.Goals as goal

-- a marked cluster is not usable
weaker : (y : Layout) (d m : List ℕ) (k : ℕ) → not (marked y d k) ≡ false → is_usable y d m k ≡ false
weaker y d m k e = usable-not_free y d m k (free_marked y d m k (not-false (marked y d k) e))

pub returns-then-last-base : goal.returns-then-last-base
returns-then-last-base _ c =
    let a = c.args in
    let l = c.loop-base in
    let t = c.usable_tail-last in
    sym (window_hit (is_usable a.sys.now.y a.vol.now a.sys.now.map.now) a.end a.n l.base t.result t.ensures.0 (omega arith) (omega arith)) ∙ l.invariant.1.1

pub loop-base-preserved-then-next-base : goal.loop-base-preserved-then-next-base
loop-base-preserved-then-next-base _ c =
    let a = c.args in
    let l = c.loop-base in
    let t = c.usable_tail-last in
    (omega arith, (omega arith, window_skip (is_usable a.sys.now.y a.vol.now a.sys.now.map.now) (is_usable a.sys.now.y a.vol.now a.sys.now.map.now) (λ k e. e) a.end a.n l.base t.result t.ensures.0 (λ z. omega arith) ∙ l.invariant.1.1))

pub loop-base-preserved-then-next-base-2 : goal.loop-base-preserved-then-next-base-2
loop-base-preserved-then-next-base-2 _ c =
    let a = c.args in
    let l = c.loop-base in
    let t = c.unmarked_tail-next in (
      omega arith,
      (
        omega arith,
        window_beyond (is_usable a.sys.now.y a.vol.now a.sys.now.map.now) (λ k. not (marked a.sys.now.y a.vol.now k)) (weaker a.sys.now.y a.vol.now a.sys.now.map.now) a.end a.n l.base t.result t.ensures.0 (λ z. omega arith) c.first_unmarked-base.result (omega arith) (omega arith)
            (λ j i b. before_unusable a.sys.now.y a.vol.now a.sys.now.map.now t.result (a.end - t.result) j i (omega arith))
            ∙ l.invariant.1.1,
      ),
    )

pub loop-base-preserved : goal.loop-base-preserved
loop-base-preserved _ c =
    let a = c.args in
    let l = c.loop-base in
    let t = c.unmarked_tail-next in
    (omega arith, (omega arith, window_skip (is_usable a.sys.now.y a.vol.now a.sys.now.map.now) (λ k. not (marked a.sys.now.y a.vol.now k)) (weaker a.sys.now.y a.vol.now a.sys.now.map.now) a.end a.n l.base t.result t.ensures.0 (λ z. omega arith) ∙ l.invariant.1.1))

pub returns : goal.returns
returns _ c = sym (run_none _ _ _ _ (omega arith)) ∙ c.loop-base.invariant.1.1
