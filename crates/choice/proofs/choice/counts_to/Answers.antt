use Prim.Native.Nat.{ℕ, ◌+◌, ◌-◌, ◌≤◌, ◌<◌}
use mathlib.Core.Path.{◌≡◌, sym, ◌∙◌, ap}
use mathlib.Core.Bool.{Bool}
use native.Mathlib.Omega.{arith}
use borrow.Author.Tests.{lt-leb}
use Rattle.tables.specs.Count.{count}
use Rattle.tables.proofs.CountLaws.{count_none, count_yes, count-beyond}
use Rattle.search.specs.Search.{fewest}
use Rattle.search.proofs.Lowest.{fewest_bounds, fewest_before, fewest_at}
use Rattle.metadata.specs.Usable.{is_usable}
use Rattle.choice.proofs.choice.counts_to.Goals as goal

-- what is counted from k on, by the first that passes
module _ (u : ℕ → Bool) (k end : ℕ) (h : k ≤ end) where
  to-next : (next : ℕ) → next ≡ fewest u (end - k) k → count u k (end - k) ≡ count u next (end - next)
  to-next next e =
      let b = fewest_bounds u (end - k) k in
      count-beyond u k next end (omega arith) (omega arith) (λ j s t. fewest_before u (end - k) k j s (omega arith))

  next-none : fewest u (end - k) k ≡ k + (end - k) → count u k (end - k) ≡ 0
  next-none e = to-next end (omega arith) ∙ count_none u end (end - end) (omega arith)

  next_one : (next : ℕ) → next ≡ fewest u (end - k) k → next < end → count u k (end - k) ≡ 1 + count u (next + 1) (end - (next + 1))
  next_one next e l = to-next next e ∙ count_yes u next end l (ap u e ∙ fewest_at u (end - k) k (omega arith))

pub returns-in_default : goal.returns-in_default
returns-in_default _ c =
    let a = c.args in
    let l = c.loop in
    let z = next-none (is_usable a.sys.now.y a.vol.now a.sys.now.map.now) l.k (a.sys.now.y.count + 2) (omega arith) c.in_default.ensures in
    sym (lt-leb a.n (count (is_usable a.sys.now.y a.vol.now a.sys.now.map.now) 2 a.sys.now.y.count) (omega arith))

pub loop-preserved : goal.loop-preserved
loop-preserved _ c =
    let a = c.args in
    let l = c.loop in
    let s = c.in-Some.ensures in
    let e = next_one (is_usable a.sys.now.y a.vol.now a.sys.now.map.now) l.k (a.sys.now.y.count + 2) (omega arith) _ s.0 (omega arith) in
    (omega arith, (omega arith, omega arith))
