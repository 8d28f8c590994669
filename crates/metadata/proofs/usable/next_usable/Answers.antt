use Prim.Native.Nat.{ℕ, ◌+◌}
use mathlib.Core.Path.{◌≡◌, sym, ◌∙◌, ap}
use mathlib.Core.Bool.{false}
use mathlib.Core.List.{List}
use native.Mathlib.Decide.{dec_lt, ℕ_discrete}
use native.Mathlib.Omega.{arith}
use Rattle.search.proofs.Lowest.{fewest_is}
use Rattle.boot.specs.declared.layout.Layout.{Layout}
use Rattle.metadata.specs.Internal.{first_unmarked}
use Rattle.metadata.specs.Usable.{is_usable}
use Rattle.metadata.proofs.UnmarkedLaws.{before_unusable}
use Rattle.metadata.proofs.usable.next_usable.Invariants.{NoneTo}
use Rattle.metadata.proofs.usable.next_usable.Goals as goal

none-on : (y : Layout) (d m : List ℕ) (k at n next : ℕ) → NoneTo y d m k at → next ≡ first_unmarked y d at n → NoneTo y d m k next
none-on y d m k at n next f e j a b =
    elim (dec_lt j at) [
      | yes h ↦ f j a h
      | no h ↦ before_unusable y d m at n j (omega arith) (omega arith)
    ]

none_more : (y : Layout) (d m : List ℕ) (k at : ℕ) → NoneTo y d m k at → is_usable y d m at ≡ false → NoneTo y d m k (at + 1)
none_more y d m k at f e j a b =
    elim (ℕ_discrete j at) [
      | yes q ↦ ap (is_usable y d m) q ∙ e
      | no q ↦ f j a (omega arith)
    ]

pub returns-then-free-end : goal.returns-then-free-end
returns-then-free-end _ c =
    let l = c.loop-at in
    let f = none-on _ _ _ _ l.at _ _ l.invariant.1.1 c.first_unmarked-free.ensures.0 in
    fewest_is _ _ _ _ (omega arith) (omega arith) (λ h. absurd (omega arith)) (λ j a b. f j a (omega arith))

pub returns-then-usable : goal.returns-then-usable
returns-then-usable _ c =
    let l = c.loop-at in
    let f = none-on _ _ _ _ l.at _ _ l.invariant.1.1 c.first_unmarked-free.ensures.0 in
    (sym (fewest_is _ _ _ _ (omega arith) (omega arith) (λ h. cc) f), (omega arith, omega arith))

pub loop-at-preserved : goal.loop-at-preserved
loop-at-preserved _ c =
    let l = c.loop-at in
    let f = none-on _ _ _ _ l.at _ _ l.invariant.1.1 c.first_unmarked-free.ensures.0 in
    (omega arith, (omega arith, none_more _ _ _ _ _ f (cc)))

pub returns : goal.returns
returns _ c =
    let l = c.loop-at in
    fewest_is _ _ _ _ (omega arith) (omega arith) (λ h. absurd (omega arith)) (λ j a b. l.invariant.1.1 j a (omega arith))
