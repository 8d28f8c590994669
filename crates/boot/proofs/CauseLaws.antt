-- The first cause that is met. Assumes nothing.
use mathlib.Core.Path.{◌≡◌, refl, sym, ◌∙◌}
use mathlib.Core.Bool.{Bool, true, false, cond}
use mathlib.Core.List.{List, [], ◌∷◌}
use Prim.Native.Nat.{ℕ}
use native.Mathlib.Decide.{ℕ_discrete}
use native.Mathlib.Omega.{arith}
use lib.Dec.{eqb}
use borrow.Author.Tests.{eq-eqb, ne_eqb, eqb-true}
use Rattle.boot.specs.Layout.{in_heap}
use Rattle.boot.specs.declared.cause.Cause.{Cause}
use Rattle.boot.specs.declared.cause.Cause.TheVariants.{Limits, OutsideHeap, NoCluster, Endless, OtherChain, Unmarked, NoSpace, PastEnd, SystemCluster, NoFile, IsDirectory, BadName, BadAttributes, ShortList, BadZeros}
use Rattle.boot.specs.Causes.{cause_number, first_cause, heap_cause}

-- no cause has the number of success
pub cause-not0 : (e : Cause) → cause_number e ≡ 0 → ⊥
cause-not0 Limits z = absurd (omega arith)
cause-not0 OutsideHeap z = absurd (omega arith)
cause-not0 NoCluster z = absurd (omega arith)
cause-not0 Endless z = absurd (omega arith)
cause-not0 OtherChain z = absurd (omega arith)
cause-not0 Unmarked z = absurd (omega arith)
cause-not0 NoSpace z = absurd (omega arith)
cause-not0 PastEnd z = absurd (omega arith)
cause-not0 SystemCluster z = absurd (omega arith)
cause-not0 NoFile z = absurd (omega arith)
cause-not0 IsDirectory z = absurd (omega arith)
cause-not0 BadName z = absurd (omega arith)
cause-not0 BadAttributes z = absurd (omega arith)
cause-not0 ShortList z = absurd (omega arith)
cause-not0 BadZeros z = absurd (omega arith)

-- a cause that is not met is passed over
pub cause_skip : (c : ℕ) (cs : List ℕ) → c ≡ 0 → first_cause (c ∷ cs) ≡ first_cause cs
unfolding first_cause
cause_skip c cs e = rw (eq-eqb c 0 e) refl

-- the first that is met is the number
pub cause_met : (c : ℕ) (cs : List ℕ) → (c ≡ 0 → ⊥) → first_cause (c ∷ cs) ≡ c
unfolding first_cause
cause_met c cs n = rw (ne_eqb c 0 n) refl

-- none is met
pub cause_none : (c : ℕ) (cs : List ℕ) → first_cause (c ∷ cs) ≡ 0 → (c ≡ 0) × (first_cause cs ≡ 0)
cause_none c cs e =
    elim (ℕ_discrete c 0) [
      | yes z ↦ (z, sym (cause_skip c cs z) ∙ e)
      | no z ↦ absurd (z (sym (cause_met c cs z) ∙ e))
    ]

-- the last one decides where no other did
pub cause_last : (c : ℕ) → first_cause (c ∷ []) ≡ c
unfolding first_cause
cause_last c = by (eqb c 0) refl
  where
    by : (b : Bool) → eqb c 0 ≡ b → cond b 0 c ≡ c
    by true e = sym (eqb-true c 0 e)
    by false e = refl

pub heap_met : (C k : ℕ) → in_heap C k ≡ false → heap_cause C k ≡ 2
unfolding heap_cause
heap_met C k e = rw e refl

pub heap_kept : (C k : ℕ) → in_heap C k ≡ true → heap_cause C k ≡ 0
unfolding heap_cause
heap_kept C k e = rw e refl
