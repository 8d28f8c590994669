use Prim.Native.Nat.{◌+◌, ◌-◌}
use mathlib.Core.Bool.{cond}
use mathlib.Core.Path.{◌≡◌, sym, ◌∙◌}
use native.Mathlib.Omega.{arith}
use lib.Dec.{eqb}
use Rattle.std.proofs.lemmas.Bool.Decides.{nat_tests}
use Rattle.boot.proofs.Apart.{in_heap_lem, heap_in}
use Rattle.stream.proofs.ChainLaws.{walk_end, walk_wrong, walk_none, walk_more, walk_start}
use Rattle.stream.proofs.walk.fat_chain.Goals.{then-before-goal, else-before-goal}
use Rattle.stream.proofs.walk.fat_chain.Goals as goal

pub loop-before-init : goal.loop-before-init
loop-before-init _ c =
    let z : c.args.sys.now.y.count - 0 ≡ c.args.sys.now.y.count = omega arith in
    (omega arith, (omega arith, rw z (walk_start _ _ _ _ _ _ (heap_in _ _ (omega arith) (omega arith)))))

pub returns-then-v : goal.returns-then-v
returns-then-v _ c =
    let l = c.loop-before in
    let s : c.if-before-goal.seen ≡ cond (eqb l.before c.args.goal) l.k l.seen =
    elim c.if-before-goal.branch [
      | then-before-goal w ↦ grind (arith, nat_tests)
      | else-before-goal w ↦ grind (arith, nat_tests)
    ] in
    (cc) ∙ (sym (walk_end _ _ _ _ _ _ _ _ _ _ _ (omega arith) (cc)) ∙ l.invariant.1.1)

pub returns-then-not-in_heap : goal.returns-then-not-in_heap
returns-then-not-in_heap _ c = sym (walk_wrong _ _ _ _ _ _ _ _ _ _ _ (omega arith) (λ z. omega arith) (cc)) ∙ c.loop-before.invariant.1.1

pub loop-before-preserved : goal.loop-before-preserved
loop-before-preserved _ c =
    let l = c.loop-before in
    let h = in_heap_lem c.args.sys.now.y.count c.fat_entry-v.result (cc) in
    let z : c.args.sys.now.y.count - (l.before + 1) ≡ c.args.sys.now.y.count - l.before - 1 = omega arith in
    let s : c.if-before-goal.seen ≡ cond (eqb l.before c.args.goal) l.k l.seen =
    elim c.if-before-goal.branch [
      | then-before-goal w ↦ grind (arith, nat_tests)
      | else-before-goal w ↦ grind (arith, nat_tests)
    ] in
    (h.0, (h.1, (cc) ∙ (sym (walk_more _ _ _ _ _ _ _ _ _ _ _ (omega arith) (λ z. omega arith) (cc)) ∙ l.invariant.1.1)))

pub returns : goal.returns
returns _ c = sym (walk_none _ _ _ _ _ _ _ _ _ _ _ (omega arith)) ∙ c.loop-before.invariant.1.1
