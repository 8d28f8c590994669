use mathlib.Core.Path.{◌≡◌, sym, ◌∙◌}
use Prim.Native.Nat.{◌+◌, ◌-◌}
use native.Mathlib.Decide.{dec_le}
use native.Mathlib.Omega.{arith}
use borrow.Author.Rules.{rules}
use Rattle.boot.proofs.Apart.{in_heap_lem}
use Rattle.metadata.specs.Fat.{fat_entry}
use Rattle.stream.proofs.StreamLaws.{after-chain, along_head, along_rest}
use Rattle.stream.proofs.BytesSteps.{reach_none, reach_step, reach_run, run_end}
use Rattle.stream.proofs.bytes.seek.Goals as goal

pub overflow_add-result : goal.overflow_add-result
overflow_add-result _ c =
    let a = c.args in
    let p = c.requires in
    elim (dec_le a.steps 0) [
      | yes h ↦ omega arith
      | no h ↦ let b = run_end _ _ _ _ _ c.if-run.true p.1 (omega arith) in search rules
    ]

pub returns-then-run : goal.returns-then-run
returns-then-run _ c = sym (reach_run _ _ _ _ (cc))

pub fat_entry-k-requires : goal.fat_entry-k-requires
fat_entry-k-requires _ c =
    let h = in_heap_lem _ _ (along_head _ _ _ _ _ (omega arith) c.loop.invariant.0) in
    search rules

pub loop-preserved : goal.loop-preserved
loop-preserved _ c =
    let a = c.args in
    let l = c.loop in
    let e = c.fat_entry-k.ensures ∙ sym (after-chain (fat_entry a.sys.now.y a.vol.now) a.run l.k c.if-run.false) in
    let z : a.steps - (l.counter + 1) ≡ a.steps - l.counter - 1 = omega arith in
    rw (e, z) (along_rest _ _ _ _ _ (omega arith) l.invariant.0, sym (reach_step _ _ _ _ (omega arith)) ∙ l.invariant.1)

pub returns : goal.returns
returns _ c = sym (reach_none _ _ _ _ (omega arith)) ∙ c.loop.invariant.1
