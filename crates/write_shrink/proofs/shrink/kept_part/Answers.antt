use mathlib.Core.Path.{◌≡◌, sym, ◌∙◌}
use Prim.Native.Nat.{◌+◌, ◌-◌}
use native.Mathlib.Omega.{arith}
use borrow.Author.Rules.{rules}
use Rattle.boot.proofs.Apart.{in_heap_lem}
use Rattle.stream.proofs.StreamLaws.{along_head, along_rest}
use Rattle.write_shrink.proofs.Cutting.{walk_none, walk_step, kept_none, kept_some}
use Rattle.write_shrink.proofs.shrink.kept_part.Goals as goal

pub returns-then-n-eq0 : goal.returns-then-n-eq0
returns-then-n-eq0 _ c = sym (kept_none _ _ _ _ (omega arith))

pub next_cluster-next-requires : goal.next_cluster-next-requires
next_cluster-next-requires _ c =
    let h = in_heap_lem _ _ (along_head _ _ _ _ _ (omega arith) c.requires.1) in
    (omega arith, search rules)

pub loop-init : goal.loop-init
loop-init _ c =
    let h = in_heap_lem _ _ (along_head _ _ _ _ _ (omega arith) c.requires.1) in
    (h.1, (c.next_cluster-next.ensures, (rw c.next_cluster-next.ensures (along_rest _ _ _ _ _ (omega arith) c.requires.1), sym (kept_some _ _ _ _ (λ z. omega arith)))))

pub next_cluster-next-requires-in-loop : goal.next_cluster-next-requires-in-loop
next_cluster-next-requires-in-loop _ c =
    let h = in_heap_lem _ _ (along_head _ _ _ _ _ (omega arith) c.loop.invariant.1.1.0) in
    search rules

pub loop-preserved : goal.loop-preserved
loop-preserved _ c =
    let i = c.loop.invariant in
    let e : c.args.n - (c.loop.counter + 1) ≡ c.args.n - c.loop.counter - 1 = omega arith in
    let h = in_heap_lem _ _ (along_head _ _ _ _ _ (omega arith) i.1.1.0) in
    (h.1, (c.next_cluster-next-in-loop.ensures, (rw (e, c.next_cluster-next-in-loop.ensures) (along_rest _ _ _ _ _ (omega arith) i.1.1.0), (cc) ∙ (sym (walk_step _ _ _ _ _ (omega arith)) ∙ i.1.1.1))))

pub returns : goal.returns
returns _ c = (cc) ∙ (sym (walk_none _ _ _ _ _ (omega arith)) ∙ c.loop.invariant.1.1.1)
