use mathlib.Core.Path.{◌≡◌, sym, ◌∙◌}
use Prim.Native.Nat.{◌+◌, ◌-◌}
use native.Mathlib.Omega.{arith}
use borrow.Author.Rules.{rules}
use Rattle.boot.proofs.Apart.{in_heap_lem}
use Rattle.stream.proofs.StreamLaws.{along_head}
use Rattle.write_shrink.proofs.Cutting.{free_one, free_none, free_step, free_heap, free_distinct}
use Rattle.write_shrink.proofs.shrink.free_from.Goals as goal

pub next_cluster-next-requires : goal.next_cluster-next-requires
next_cluster-next-requires _ c =
    let h = in_heap_lem _ _ (along_head _ _ _ _ _ (omega arith) c.loop.invariant.0) in
    (omega arith, search rules)

pub set_fat-requires : goal.set_fat-requires
set_fat-requires _ c =
    let h = in_heap_lem _ _ (along_head _ _ _ _ _ (omega arith) c.loop.invariant.0) in
    (omega arith, search rules)

pub mark-requires : goal.mark-requires
mark-requires _ c =
    let h = in_heap_lem _ _ (along_head _ _ _ _ _ (omega arith) c.loop.invariant.0) in
    (omega arith, search rules)

pub loop-preserved : goal.loop-preserved
loop-preserved _ c =
    let p = c.requires in
    let l = c.loop in
    let i = l.invariant in
    let len = l.auto.vol ∙ p.0 in
    let q : c.mark.new.vol ≡ free_one c.args.sys.now.y l.vol l.k = cc in
    let e = c.next_cluster-next.ensures in
    let s : c.args.n - (l.counter + 1) ≡ c.args.n - l.counter - 1 = omega arith in (
      rw (q, e, s) (free_heap _ _ c.args.sys.now.laid (c.args.sys.now.apart (omega arith)) len _ _ _ (omega arith) i.0 i.1.0),
      (
        rw (q, e, s) (free_distinct _ _ c.args.sys.now.laid (c.args.sys.now.apart (omega arith)) len _ _ _ (omega arith) i.0 i.1.0),
        rw (q, e, s) (sym (free_step _ _ c.args.sys.now.laid (c.args.sys.now.apart (omega arith)) len _ _ _ (omega arith) i.0 i.1.0) ∙ i.1.1),
      ),
    )

pub returns : goal.returns
returns _ c = sym (free_none _ _ _ _ _ _ (omega arith)) ∙ c.loop.invariant.1.1
