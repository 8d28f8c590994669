use Prim.Native.Nat.{◌-◌}
use mathlib.Core.Path.{sym, ◌∙◌, ap}
use native.Mathlib.Omega.{arith}
use Rattle.search.proofs.Lowest.{fewest_at}
use Rattle.metadata.specs.Usable.{is_usable}
use Rattle.write_alloc.proofs.Taking.{takes_end, takes_done, takes_past, takes_yes, took, one_taken}
use Rattle.write_alloc.proofs.take.take_usable.Goals as goal

pub loop-k-preserved : goal.loop-k-preserved
loop-k-preserved c =
    let l = c.loop-k in
    let i = l.invariant in
    let p = c.requires in
    let a = c.args in
    let q = c.in-Some in
    let len = l.auto.vol ∙ p.0 in
    let u = ap (is_usable a.sys.now.y l.vol a.sys.now.map.now) q.ensures.0 ∙ fewest_at (is_usable a.sys.now.y l.vol a.sys.now.map.now) (a.end - l.k) l.k (omega arith) in (
      omega arith,
      (
        omega arith,
        (
          one_taken _ _ _ _ _ a.sys.now.laid (a.sys.now.apart (omega arith)) len (omega arith) (omega arith) i.1.0 c.take_one.ensures,
          (cc)
              ∙ (sym (takes_past _ _ _ _ l.k _ _ _ (omega arith) q.ensures.0 ∙ takes_yes _ _ _ _ _ _ _ a.sys.now.laid (a.sys.now.apart (omega arith)) len (omega arith) (omega arith) (omega arith) (omega arith) i.1.0 i.1.1.0 u)
              ∙ i.1.1.1),
        ),
      ),
    )

pub returns-else-taken-ne0 : goal.returns-else-taken-ne0
returns-else-taken-ne0 c = took _ _ _ _ _ _ _ _ _ _ (sym (takes_done _ _ _ _ _ _ _ (omega arith)) ∙ c.loop-k.invariant.1.1.1)

pub returns-after-loop-k : goal.returns-after-loop-k
returns-after-loop-k c = took _ _ _ _ _ _ _ _ _ _ (sym (takes_end _ _ _ _ _ _ _ (omega arith)) ∙ c.loop-k.invariant.1.1.1)

pub returns-in_default : goal.returns-in_default
returns-in_default c =
    let l = c.loop-k in
    took _ _ _ _ _ _ _ _ _ _
    (sym (takes_past _ _ _ _ l.k _ _ _ (omega arith) (sym c.in_default.ensures) ∙ takes_end _ _ _ _ _ _ _ (omega arith)) ∙ l.invariant.1.1.1)
