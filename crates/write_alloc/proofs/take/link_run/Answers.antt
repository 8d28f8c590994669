use mathlib.Core.Path.{◌≡◌, sym, ◌∙◌}
use Prim.Native.Nat.{◌+◌, ◌-◌}
use native.Mathlib.Omega.{arith}
use Rattle.write_alloc.proofs.Taking.{link-none, link-step}
use Rattle.write_alloc.proofs.take.link_run.Goals as goal

pub loop-k-preserved : goal.loop-k-preserved
loop-k-preserved _ c =
    let a = c.args in
    let l = c.loop-k in
    let e : a.first + a.n - (l.k + 1) ≡ a.first + a.n - l.k - 1 = omega arith in
    cc (link-step a.sys.now.y l.vol l.k (a.first + a.n - l.k) (omega arith))

pub returns : goal.returns
returns _ c = sym (link-none _ _ _ _ (omega arith)) ∙ c.loop-k.invariant
