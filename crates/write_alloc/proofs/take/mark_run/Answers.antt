use mathlib.Core.Path.{◌≡◌, sym, ◌∙◌}
use Prim.Native.Nat.{◌+◌, ◌-◌}
use native.Mathlib.Omega.{arith}
use Rattle.write_alloc.proofs.Taking.{mark_none, mark_step, mark_eight, byte_yes}
use Rattle.write_alloc.proofs.take.mark_run.Goals as goal

pub mark_byte-requires : goal.mark_byte-requires
mark_byte-requires _ c =
    let p = c.requires in
    let b = byte_yes _ _ (sym c.whole_byte.ensures ∙ c.if-whole_byte.true) in
    (omega arith, (omega arith, (omega arith, (omega arith, b.1))))

pub loop-k-preserved-then-whole_byte : goal.loop-k-preserved-then-whole_byte
loop-k-preserved-then-whole_byte _ c =
    let a = c.args in
    let l = c.loop-k in
    let b = byte_yes _ _ (sym c.whole_byte.ensures ∙ c.if-whole_byte.true) in
    let e : a.first + a.n - (l.k + 8) ≡ a.first + a.n - l.k - 8 = omega arith in
    (omega arith, (omega arith, cc (mark_eight a.sys.now.y l.vol l.k (a.first + a.n - l.k) b.0)))

pub loop-k-preserved : goal.loop-k-preserved
loop-k-preserved _ c =
    let a = c.args in
    let l = c.loop-k in
    let e : a.first + a.n - (l.k + 1) ≡ a.first + a.n - l.k - 1 = omega arith in
    (omega arith, (omega arith, cc (mark_step a.sys.now.y l.vol l.k (a.first + a.n - l.k) (omega arith))))

pub returns : goal.returns
returns _ c = sym (mark_none _ _ _ _ (omega arith)) ∙ c.loop-k.invariant.1.1
