use Prim.Native.Nat.{◌+◌, ◌-◌}
use mathlib.Core.Path.{◌≡◌, ◌∙◌}
use native.Mathlib.Omega.{arith}
use Rattle.metadata.proofs.Frame.{fits}
use Rattle.write_dir.proofs.AddedLaws.{grow_turn, grow_end}
use Rattle.write_dir.proofs.place.grow_by.Goals as goal

pub loop-preserved : goal.loop-preserved
loop-preserved c =
    let a = c.args in
    let p = c.requires in
    let l = c.loop in
    let g = c.grow-w in
    let w = fits a.sys.now l.vol (l.invariant.0 ∙ p.0) in
    let t = grow_turn a.sys.now.y l.vol a.sys.now.map.now l.w.allocation (a.n - l.counter) l.w.hint l.invariant.1.0 w (omega arith) g.result g.new.vol g.ensures.0 g.ensures.1 in
    let z : a.n - (l.counter + 1) ≡ a.n - l.counter - 1 = omega arith in
    (g.auto.vol ∙ l.invariant.0, rw z (t.0, t.1 ∙ l.invariant.1.1))

pub returns : goal.returns
returns c =
    let a = c.args in
    let l = c.loop in
    grow_end a.sys.now.y a.sys.now.map.now (a.n - l.counter) l.w _ _ (omega arith) l.invariant.1.1
