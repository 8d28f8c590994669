use Rattle.std.proofs.Common.{◌≡◌, ◌+◌, ◌-◌, length, take, drop, replicate, ap, ◌∙◌, arith, length-drop, length-take-le}
use lib.ListN.{length-replicate}
use Rattle.primitives.proofs.SpliceLaws.{put_mid-splice}
use Rattle.primitives.proofs.slices.fill_zero.Goals as goal

pub returns : goal.returns
returns c =
    let a = c.args in
    let e : length (take (a.at + a.n - a.at) (drop a.at a.dst.now)) ≡ a.n = length-take-le _ (drop a.at a.dst.now) (omega (arith, length-drop a.at a.dst.now)) ∙ omega arith in
    put_mid-splice a.dst.now a.at _ a.n _ _ (omega arith) (length-replicate a.n 0) (c.fill.ensures.after (λ y z. z) ∙ ap (λ n. replicate n 0) e)
