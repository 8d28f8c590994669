use native.Mathlib.Omega.{arith}
use mathlib.Core.Path.{refl}
use lib.ListN.{length}
use Rattle.primitives.proofs.SpliceLaws.{put_mid-splice}
use Rattle.primitives.proofs.slices.copy_in.Goals as goal

pub returns : goal.returns
returns c =
    let a = c.args in
    put_mid-splice a.dst.now a.at _ (length a.src.now) _ _ (omega arith) refl (cc)
