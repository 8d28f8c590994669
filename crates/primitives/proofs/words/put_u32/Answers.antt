use Rattle.std.proofs.Common.{◌∙◌, arith}
use Rattle.primitives.proofs.SpliceLaws.{put_mid-splice}
use Rattle.primitives.proofs.WordLaws.{length-bytes, splice-put}
use Rattle.primitives.proofs.words.put_u32.Goals as goal

pub returns : goal.returns
returns c =
    let a = c.args in
    put_mid-splice a.s.now a.at _ 4 _ _ (omega arith) (length-bytes 0 4 a.v) (cc) ∙ splice-put 4 a.s.now a.at a.v (omega arith)
