use mathlib.Core.Path.{◌∙◌}
use native.Mathlib.Omega.{arith}
use Rattle.metadata.proofs.WindowLaws.{marks_part}
use Rattle.metadata.proofs.bitmap.none_marked.Goals as goal

pub returns : goal.returns
returns _ c =
    let a = c.args in
    c.none_set.ensures ∙ rw c.bitmap.ensures.0 (marks_part a.sys.now.y a.vol.now _ a.first a.n (omega arith) (omega arith))
