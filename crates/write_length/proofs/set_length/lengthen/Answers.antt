use native.Mathlib.Omega.{arith}
use Rattle.write_length.proofs.SetLengthLaws.{lengthen_same, lengthen_more}
use Rattle.write_length.proofs.set_length.lengthen.Goals as goal

pub returns-then-len-old : goal.returns-then-len-old
returns-then-len-old c = lengthen_same _ _ _ _ _ _ _ _ (omega arith)

pub returns : goal.returns
returns c = lengthen_more _ _ _ _ _ _ _ _ (λ z. omega arith) _ _ c.grow_zeroed.ensures.0 c.grow_zeroed.ensures.1
