use mathlib.Core.Path.{◌∙◌}
use native.Mathlib.Omega.{arith}
use Rattle.write_length.proofs.SetLengthLaws.{end_is}
use Rattle.write_length.proofs.set_length.zero_end.Goals as goal

pub returns : goal.returns
returns _ c = (cc) ∙ end_is _ _ _ (omega arith) (omega arith)
