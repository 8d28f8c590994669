use mathlib.Core.Path.{◌∙◌}
use native.Mathlib.Omega.{arith}
use Rattle.write_length.proofs.SetLengthLaws.{cut-some, cut_idle}
use Rattle.write_length.proofs.set_length.cut_to.Goals as goal

pub returns-then-keep-b : goal.returns-then-keep-b
returns-then-keep-b _ c = c.cut_in.ensures ∙ cut-some _ _ _ _ (omega arith)

pub returns-else-keep-b : goal.returns-else-keep-b
returns-else-keep-b _ c = cut_idle _ _ _ _ (omega arith)
