use native.Mathlib.Omega.{arith}
use Rattle.entry_set.proofs.NameLaws.{attributes_mask}
use Rattle.entry_set.proofs.name.attributes_ok.Goals as goal

pub returns : goal.returns
returns c = attributes_mask _ (omega arith)
