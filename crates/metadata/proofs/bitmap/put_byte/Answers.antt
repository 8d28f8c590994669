use mathlib.Core.Path.{sym, ◌∙◌}
use Rattle.metadata.proofs.Stores.{byte_two, byte_one}
use Rattle.metadata.proofs.bitmap.put_byte.Goals as goal

pub returns-then-sys : goal.returns-then-sys
returns-then-sys _ c = (cc) ∙ sym (byte_two _ _ _ _ (cc))

pub returns-else-sys : goal.returns-else-sys
returns-else-sys _ c = (cc) ∙ sym (byte_one _ _ _ _ (cc))
