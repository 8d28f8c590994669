use Rattle.std.proofs.Common.{sym, ◌∙◌}
use Rattle.write_extend.proofs.ExtendLaws.{link-chain, link-run}
use Rattle.write_extend.proofs.extend.link_old.Goals as goal

pub returns-then-a : goal.returns-then-a
returns-then-a _ c = (cc) ∙ sym (link-run _ _ _ (cc))

pub returns-else-a : goal.returns-else-a
returns-else-a _ c = (cc) ∙ sym (link-chain _ _ _ (cc))
