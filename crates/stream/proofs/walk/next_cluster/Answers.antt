use mathlib.Core.Path.{sym, ◌∙◌}
use Rattle.stream.proofs.StreamLaws.{after_run, after-chain}
use Rattle.stream.proofs.walk.next_cluster.Goals as goal

pub returns-then-run : goal.returns-then-run
returns-then-run _ c = sym (after_run _ _ _ (cc))

pub returns : goal.returns
returns _ c = (cc) ∙ sym (after-chain _ _ _ (cc))
