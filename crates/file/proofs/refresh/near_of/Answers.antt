use Rattle.std.proofs.Common.{eq-eqb, ne_eqb}
use Rattle.file.specs.Internal.{near_of}
use Rattle.file.proofs.refresh.near_of.Goals as goal

pub returns-then-b-eq0 : goal.returns-then-b-eq0
unfolding near_of
returns-then-b-eq0 c = simp (eq-eqb _ _ c.if-b-eq0.true)

pub returns : goal.returns
unfolding near_of
returns c = simp (ne_eqb _ _ c.if-b-eq0.false)
