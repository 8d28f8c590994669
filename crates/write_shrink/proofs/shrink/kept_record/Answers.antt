use mathlib.Core.Path.{refl}
use native.Mathlib.Omega.{arith}
use borrow.Author.Tests.{eq-eqb, ne_eqb}
use Rattle.write_shrink.specs.Internal.{part_record}
use Rattle.write_shrink.proofs.shrink.kept_record.Goals as goal

pub returns-then-keep-eq0 : goal.returns-then-keep-eq0
unfolding part_record
returns-then-keep-eq0 c = rw (eq-eqb c.args.keep 0 (omega arith)) c.empty_record.ensures

pub returns : goal.returns
unfolding part_record
returns c = rw (ne_eqb c.args.keep 0 (λ z. omega arith)) refl
