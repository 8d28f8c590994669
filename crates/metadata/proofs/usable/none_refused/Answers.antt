use mathlib.Core.Path.{sym, ◌∙◌}
use native.Mathlib.Omega.{arith}
use Rattle.metadata.specs.Internal.{none_refused}
use Rattle.metadata.proofs.Stores.{none_is}
use Rattle.metadata.proofs.WindowLaws.{map-all, bad_all}
use Rattle.metadata.proofs.usable.none_refused.Goals as goal

pub returns-then-none_set : goal.returns-then-none_set
unfolding none_refused
returns-then-none_set _ c =
    let e = sym (map-all _ _ _ (omega arith)) ∙ sym c.none_set.ensures ∙ c.if-none_set.true in
    none_is _ _ c.is_none.ensures ∙ rw (c.bad_in.ensures, e) (bad_all _ _ _)

pub returns-else-none_set : goal.returns-else-none_set
unfolding none_refused
returns-else-none_set _ c =
    let e = sym (map-all _ _ _ (omega arith)) ∙ sym c.none_set.ensures ∙ c.if-none_set.false in
    rw (c.if-none_set.false, e) cc
