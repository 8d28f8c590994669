use mathlib.Core.Path.{refl, sym, ◌∙◌}
use Rattle.metadata.proofs.WindowLaws.{usable-all}
use Rattle.metadata.proofs.usable.run_is_free.Goals as goal

pub returns-then-none_marked : goal.returns-then-none_marked
returns-then-none_marked _ c = c.none_refused.ensures ∙ sym (usable-all _ _ _ _ _ ∙ rw (sym c.none_marked.ensures ∙ c.if-none_marked.true) refl)

pub returns-else-none_marked : goal.returns-else-none_marked
returns-else-none_marked _ c = c.if-none_marked.false ∙ sym (usable-all _ _ _ _ _ ∙ rw (sym c.none_marked.ensures ∙ c.if-none_marked.false) refl)
