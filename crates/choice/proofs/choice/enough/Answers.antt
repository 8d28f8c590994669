use mathlib.Core.Path.{sym, ◌∙◌}
use borrow.Author.Tests.{le-leb}
use Rattle.choice.proofs.ChoiceLaws.{fits_count}
use Rattle.choice.proofs.choice.enough.Goals as goal

pub returns-then-run_fits : goal.returns-then-run_fits
returns-then-run_fits _ c = c.if-run_fits.true ∙ sym (le-leb _ _ (fits_count _ _ _ _ (sym c.run_fits.ensures ∙ c.if-run_fits.true)))
