use mathlib.Core.Path.{sym}
use Rattle.choice.proofs.ChoiceLaws.{choose-after, choose_lowest, choose_few, choose_scattered}
use borrow.Author.Tests.{leb-true, leb-false}
use Rattle.choice.proofs.choice.choose_clusters.Goals as goal

pub returns-in-Some : goal.returns-in-Some
returns-in-Some _ c = sym (choose-after _ _ _ _ _ (cc))

pub returns-in-Some-scan_before : goal.returns-in-Some-scan_before
returns-in-Some-scan_before _ c = sym (choose_lowest _ _ _ _ _ (cc) (cc))

pub returns-then-counts_to : goal.returns-then-counts_to
returns-then-counts_to _ c = sym (choose_scattered _ _ _ _ (cc) (cc) (leb-true _ _ (cc)))

pub returns : goal.returns
returns _ c = sym (choose_few _ _ _ _ (cc) (cc) (leb-false _ _ (cc)))
