use mathlib.Core.Path.{◌∙◌}
use Rattle.std.proofs.lemmas.Result.{err_from_is_err_and}
use Rattle.boot.proofs.CauseLaws.{cause-not0}
use Rattle.boot.proofs.Admission.{refuses, admits}
use Rattle.read_file.proofs.ReadSteps.{number_not-admitted, number_admitted, part_not-admitted, part_admitted}
use Rattle.read_file.proofs.read.find_part.Goals as goal

pub returns-in_err-sys : goal.returns-in_err-sys
returns-in_err-sys c =
    let q = err_from_is_err_and c.from_residual.result c.from_residual.ensures.1 in
    let n = refuses _ _ _ _ c.in_err-sys.ensures in
    rw (q.1, q.2) (number_not-admitted _ _ _ _ _ _ n (cause-not0 _), part_not-admitted _ _ _ _ _ _ (λ z. cause-not0 _ (n ∙ z)))

pub part_in-requires : goal.part_in-requires
part_in-requires c = let a = admits _ _ _ _ _ c.in_ok-sys.ensures in
    a.long

pub returns : goal.returns
returns c =
    let a = admits _ _ _ _ _ c.in_ok-sys.ensures in
    rw (← c.in_ok-sys.ensures.1.0) ((number_admitted _ _ _ _ _ _ a _ c.part_in.ensures.0, part_admitted _ _ _ _ _ _ a _ _ c.part_in.ensures.1))
