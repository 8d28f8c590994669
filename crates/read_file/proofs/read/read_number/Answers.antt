use Rattle.std.proofs.lemmas.Result.{err_from_is_err_and}
use Rattle.boot.proofs.CauseLaws.{cause-not0}
use Rattle.boot.proofs.Admission.{refuses, admits}
use Rattle.read_file.proofs.ReadSteps.{number_not-admitted, number_admitted}
use Rattle.read_file.proofs.read.read_number.Goals as goal

pub returns-in_err-sys : goal.returns-in_err-sys
returns-in_err-sys c =
    let q = err_from_is_err_and c.from_residual.result c.from_residual.ensures.1 in
    rw (q.1, q.2) (number_not-admitted _ _ _ _ _ _ (refuses _ _ _ _ c.in_err-sys.ensures) (cause-not0 _))

pub number_in-requires : goal.number_in-requires
number_in-requires c = let a = admits _ _ _ _ _ c.in_ok-sys.ensures in
    a.long

pub returns : goal.returns
returns c = rw (← c.in_ok-sys.ensures.1.0) (number_admitted _ _ _ _ _ _ (admits _ _ _ _ _ c.in_ok-sys.ensures) _ c.number_in.ensures)
