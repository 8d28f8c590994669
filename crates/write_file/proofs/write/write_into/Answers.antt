use Rattle.std.proofs.Common.{refl}
use Rattle.std.proofs.lemmas.Result.{err_from_is_err_and}
use Rattle.boot.proofs.CauseLaws.{cause-not0}
use Rattle.boot.proofs.Admission.{refuses, admits}
use Rattle.file.proofs.OpenLaws.{shown_as, refuse-shown}
use Rattle.write_file.proofs.WriteLaws.{write_is, write_not-admitted}
use Rattle.write_file.proofs.write.write_into.Goals as goal

pub returns-in_err-sys : goal.returns-in_err-sys
returns-in_err-sys c =
    let q = err_from_is_err_and c.from_residual.result c.from_residual.ensures.1 in
    rw (q.1, q.2) (shown_as (write_not-admitted _ _ _ _ _ _ _ _ _ (refuses _ _ _ _ c.in_err-sys.ensures) (cause-not0 _)) (refuse-shown _ _ _ _ refl))

pub write_in-requires : goal.write_in-requires
write_in-requires c = let a = admits _ _ _ _ _ c.in_ok-sys.ensures in
    a.long

pub returns : goal.returns
returns c = rw (← c.in_ok-sys.ensures.1.0) (shown_as (write_is _ _ _ _ _ _ _ _ _ (admits _ _ _ _ _ c.in_ok-sys.ensures)) c.write_in.ensures)
