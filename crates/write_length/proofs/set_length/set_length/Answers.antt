use mathlib.Core.Path.{refl}
use Rattle.std.proofs.lemmas.Result.{err_from_is_err_and}
use Rattle.boot.proofs.CauseLaws.{cause-not0}
use Rattle.boot.proofs.Admission.{refuses, admits}
use Rattle.file.proofs.OpenLaws.{shown_as, refuse-shown}
use Rattle.write_length.proofs.SetLengthLaws.{set_is, set-not-admitted}
use Rattle.write_length.proofs.set_length.set_length.Goals as goal

pub returns-in_err-sys : goal.returns-in_err-sys
returns-in_err-sys c =
    let q = err_from_is_err_and c.from_residual.result c.from_residual.ensures.1 in
    rw (q.1, q.2) (shown_as (set-not-admitted _ _ _ _ _ _ _ _ (refuses _ _ _ _ c.in_err-sys.ensures) (cause-not0 _)) (refuse-shown _ _ _ _ refl))

pub set_length_in-requires : goal.set_length_in-requires
set_length_in-requires c = let a = admits _ _ _ _ _ c.in_ok-sys.ensures in
    a.long

pub returns : goal.returns
returns c = rw (← c.in_ok-sys.ensures.1.0) (shown_as (set_is _ _ _ _ _ _ _ _ (admits _ _ _ _ _ c.in_ok-sys.ensures)) c.set_length_in.ensures)
