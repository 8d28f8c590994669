use Rattle.std.proofs.Common.{refl}
use Rattle.std.proofs.lemmas.Result.{err_from_is_err_and}
use Rattle.boot.proofs.CauseLaws.{cause-not0}
use Rattle.boot.proofs.Admission.{refuses, admits}
use Rattle.write_alloc.proofs.AllocateLaws.{shown_as}
use Rattle.write_extend.proofs.ExtendLaws.{extend_is, extend_not-admitted}
use Rattle.write_extend.proofs.extend.extend_clusters.Goals as goal

pub returns-in_err-sys : goal.returns-in_err-sys
returns-in_err-sys c =
    let p = err_from_is_err_and c.from_residual.result c.from_residual.ensures.1 in
    rw (p.1, p.2) (shown_as (extend_not-admitted _ _ _ _ _ _ _ (refuses _ _ _ _ c.in_err-sys.ensures) (cause-not0 _)) (refl, refl))

pub extend_in-requires : goal.extend_in-requires
extend_in-requires c = let a = admits _ _ _ _ _ c.in_ok-sys.ensures in
    a.long

pub returns : goal.returns
returns c = rw (← c.in_ok-sys.ensures.1.0) (shown_as (extend_is _ _ _ _ _ _ _ (admits _ _ _ _ _ c.in_ok-sys.ensures)) c.extend_in.ensures)
