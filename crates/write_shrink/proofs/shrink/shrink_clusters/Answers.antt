use Rattle.std.proofs.lemmas.Result.{err_from_is_err_and}
use Rattle.boot.proofs.CauseLaws.{cause-not0}
use Rattle.boot.proofs.Admission.{refuses, admits}
use Rattle.write_alloc.proofs.AllocateLaws.{shown_as}
use Rattle.write_shrink.proofs.Cutting.{shrink_is, shrink_not-admitted}
use Rattle.write_shrink.proofs.shrink.shrink_clusters.Goals as goal

pub returns-in_err-sys : goal.returns-in_err-sys
returns-in_err-sys c =
    let p = err_from_is_err_and c.from_residual.result c.from_residual.ensures.1 in
    rw (p.1, p.2) (shrink_not-admitted _ _ _ _ _ _ _ (refuses _ _ _ _ c.in_err-sys.ensures) (cause-not0 _))

pub shrink_in-requires : goal.shrink_in-requires
shrink_in-requires c = let a = admits _ _ _ _ _ c.in_ok-sys.ensures in
    a.long

pub returns : goal.returns
returns c = rw (← c.in_ok-sys.ensures.1.0) (shown_as (shrink_is _ _ _ _ _ _ _ (admits _ _ _ _ _ c.in_ok-sys.ensures)) c.shrink_in.ensures)
