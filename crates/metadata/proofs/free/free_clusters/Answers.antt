use native.Mathlib.Omega.{arith}
use Rattle.std.proofs.lemmas.Result.{err_from_is_err_and}
use Rattle.boot.proofs.Admission.{refuses, admits}
use Rattle.metadata.proofs.Stores.{free_is, free_refused}
use Rattle.metadata.proofs.free.free_clusters.Goals as goal

pub returns-in_err-sys : goal.returns-in_err-sys
returns-in_err-sys c =
    let p = err_from_is_err_and c.from_residual.result c.from_residual.ensures.1 in
    rw (p.1, p.2) (free_refused _ _ _ _ (refuses _ _ _ _ c.in_err-sys.ensures))

pub free_count-requires : goal.free_count-requires
free_count-requires c = let a = admits _ _ _ _ _ c.in_ok-sys.ensures in
    (omega arith, a.long)

pub returns : goal.returns
returns c = rw (c.free_count.ensures, ← c.in_ok-sys.ensures.1.0) (free_is _ _ _ _ (admits _ _ _ _ _ c.in_ok-sys.ensures))
