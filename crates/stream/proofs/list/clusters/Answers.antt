use native.Mathlib.Omega.{arith}
use Rattle.std.proofs.lemmas.Result.{err_from_is_err_and}
use Rattle.boot.proofs.CauseLaws.{cause-not0}
use Rattle.boot.proofs.Admission.{refuses, admits}
use Rattle.stream.proofs.ListingLaws.{listing_not-admitted, listing_is}
use Rattle.stream.proofs.list.clusters.Goals as goal

pub returns-in_err-sys : goal.returns-in_err-sys
returns-in_err-sys c =
    let p = err_from_is_err_and c.from_residual.result c.from_residual.ensures.1 in
    rw (p.1, p.2) (listing_not-admitted _ _ _ _ _ _ (refuses _ _ _ _ c.in_err-sys.ensures) (cause-not0 _))

pub list_clusters-requires : goal.list_clusters-requires
list_clusters-requires c = let a = admits _ _ _ _ _ c.in_ok-sys.ensures in
    (omega arith, a.long)

pub returns : goal.returns
returns c = rw (← c.in_ok-sys.ensures.1.0) (listing_is _ _ _ _ _ _ _ _ (admits _ _ _ _ _ c.in_ok-sys.ensures) (cc) (cc))
