use mathlib.Core.Path.{refl, sym, ◌∙◌}
use native.Mathlib.Omega.{arith}
use Rattle.std.proofs.lemmas.Result.{err_from_is_err_and}
use Rattle.boot.proofs.CauseLaws.{cause-not0}
use Rattle.stream.proofs.ListingLaws.{along_heap, listed_room, listed_cause, listed_done}
use Rattle.stream.proofs.list.list_clusters.Goals as goal

pub returns-then-list-a : goal.returns-then-list-a
returns-then-list-a _ c = listed_room _ _ _ _ (omega arith)

pub returns-in_err-stream_cause : goal.returns-in_err-stream_cause
returns-in_err-stream_cause _ c =
    let p = err_from_is_err_and c.from_residual.result c.from_residual.ensures.1 in
    rw (p.1, p.2) (listed_cause _ _ _ _ _ (omega arith) c.in_err-stream_cause.ensures (cause-not0 _))

pub write_clusters-requires : goal.write_clusters-requires
write_clusters-requires _ c =
    let p = c.requires in
    (omega arith, (p, (omega arith, along_heap _ _ _ (sym c.in_ok-stream_cause.ensures))))

pub returns : goal.returns
returns _ c =
    let a = c.args in
    let d = listed_done a.sys.now.y a.vol.now a.a a.list.now 0 (omega arith) c.in_ok-stream_cause.ensures refl in
    (d.0, (cc) ∙ d.1)
