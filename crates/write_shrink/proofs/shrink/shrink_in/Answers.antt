use mathlib.Core.Path.{sym, ◌∙◌, ap}
use native.Mathlib.Omega.{arith}
use Rattle.std.proofs.lemmas.Result.{err_from_is_err_and}
use Rattle.boot.specs.Causes.{number}
use Rattle.boot.proofs.CauseLaws.{cause-not0}
use Rattle.write_shrink.proofs.Cutting.{shrink_hint, shrink_idle, shrink_refused}
use Rattle.stream.proofs.ClearLaws.{clear_system}
use Rattle.write_shrink.proofs.shrink.shrink_in.Goals as goal

pub returns-then-not-in_heap : goal.returns-then-not-in_heap
returns-then-not-in_heap c = shrink_hint _ _ _ _ _ _ (cc)

pub returns-then-a-keep : goal.returns-then-a-keep
returns-then-a-keep c = shrink_idle _ _ _ _ _ _ (cc) (omega arith)

pub returns-in_err-tested : goal.returns-in_err-tested
returns-in_err-tested c =
    let p = err_from_is_err_and c.from_residual.result c.from_residual.ensures.1 in
    let e = sym (ap number c.in_err-tested.was) ∙ c.stream_test-tested.ensures.0 in
    rw (p.1, p.2) (shrink_refused _ _ _ _ _ _ (cc) (omega arith) _ e (cause-not0 _))

pub shrink_read-requires : goal.shrink_read-requires
shrink_read-requires c =
    let p = c.requires in
    let r = c.stream_test-tested.ensures in
    let e = sym r.0 ∙ ap number c.in_ok-tested.was in
    (p, (omega arith, (cc, (e, λ t. clear_system _ _ _ _ e (sym r.1 ∙ t)))))
