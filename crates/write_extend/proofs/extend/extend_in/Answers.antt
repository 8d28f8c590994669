use Rattle.std.proofs.Common.{sym, refl, arith}
use Rattle.std.proofs.lemmas.Result.{err_from_is_err_and}
use Rattle.boot.proofs.CauseLaws.{cause-not0}
use Rattle.write_alloc.proofs.AllocateLaws.{shown_as}
use Rattle.write_extend.proofs.ExtendLaws.{allowed_of, given_of, extend_hint, extend_none, extend_new, extend_longer, extend_refused}
use Rattle.write_extend.proofs.extend.extend_in.Goals as goal

pub returns-then-not-in_heap : goal.returns-then-not-in_heap
returns-then-not-in_heap c = shown_as (extend_hint _ _ _ _ _ _ (cc)) (refl, refl)

pub returns-then-n-eq0 : goal.returns-then-n-eq0
returns-then-n-eq0 c = shown_as (extend_none _ _ _ _ _ _ (cc) (omega arith)) (refl, refl)

pub returns-then-a-eq0 : goal.returns-then-a-eq0
returns-then-a-eq0 c = shown_as (extend_new _ _ _ _ _ _ (cc) (λ z. omega arith) (omega arith)) (given_of _ _ _ _ _ c.allocate_in.ensures)

pub returns-in_err-more_cause : goal.returns-in_err-more_cause
returns-in_err-more_cause c =
    let p = err_from_is_err_and c.from_residual.result c.from_residual.ensures.1 in
    rw (p.1, p.2)
    (shown_as (extend_refused _ _ _ _ _ _ _ (cc) (λ z. omega arith) (λ z. omega arith) c.in_err-more_cause.ensures (cause-not0 _)) (refl, refl))

pub longer_stream-requires : goal.longer_stream-requires
longer_stream-requires c =
    let p = c.requires in
    (p, (omega arith, (omega arith, allowed_of _ _ _ _ _ (sym c.in_ok-more_cause.ensures))))

pub returns : goal.returns
returns c =
    shown_as (extend_longer _ _ _ _ _ _ (cc) (λ z. omega arith) (λ z. omega arith) (sym c.in_ok-more_cause.ensures)) c.longer_stream.ensures
