use native.Mathlib.Omega.{arith}
use Rattle.std.proofs.Common.{refl}
use Rattle.std.proofs.lemmas.Result.{err_from_is_err_and}
use Rattle.boot.proofs.CauseLaws.{cause-not0}
use Rattle.boot.proofs.Admission.{refuses, admits}
use Rattle.file.proofs.OpenLaws.{shown_as}
use Rattle.file.proofs.CallLaws.{refused_shown}
use Rattle.write_file.proofs.NewFileLaws.{call_not-admitted, call_hint, call_root, call_opens, call_ready}
use Rattle.write_file.proofs.new_file.make_in.Goals as goal

pub returns-in_err-sys : goal.returns-in_err-sys
returns-in_err-sys c =
    let q = err_from_is_err_and c.from_residual.result c.from_residual.ensures.1 in
    rw (q.1, q.2) (shown_as (call_not-admitted _ _ _ _ _ _ _ _ _ (refuses _ _ _ _ c.in_err-sys.ensures) (cause-not0 _)) (refused_shown _ _ _ _ _ refl refl))

pub returns-then-not-in_heap : goal.returns-then-not-in_heap
returns-then-not-in_heap c = rw (← c.in_ok-sys.ensures.1.0) (shown_as (call_hint _ _ _ _ _ _ _ _ _ (admits _ _ _ _ _ c.in_ok-sys.ensures) (cc)) (refused_shown _ _ _ _ _ refl refl))

pub root_dir-requires : goal.root_dir-requires
root_dir-requires c = let a = admits _ _ _ _ _ c.in_ok-sys.ensures in
    (omega arith, (omega arith, a.long))

pub returns-in_err-root : goal.returns-in_err-root
returns-in_err-root c =
    let q = err_from_is_err_and c.from_residual-in_err-root.result c.from_residual-in_err-root.ensures.1 in
    rw (q.1, q.2, ← c.in_ok-sys.ensures.1.0) (shown_as (call_root _ _ _ _ _ _ _ _ _ (admits _ _ _ _ _ c.in_ok-sys.ensures) (cc) _ c.in_err-root.ensures.0 (cause-not0 _)) (refused_shown _ _ _ _ _ refl refl))

pub new_file_in-requires : goal.new_file_in-requires
new_file_in-requires c =
    let i = c.args in
    let a = admits _ _ _ _ _ c.in_ok-sys.ensures in
    call_ready i.g i.vol.now _ i.hint _ a (cc) _ c.in_ok-root.ensures.0 refl

pub returns : goal.returns
returns c =
    rw (← c.in_ok-sys.ensures.1.0) (shown_as (call_opens _ _ _ _ _ _ _ _ _ (admits _ _ _ _ _ c.in_ok-sys.ensures) (cc) _ c.in_ok-root.ensures.0 refl) c.new_file_in.ensures)
