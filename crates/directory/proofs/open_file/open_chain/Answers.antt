use native.Mathlib.Omega.{arith}
use mathlib.Core.Path.{refl, sym}
use Rattle.std.proofs.lemmas.Result.{err_from_is_err_and}
use Rattle.boot.proofs.Apart.{in_heap_lem}
use Rattle.boot.proofs.CauseLaws.{cause-not0}
use Rattle.stream.proofs.ChainLaws.{cause_walk}
use Rattle.directory.proofs.OpenLaws.{chain-not, chain_nine, chain-done}
use Rattle.directory.proofs.open_file.open_chain.Goals as goal

pub fat_chain-requires : goal.fat_chain-requires
fat_chain-requires _ c =
    let p = c.requires in
    let a = c.args in
    (omega arith, (p.0, in_heap_lem a.sys.now.y.count a.first p.1.0))

pub returns-in_err-w : goal.returns-in_err-w
returns-in_err-w _ c =
    let q = err_from_is_err_and c.from_residual.result c.from_residual.ensures.1 in
    rw (q.1, q.2) (chain-not _ _ _ _ _ _ _ c.in_err-w.ensures c.requires.1.0 c.requires.1.1 _ (sym (cause_walk _ _ _ (cause-not0 _))) (cause-not0 _))

pub returns-in_err-walk_cause : goal.returns-in_err-walk_cause
returns-in_err-walk_cause _ c =
    let q = err_from_is_err_and c.from_residual-in_err-walk_cause.result c.from_residual-in_err-walk_cause.ensures.1 in
    rw (q.1, q.2) (chain-not _ _ _ _ _ _ _ c.in_ok-w.ensures c.requires.1.0 c.requires.1.1 _ c.in_err-walk_cause.ensures (cause-not0 _))

pub returns-then-w : goal.returns-then-w
returns-then-w _ c =
    chain-done _ _ _ _ _ _ _ c.in_ok-w.ensures c.requires.1.0 c.requires.1.1 _ c.in_ok-walk_cause.ensures refl (cc)

pub returns-else-w : goal.returns-else-w
returns-else-w _ c =
    chain_nine _ _ _ _ _ _ _ c.in_ok-w.ensures c.requires.1.0 c.requires.1.1 _ c.in_ok-walk_cause.ensures refl (cc)
