use native.Mathlib.Omega.{arith}
use mathlib.Core.Path.{refl, sym}
use Rattle.std.proofs.lemmas.Result.{err_from_is_err_and}
use Rattle.boot.proofs.Apart.{in_heap_lem}
use Rattle.boot.proofs.CauseLaws.{cause-not0}
use Rattle.stream.proofs.ChainLaws.{cause_walk}
use Rattle.directory.proofs.DirectoryLaws.{root_out, root-not, root_nine, root-done, root_reads}
use Rattle.directory.proofs.directory.OpenDirectory+APART+1.root_dir.Goals as goal

pub returns-then-not-in_heap : goal.returns-then-not-in_heap
returns-then-not-in_heap _ c = (root_out _ _ _ (cc), tt)

pub fat_chain-requires : goal.fat_chain-requires
fat_chain-requires _ c =
    let p = c.requires in
    let a = c.args in
    (omega arith, (p, in_heap_lem a.sys.now.y.count a.root (cc)))

pub returns-in_err-w : goal.returns-in_err-w
returns-in_err-w _ c =
    let p = err_from_is_err_and c.from_residual.result c.from_residual.ensures.1 in
    rw (p.1, p.2) (root-not _ _ _ _ _ c.in_err-w.ensures (cc) _ (sym (cause_walk _ _ _ (cause-not0 _))) (cause-not0 _), tt)

pub returns-in_err-walk_cause : goal.returns-in_err-walk_cause
returns-in_err-walk_cause _ c =
    let p = err_from_is_err_and c.from_residual-in_err-walk_cause.result c.from_residual-in_err-walk_cause.ensures.1 in
    rw (p.1, p.2) (root-not _ _ _ _ _ c.in_ok-w.ensures (cc) _ c.in_err-walk_cause.ensures (cause-not0 _), tt)

pub invariant_of-result : goal.invariant_of-result
invariant_of-result _ c =
    let a = c.args in
    record {
      long = c.requires;
      reads = root_reads a.sys.now.y a.vol.now a.root _ (root-done _ _ _ _ _ c.in_ok-w.ensures (cc) _ c.in_ok-walk_cause.ensures refl (cc)) refl;
    }

pub returns-then-w : goal.returns-then-w
returns-then-w _ c = (root-done _ _ _ _ _ c.in_ok-w.ensures (cc) _ c.in_ok-walk_cause.ensures refl (cc), (refl, refl))

pub returns-else-w : goal.returns-else-w
returns-else-w _ c = (root_nine _ _ _ _ _ c.in_ok-w.ensures (cc) _ c.in_ok-walk_cause.ensures refl (cc), tt)
