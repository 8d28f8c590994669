use Rattle.std.proofs.Common.{sym, refl, arith, leb-false, leb-true}
use Rattle.boot.proofs.CauseLaws.{cause-not0}
use Rattle.write_extend.proofs.ExtendLaws.{more_heap, more_free, more_record, more_few, more_none}
use Rattle.write_extend.proofs.extend.more_cause.Goals as goal

pub returns-then-from : goal.returns-then-from
returns-then-from _ c = sym (more_heap _ _ _ _ _ (omega arith))

pub returns-in-Err : goal.returns-in-Err
returns-in-Err _ c = sym (more_free _ _ _ _ _ (omega arith) (omega arith))

pub returns-in-Err-2 : goal.returns-in-Err-2
returns-in-Err-2 _ c = sym (more_record _ _ _ _ _ _ (omega arith) (omega arith) c.in-Err.ensures (cause-not0 _))

pub returns-then-enough : goal.returns-then-enough
returns-then-enough _ c =
    sym (more_none _ _ _ _ _ 0 (omega arith) c.in-Ok.ensures refl (leb-true _ _ (cc)))

pub returns-else-enough : goal.returns-else-enough
returns-else-enough _ c =
    sym (more_few _ _ _ _ _ 0 (omega arith) c.in-Ok.ensures refl (leb-false _ _ (cc)))
