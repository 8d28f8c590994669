use Rattle.std.proofs.Common.{sym, arith, leb-false, leb-true}
use Rattle.write_alloc.proofs.AllocateLaws.{space_met, space_kept}
use Rattle.write_file.proofs.new_file.space_cause.Goals as goal

pub returns-then-n-eq0 : goal.returns-then-n-eq0
returns-then-n-eq0 _ c = sym (space_kept _ _ (omega arith))

pub returns-then-enough : goal.returns-then-enough
returns-then-enough _ c = sym (space_kept _ _ (leb-true _ _ (cc)))

pub returns : goal.returns
returns _ c = sym (space_met _ _ (leb-false _ _ (cc)))
