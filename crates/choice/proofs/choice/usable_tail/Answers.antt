use mathlib.Core.Path.{sym, ◌∙◌}
use native.Mathlib.Omega.{arith}
use Rattle.metadata.specs.Usable.{is_usable}
use Rattle.search.proofs.Runs.{tail_none, tail_pass, tail_fail, tail_all}
use Rattle.choice.proofs.choice.usable_tail.Goals as goal

pub returns-then-run_is_free : goal.returns-then-run_is_free
returns-then-run_is_free _ c = (sym (tail_all _ _ _ (cc)), (omega arith, omega arith))

pub loop-last-preserved : goal.loop-last-preserved
loop-last-preserved _ c = (omega arith, (omega arith, tail_pass _ _ _ (omega arith) (cc) ∙ c.loop-last.invariant.1.1))

pub returns-then-not-usable : goal.returns-then-not-usable
returns-then-not-usable _ c =
    let e = tail_fail (is_usable c.args.sys.now.y c.args.vol.now c.args.sys.now.map.now) c.args.low c.loop-last.last (omega arith) (cc) in
    (omega arith, (omega arith, omega arith))

pub returns : goal.returns
returns _ c = (sym (tail_none _ _ _ (omega arith)) ∙ c.loop-last.invariant.1.1, (omega arith, omega arith))
