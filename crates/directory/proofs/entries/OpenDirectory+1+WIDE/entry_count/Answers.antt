use native.Mathlib.Omega.{arith}
use Rattle.directory.proofs.OpenedLaws.{opened_fits}
use Rattle.directory.proofs.CursorLaws.{entries_is, entries_small}
use Rattle.directory.proofs.entries.OpenDirectory+1+WIDE.entry_count.Goals as goal

pub overflow_mul-result : goal.overflow_mul-result
overflow_mul-result _ c =
    let d = c.args.self.now in
    omega (arith, entries_small _ _ (opened_fits d) _ d.reads)

pub returns : goal.returns
returns _ c =
    let d = c.args.self.now in
    let w = opened_fits d in
    (entries_is _ _ w _ d.reads, entries_small _ _ w _ d.reads)
