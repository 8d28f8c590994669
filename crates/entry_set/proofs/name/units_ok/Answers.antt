use Rattle.std.proofs.Common.{rules, tests}
use Rattle.tables.proofs.Chains.{every_from_all}
use Rattle.entry_set.proofs.name.units_ok.Goals as goal

pub returns : goal.returns
returns c = every_from_all _ _ _ _ c.all.ensures.ran (cc) (λ x b q k. search (rules, tests))
