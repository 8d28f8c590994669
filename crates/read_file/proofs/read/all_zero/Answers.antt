use Rattle.std.proofs.Common.{rules, tests}
use Rattle.tables.proofs.Chains.{every_from_fold}
use Rattle.read_file.proofs.read.all_zero.Goals as goal

pub returns : goal.returns
returns c = every_from_fold _ _ _ c.fold.ensures.ran (cc) (λ a x b q k. search (rules, tests))
