use Rattle.std.proofs.Common.{rules, tests, arith, ◌∙◌}
use Rattle.search.proofs.Chains.{all_from_range}
use Rattle.boot.proofs.Limits.{each_in_map}
use Rattle.boot.proofs.geometry.all_in_map.Goals as goal

pub returns : goal.returns
returns c = all_from_range _ _ _ _ _ c.all.ensures.ran (omega arith) (λ x b q k. search (rules, tests)) ∙ each_in_map _ _ _
