use Rattle.std.proofs.Common.{rules, tests}
use Rattle.search.proofs.Chains.{least_from_find}
use Rattle.metadata.specs.Internal.{entry_of}
use Rattle.metadata.proofs.Stores.{first_bad_is}
use Rattle.metadata.proofs.usable.first_bad.Goals as goal

pub returns : goal.returns
unfolding entry_of
returns c = first_bad_is _ _ _ _ (least_from_find _ _ _ _ c.find.ensures.ran (λ x b q k. search (rules, tests)))
