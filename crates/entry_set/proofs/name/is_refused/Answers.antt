use Rattle.std.proofs.Common.{rules}
use Rattle.entry_set.specs.Name.{refused_units, member}
use Rattle.entry_set.proofs.name.is_refused.Goals as goal

pub returns : goal.returns
unfolding refused_units member
returns c = search rules
