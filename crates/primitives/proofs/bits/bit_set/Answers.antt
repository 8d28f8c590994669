use Rattle.std.proofs.Common.{rules}
use Rattle.primitives.proofs.BitLaws.{set_mask}
use Rattle.primitives.proofs.bits.bit_set.Goals as goal

pub returns : goal.returns
returns c = set_mask c.args.b c.args.j (search rules) (search rules)
