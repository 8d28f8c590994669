use Rattle.std.proofs.Common.{rules}
use Rattle.primitives.proofs.BitLaws.{clear_mask}
use Rattle.primitives.proofs.bits.bit_clear.Goals as goal

pub returns : goal.returns
returns c = clear_mask c.args.b c.args.j (search rules) (search rules)
