use Rattle.std.proofs.Common.{rules}
use Rattle.primitives.proofs.BitLaws.{test_mask}
use Rattle.primitives.proofs.bits.bit_test.Goals as goal

pub returns : goal.returns
returns c = test_mask c.args.b c.args.j (search rules) (search rules)
