use Rattle.std.proofs.Common.{◌∙◌}
use Rattle.primitives.proofs.ChecksumLaws.{checksum-take}
use Rattle.primitives.proofs.checksum.array_checksum.Goals as goal

pub returns : goal.returns
returns c = (cc) ∙ checksum-take c.args.set.now c.args.n
