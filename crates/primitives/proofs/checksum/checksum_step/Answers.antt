use Rattle.primitives.specs.Checksum.{add_byte}
use Rattle.primitives.proofs.checksum.checksum_step.Goals as goal

pub returns : goal.returns
unfolding add_byte
returns c = cc
