use Rattle.read_file.specs.Part.{zero_part}
use Rattle.read_file.proofs.part.zero_part.Goals as goal

pub returns : goal.returns
unfolding zero_part
returns c = cc
