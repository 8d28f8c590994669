use Rattle.std.proofs.Common.{arith}
use Rattle.file.specs.Refresh.{entries_of}
use Rattle.file.proofs.refresh.entries_of.Goals as goal

pub returns : goal.returns
unfolding entries_of
returns c = (omega arith, omega arith)
