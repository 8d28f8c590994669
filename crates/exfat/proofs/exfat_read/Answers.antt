use Rattle.read_file.proofs.ReadBackLaws.{read_inside}
use Rattle.exfat.proofs.exfat_read.Goals as goal

pub returns : goal.returns
returns c = (cc, read_inside _ _ _ _ _ _)
