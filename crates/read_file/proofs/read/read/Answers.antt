use mathlib.Core.Path.{sym, subst}
use lib.ListN.{length}
use Rattle.read_file.specs.Part.{Inside}
use Rattle.read_file.proofs.ReadBackLaws.{read_inside}
use Rattle.read_file.proofs.read.read.Goals as goal

pub lend-requires : goal.lend-requires
lend-requires c =
    let a = c.args in
    subst (Inside (length a.vol.now) (length a.zeros.now)) (sym c.read_part-part.ensures) (read_inside a.g a.vol.now a.map.now a.zeros.now a.slot a.offset)
