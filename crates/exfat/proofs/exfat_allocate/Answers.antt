use Rattle.exfat.specs.Words.{flag_of}
use Rattle.exfat.proofs.WordLaws.{near_given}
use Rattle.exfat.proofs.exfat_allocate.Goals as goal

pub returns : goal.returns
returns c =
    let a = c.args in
    let e = near_given c.geometry_of-g.result a.vol.now a.map.now a.count (flag_of a.has_near) a.near a.hint in
    (cc (e), (cc (e), cc (e)))
