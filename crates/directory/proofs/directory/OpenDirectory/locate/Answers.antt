use native.Mathlib.Omega.{arith}
use Rattle.directory.proofs.SpotLaws.{slot_inside}
use Rattle.directory.proofs.directory.OpenDirectory.locate.Goals as goal

pub seek-first-requires : goal.seek-first-requires
seek-first-requires _ c =
    let d = c.args.self.now in
    let p = c.requires in
    let a = c.args in
    let s = slot_inside d.sys.now.y d.vol.now d.allocation a.slot d.sys.now.laid d.reads p in
    (omega arith, (d.long, s.before))
