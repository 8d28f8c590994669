use Rattle.std.proofs.Common.{arith}
use Rattle.metadata.proofs.Frame.{fits}
use Rattle.write_alloc.specs.Outcome.{success}
use Rattle.file.proofs.RefreshLaws.{length_enough, usable_few, grow_shown}
use Rattle.file.proofs.refresh.grow_to.Goals as goal

pub missing-n-requires : goal.missing-n-requires
missing-n-requires c =
    let a = c.args in
    let p = c.requires in
    (omega arith, omega (arith, length_enough a.sys.now.y a.b a.len a.vol.now a.sys.now.map.now p.1.1.1, usable_few a.sys.now.y a.vol.now a.sys.now.map.now, a.sys.now.laid.count_high))

pub grow_in-requires : goal.grow_in-requires
grow_in-requires c =
    let a = c.args in
    let p = c.requires in
    (p.0, (p.1.0, (p.1.1.0, omega (arith, length_enough a.sys.now.y a.b a.len a.vol.now a.sys.now.map.now p.1.1.1))))

pub returns : goal.returns
returns c =
    let a = c.args in
    let p = c.requires in
    let w = fits a.sys.now a.vol.now p.0 in
    grow_shown a.sys.now.y a.vol.now a.sys.now.map.now w a.b a.len a.hint p.1.1.0 p.1.0 p.1.1.1 _ c.missing-n.ensures (success c.grow_in.result) _ c.grow_in.ensures
