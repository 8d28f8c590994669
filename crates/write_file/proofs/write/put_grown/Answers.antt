use Rattle.std.proofs.Common.{arith}
use Rattle.metadata.proofs.Frame.{fits}
use Rattle.file.proofs.RefreshLaws.{grow_known}
use Rattle.write_alloc.specs.Outcome.{success}
use Rattle.write_file.proofs.write.put_grown.Goals as goal

pub put_data-requires : goal.put_data-requires
put_data-requires c =
    let a = c.args in
    let p = c.requires in
    let w = fits a.sys.now a.vol.now p.0 in
    let g = c.grow_to-r in
    let k = c.grown_place-place in
    let n = grow_known a.sys.now.y a.vol.now a.sys.now.map.now w a.b a.len a.hint p.1.1.0 p.1.0 p.1.1.1.0 (success g.result) _ g.ensures.0 g.ensures.1.0 a.known _ p.1.1.1.1.1.0 in
    (omega arith, (omega arith, (g.ensures.1.1.0, (omega (arith, g.ensures.1.1.1, p.1.1.1.1.0), (rw k.ensures n, p.1.1.1.1.1.1)))))
