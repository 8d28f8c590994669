use mathlib.Core.Path.{◌∙◌, ap}
use native.Mathlib.Omega.{arith}
use Rattle.boot.specs.Layout.{in_heap}
use Rattle.boot.proofs.Apart.{in_heap_lem, cluster_end}
use Rattle.metadata.proofs.Frame.{fits}
use Rattle.write_alloc.specs.Outcome.{Answer}
use Rattle.write_dir.proofs.AddedLaws.{last_heap, grow_is}
use Rattle.write_dir.proofs.place.grow.Goals as goal

pub put_zeros-requires : goal.put_zeros-requires
put_zeros-requires c =
    let a = c.args in
    let p = c.requires in
    let w = fits a.sys.now a.vol.now p.0 in
    let i = ap (λ (r : Answer). in_heap a.sys.now.y.count r.allocation.last) c.grow_in-grown.ensures.0 ∙ last_heap a.sys.now.y a.vol.now a.sys.now.map.now a.dir 1 a.hint p.1 w (omega arith) in
    let h = in_heap_lem a.sys.now.y.count _ i in
    (omega arith, (c.grow_in-grown.auto.vol ∙ p.0, (h.0, (h.1, omega (arith, cluster_end a.sys.now.y a.sys.now.laid (a.sys.now.apart (omega arith)) _ i)))))

pub returns : goal.returns
returns c =
    let a = c.args in
    grow_is a.sys.now.y a.vol.now a.sys.now.map.now a.dir a.hint c.grow_in-grown.result _ _ c.grow_in-grown.ensures.0 c.grow_in-grown.ensures.1 c.put_zeros.ensures
