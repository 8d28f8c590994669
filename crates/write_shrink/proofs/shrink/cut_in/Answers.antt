use native.Mathlib.Omega.{arith}
use mathlib.Core.Path.{◌∙◌}
use Rattle.write_shrink.proofs.Cutting.{part_next, part_last, kept_heap, left_heap, left_distinct, left_cut}
use Rattle.write_shrink.proofs.shrink.cut_in.Goals as goal

pub end_kept-requires : goal.end_kept-requires
end_kept-requires _ c =
    let p = c.requires in
    (omega arith, (p.0, (part_last _ _ _ _ _ p.1.1.1, kept_heap _ _ _ _ c.args.sys.now.laid p.1.1.0 p.1.0)))

pub free_from-requires : goal.free_from-requires
free_from-requires _ c =
    let p = c.requires in
    let q = c.end_kept in
    let n = part_next _ _ _ _ _ p.1.1.1 in
    let h = left_heap _ _ _ _ c.args.sys.now.laid p.1.1.0 p.1.0 (c.args.sys.now.apart (omega arith)) p.0 _ q.ensures _ n in
    (omega arith, (q.auto.vol ∙ p.0, (h, left_distinct _ _ _ _ c.args.sys.now.laid p.1.1.0 p.1.0 (c.args.sys.now.apart (omega arith)) p.0 _ q.ensures _ n)))

pub returns : goal.returns
returns _ c =
    let p = c.requires in
    let q = c.end_kept.ensures in
    let n = part_next _ _ _ _ _ p.1.1.1 in
    c.free_from.ensures ∙ left_cut _ _ _ _ c.args.sys.now.laid p.1.1.0 p.1.0 (c.args.sys.now.apart (omega arith)) p.0 _ q _ n
