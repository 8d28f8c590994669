use native.Mathlib.Omega.{arith}
use Rattle.write_length.proofs.SetLengthLaws.{part_heap, plan_is}
use Rattle.write_length.proofs.set_length.cut_plan.Goals as goal

pub kept_part-part-requires : goal.kept_part-part-requires
kept_part-part-requires _ c =
    let i = c.args in
    let p = c.requires in
    (omega arith, (p.0, part_heap _ _ _ _ p.1.0 (omega (arith, p.1.1, c.clusters_for-keep.ensures))))

pub returns : goal.returns
returns _ c =
    let i = c.args in
    let p = c.requires in
    plan_is _ _ _ _ _ _ _ p.1.0 c.clusters_for-keep.ensures p.1.1 c.kept_part-part.ensures c.kept_record-kept.ensures
