use mathlib.Core.Path.{sym, ◌∙◌}
use native.Mathlib.Omega.{arith}
use Rattle.write_shrink.proofs.Cutting.{part_next, kept_heap, freed_heap, freed_system, shrink_system, shrink_done}
use Rattle.std.proofs.lemmas.Result.{err_from_is_err_and}
use Rattle.boot.proofs.CauseLaws.{cause-not0}
use Rattle.stream.proofs.SystemLaws.{system-drop}
use Rattle.write_shrink.proofs.shrink.shrink_read.Goals as goal

pub kept_part-part-requires : goal.kept_part-part-requires
kept_part-part-requires c =
    let p = c.requires in
    (omega arith, (p.0, kept_heap _ _ _ _ c.args.sys.now.laid (omega (arith, p.1.0)) p.1.1.1.0))

pub freed_cause-requires : goal.freed_cause-requires
freed_cause-requires c =
    let p = c.requires in
    (omega arith, (p.0, (rw (part_next _ _ _ _ _ c.kept_part-part.ensures) (freed_heap _ _ _ _ c.args.sys.now.laid (omega (arith, p.1.0)) p.1.1.1.0), (omega (arith, p.1.0), λ t. freed_system _ _ _ _ c.args.sys.now.laid (omega (arith, p.1.0)) p.1.1.1.0 _ _ (part_next _ _ _ _ _ c.kept_part-part.ensures) ∙ system-drop _ _ c.args.keep (p.1.1.1.1 t)))))

pub returns-in_err-freed_cause : goal.returns-in_err-freed_cause
returns-in_err-freed_cause c =
    let p = c.requires in
    let n = part_next _ _ _ _ _ c.kept_part-part.ensures in
    let e = freed_system _ _ _ _ c.args.sys.now.laid (omega (arith, p.1.0)) p.1.1.1.0 _ _ n in
    let q = err_from_is_err_and c.from_residual.result c.from_residual.ensures.1 in
    rw (q.1, q.2) (shrink_system _ _ _ _ _ _ p.1.1.0 p.1.0 p.1.1.1.0 _ (c.in_err-freed_cause.ensures ∙ e) (cause-not0 _))

pub returns : goal.returns
returns c =
    let p = c.requires in
    let k = c.kept_part-part in
    let e = freed_system _ _ _ _ c.args.sys.now.laid (omega (arith, p.1.0)) p.1.1.1.0 _ _ (part_next _ _ _ _ _ k.ensures) in
    let d = shrink_done _ _ _ _ _ _ p.1.1.0 p.1.0 p.1.1.1.0 (sym e ∙ sym c.in_ok-freed_cause.ensures) c.args.sys.now.laid in
    ((cc) ∙ d.0, c.cut_in.ensures ∙ d.1)
