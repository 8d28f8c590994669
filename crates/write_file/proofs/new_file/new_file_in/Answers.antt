use Rattle.std.proofs.Common.{sym, refl, arith}
use Rattle.std.proofs.lemmas.Result.{err_from_is_err_and}
use Rattle.boot.proofs.CauseLaws.{cause-not0}
use Rattle.file.proofs.OpenLaws.{shown_as}
use Rattle.file.proofs.CallLaws.{refused_shown}
use Rattle.write_file.proofs.NewFileLaws.{ready_reads, name_few, entries_are, space_enough, new_name, new_attributes, new_space, new-done}
use Rattle.write_file.proofs.new_file.new_file_in.Goals as goal

pub returns-then-not-name_ok : goal.returns-then-not-name_ok
returns-then-not-name_ok c = let p = c.requires in shown_as (new_name _ _ _ _ _ _ _ _ _ p (cc)) (refused_shown _ _ _ _ _ refl refl)

pub returns-then-not-attributes_ok : goal.returns-then-not-attributes_ok
returns-then-not-attributes_ok c = let p = c.requires in shown_as (new_attributes _ _ _ _ _ _ _ _ _ p (cc) (cc)) (refused_shown _ _ _ _ _ refl refl)

pub name_entries-n-requires : goal.name_entries-n-requires
name_entries-n-requires c = name_few c.args.name.now (cc)

pub invariant_of-opened : goal.invariant_of-opened
invariant_of-opened c =
    let r = c.requires in
    record { long = r.long; reads = ready_reads _ _ _ _ _ r }

pub returns-in_err-space_cause : goal.returns-in_err-space_cause
returns-in_err-space_cause c =
    let p = c.requires in
    let q = err_from_is_err_and c.from_residual.result c.from_residual.ensures.1 in
    rw (q.1, q.2)
    (shown_as (new_space _ _ _ _ _ _ _ _ _ p (cc) (cc) _ _ (entries_are _ _ c.name_entries-n.ensures.0) c.free_run-room.ensures _ c.in_err-space_cause.ensures (cause-not0 _))
    (refused_shown _ _ _ _ _ refl refl))

pub new_set-set-requires : goal.new_set-set-requires
new_set-set-requires c = name_few c.args.name.now (cc)

pub insert-requires : goal.insert-requires
insert-requires c =
    let r = c.requires in
    let n = c.name_entries-n.ensures in
    (r, (omega arith, (omega (arith, n.1), (c.free_run-room.ensures, space_enough _ _ (sym c.in_ok-space_cause.ensures)))))

pub returns : goal.returns
returns c =
    let p = c.requires in
    shown_as (new-done _ _ _ _ _ _ _ _ _ p (cc) (cc) _ _ (entries_are _ _ c.name_entries-n.ensures.0) c.free_run-room.ensures _ c.in_ok-space_cause.ensures refl _ c.new_set-set.ensures) c.insert.ensures
