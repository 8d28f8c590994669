use native.Mathlib.Omega.{arith}
use mathlib.Core.Path.{refl, sym, ◌∙◌}
use Rattle.std.proofs.lemmas.Result.{err_from_is_err_and}
use Rattle.boot.proofs.CauseLaws.{cause-not0}
use Rattle.metadata.proofs.Frame.{fits}
use Rattle.directory.specs.Directory.{root_record}
use Rattle.directory.proofs.RootFileLaws.{root-file_number}
use Rattle.read_file.proofs.ReadSteps.{found_set, found_readable, cause_zeros, cause_file, part_not, part_done}
use Rattle.read_file.proofs.read.part_in.Goals as goal

pub returns-in_err-zero_cause : goal.returns-in_err-zero_cause
returns-in_err-zero_cause c =
    let a = c.args in
    let n = cause_zeros a.sys.now.y a.vol.now a.sys.now.map.now (root_record a.sys.now.y a.vol.now a.root) a.zeros.now a.slot _ c.in_err-zero_cause.ensures (cause-not0 _) in
    let q = err_from_is_err_and c.from_residual.result c.from_residual.ensures.1 in
    rw (q.1, q.2) (n, part_not a.sys.now.y a.vol.now a.sys.now.map.now (root_record a.sys.now.y a.vol.now a.root) a.zeros.now a.slot a.offset (λ z. cause-not0 _ (n ∙ z)))

pub returns-in_err-f : goal.returns-in_err-f
returns-in_err-f c =
    let a = c.args in
    let n = root-file_number a.sys.now.y a.vol.now a.sys.now.map.now (root_record a.sys.now.y a.vol.now a.root) a.slot a.offset _ c.in_err-f.ensures.0
    ∙ cause_file a.sys.now.y a.vol.now a.sys.now.map.now (root_record a.sys.now.y a.vol.now a.root) a.zeros.now a.slot (sym c.in_ok-zero_cause.ensures) in
    let q = err_from_is_err_and c.from_residual-in_err-f.result c.from_residual-in_err-f.ensures.1 in
    rw (q.1, q.2) (n, part_not a.sys.now.y a.vol.now a.sys.now.map.now (root_record a.sys.now.y a.vol.now a.root) a.zeros.now a.slot a.offset (λ z. cause-not0 _ (n ∙ z)))

pub file_part-requires : goal.file_part-requires
file_part-requires c =
    let p = c.requires in
    let a = c.args in
    let e = c.in_ok-f.ensures in
    let w = fits a.sys.now a.vol.now p in
    (omega arith, found_readable a.sys.now.y a.vol.now a.sys.now.map.now (root_record a.sys.now.y a.vol.now a.root) a.slot a.offset w _ e.0 _ e.1 refl)

pub returns : goal.returns
returns c =
    let p = c.requires in
    let a = c.args in
    let e = c.in_ok-f.ensures in
    let w = fits a.sys.now a.vol.now p in
    let n = root-file_number a.sys.now.y a.vol.now a.sys.now.map.now (root_record a.sys.now.y a.vol.now a.root) a.slot a.offset _ e.0
    ∙ cause_file a.sys.now.y a.vol.now a.sys.now.map.now (root_record a.sys.now.y a.vol.now a.root) a.zeros.now a.slot (sym c.in_ok-zero_cause.ensures) in
    (n, c.file_part.ensures ∙ part_done a.sys.now.y a.vol.now a.sys.now.map.now (root_record a.sys.now.y a.vol.now a.root) a.zeros.now a.slot a.offset _ (found_set a.sys.now.y a.vol.now a.sys.now.map.now (root_record a.sys.now.y a.vol.now a.root) a.slot a.offset w _ e.0 _ e.1 refl) (sym n))
