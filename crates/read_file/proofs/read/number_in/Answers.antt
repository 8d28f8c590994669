use mathlib.Core.Path.{sym, ◌∙◌}
use Rattle.std.proofs.lemmas.Result.{err_from_is_err_and}
use Rattle.boot.proofs.CauseLaws.{cause-not0}
use Rattle.directory.specs.Directory.{root_record}
use Rattle.directory.proofs.RootFileLaws.{root-file_number}
use Rattle.read_file.proofs.ReadSteps.{cause_zeros, cause_file}
use Rattle.read_file.proofs.read.number_in.Goals as goal

pub returns-in_err-zero_cause : goal.returns-in_err-zero_cause
returns-in_err-zero_cause c =
    let q = err_from_is_err_and c.from_residual.result c.from_residual.ensures.1 in
    rw (q.1, q.2) (cause_zeros _ _ _ _ _ _ _ c.in_err-zero_cause.ensures (cause-not0 _))

pub returns-in_err-open_in_root : goal.returns-in_err-open_in_root
returns-in_err-open_in_root c =
    let a = c.args in
    let q = err_from_is_err_and c.from_residual-in_err-open_in_root.result c.from_residual-in_err-open_in_root.ensures.1 in
    rw (q.1, q.2)
    (root-file_number a.sys.now.y a.vol.now a.sys.now.map.now (root_record a.sys.now.y a.vol.now a.root) a.slot 0 _ c.in_err-open_in_root.ensures.0
    ∙ cause_file a.sys.now.y a.vol.now a.sys.now.map.now (root_record a.sys.now.y a.vol.now a.root) a.zeros.now a.slot (sym c.in_ok-zero_cause.ensures))

pub returns : goal.returns
returns c =
    let a = c.args in
    root-file_number a.sys.now.y a.vol.now a.sys.now.map.now (root_record a.sys.now.y a.vol.now a.root) a.slot 0 _ c.in_ok-open_in_root.ensures.0
    ∙ cause_file a.sys.now.y a.vol.now a.sys.now.map.now (root_record a.sys.now.y a.vol.now a.root) a.zeros.now a.slot (sym c.in_ok-zero_cause.ensures)
