use mathlib.Core.Path.{refl, ◌∙◌, sym, ap}
use Rattle.std.proofs.lemmas.Result.{err_from_is_err_and}
use Rattle.boot.proofs.CauseLaws.{cause-not0}
use Rattle.stream.specs.declared.allocation.Allocation.{Allocation}
use Rattle.stream.specs.Bytes.{bytes_in}
use Rattle.directory.specs.Directory.{root_record}
use Rattle.directory.specs.Internal.{open_file, set_read}
use Rattle.directory.proofs.DirectoryLaws.{root_number, root_record_lem}
use Rattle.directory.proofs.RootFileLaws.{root_refused, root_opens}
use Rattle.directory.proofs.open_file.open_in_root.Goals as goal

pub returns-in_err-dir : goal.returns-in_err-dir
returns-in_err-dir c =
    let p = c.requires in
    let a = c.args in
    let t = root_refused a.sys.now.y a.vol.now a.sys.now.map.now (root_record a.sys.now.y a.vol.now a.root) a.slot a.offset _ (root_number a.sys.now.y a.vol.now a.root _ c.in_err-dir.ensures.0) (cause-not0 _) in
    let q = err_from_is_err_and c.from_residual.result c.from_residual.ensures.1 in
    rw (q.1, q.2) (t.0, p.1 ∙ t.1)

pub returns : goal.returns
returns c =
    let a = c.args in
    let e = c.in_ok-dir.ensures.0 in
    let o = rw (c.in_ok-dir.ensures.1.0, c.in_ok-dir.ensures.1.1) at c.open_file.ensures in
    let x = root_record_lem a.sys.now.y a.vol.now a.root _ e refl in
    let t = root_opens a.sys.now.y a.vol.now a.sys.now.map.now (root_record a.sys.now.y a.vol.now a.root) a.slot a.offset (sym (root_number a.sys.now.y a.vol.now a.root _ e)) in
    (o.0 ∙ ap (λ (u : Allocation). open_file a.sys.now.y a.vol.now a.sys.now.map.now u a.slot a.offset) x ∙ t.0, o.1 ∙ ap (λ (u : Allocation). set_read (bytes_in a.sys.now.y a.vol.now u) a.slot) x ∙ t.1)
