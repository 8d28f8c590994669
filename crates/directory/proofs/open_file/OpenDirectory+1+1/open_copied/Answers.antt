use mathlib.Core.Path.{refl, ◌∙◌, ap}
use Rattle.std.proofs.lemmas.Result.{err_from_is_err_and}
use Rattle.boot.proofs.CauseLaws.{cause-not0}
use native.Mathlib.Omega.{arith}
use Prim.Native.Nat.{ℕ}
use mathlib.Core.Bool.{cond}
use mathlib.Core.List.{List}
use Rattle.entry_set.specs.Sound.{well_formed}
use Rattle.entry_set.specs.Fields.{valid_length}
use Rattle.directory.specs.Open.{file_record, directory_attribute_cause}
use Rattle.directory.specs.Internal.{opened_stream, start_steps}
use Rattle.directory.proofs.OpenedLaws.{opened_fits}
use Rattle.directory.proofs.CursorLaws.{slot_bytes}
use Rattle.directory.proofs.OpenLaws.{file-not, file_refused, file-done}
use Rattle.directory.proofs.open_file.OpenDirectory+1+1.open_copied.Goals as goal

pub returns-in_err-set_cause : goal.returns-in_err-set_cause
returns-in_err-set_cause c =
    let d = c.args.self.now in
    let p = c.requires in
    let a = c.args in
    let q = err_from_is_err_and c.from_residual.result c.from_residual.ensures.1 in
    rw (q.1, q.2) (file-not d.sys.now.y d.vol.now d.sys.now.map.now d.allocation a.slot a.offset p.1.1.0 _ (rw (← p.1.1.1) c.in_err-set_cause.ensures) (cause-not0 _))

pub returns-in_err-s : goal.returns-in_err-s
returns-in_err-s c =
    let d = c.args.self.now in
    let p = c.requires in
    let a = c.args in
    let e = c.in_ok-set_cause.ensures ∙ ap (λ (x : List ℕ). cond (well_formed d.sys.now.y.count d.sys.now.y.size x) (directory_attribute_cause x) 10) p.1.1.1 in
    let q = err_from_is_err_and c.from_residual-in_err-s.result c.from_residual-in_err-s.ensures.1 in
    rw (q.1, q.2) (file_refused d.sys.now.y d.vol.now d.sys.now.map.now d.allocation a.slot a.offset p.1.1.0 0 e refl _ (c.in_err-s.ensures ∙ ap (λ (x : List ℕ). opened_stream d.sys.now.y d.vol.now d.sys.now.map.now (file_record d.sys.now.y d.vol.now x) (start_steps d.sys.now.y.size (valid_length x) a.offset (file_record d.sys.now.y d.vol.now x).count)) p.1.1.1) (cause-not0 _))

pub spot_from-requires : goal.spot_from-requires
spot_from-requires c =
    let d = c.args.self.now in
    let p = c.requires in
    let a = c.args in
    let w = opened_fits d in
    (omega arith, (omega (arith, slot_bytes d.sys.now.y d.vol.now w d.allocation d.reads a.slot 1 (omega arith)), p.1.0))

pub returns : goal.returns
returns c =
    let d = c.args.self.now in
    let p = c.requires in
    let a = c.args in
    let e = c.in_ok-set_cause.ensures ∙ ap (λ (x : List ℕ). cond (well_formed d.sys.now.y.count d.sys.now.y.size x) (directory_attribute_cause x) 10) p.1.1.1 in
    file-done d.sys.now.y d.vol.now d.sys.now.map.now d.allocation a.slot a.offset p.1.1.0 0 e refl _ (c.in_ok-s.ensures ∙ ap (λ (x : List ℕ). opened_stream d.sys.now.y d.vol.now d.sys.now.map.now (file_record d.sys.now.y d.vol.now x) (start_steps d.sys.now.y.size (valid_length x) a.offset (file_record d.sys.now.y d.vol.now x).count)) p.1.1.1) refl c.spot_from.result c.spot_from.ensures
