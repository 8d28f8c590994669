use Rattle.directory.specs.Internal.{OpenedFile}
use Rattle.std.proofs.Common.{refl, ap, ◌∙◌, arith}
use Rattle.std.proofs.lemmas.Result.{err_from_is_err_and}
use Rattle.boot.proofs.CauseLaws.{cause-not0}
use Rattle.metadata.proofs.Frame.{fits}
use Rattle.directory.specs.Directory.{root_record}
use Rattle.file.proofs.CallLaws.{refused_shown}
use Rattle.file.proofs.OpenLaws.{target_number, opened, opened_known, open_stream, open_reaches, open_stored, opens_none, shown_as, carried-shown, refuse-shown}
use Rattle.write_file.proofs.WriteLaws.{write_refused, write_stored}
use Rattle.write_file.proofs.write.write_in.Goals as goal

pub returns-in_err-f : goal.returns-in_err-f
returns-in_err-f c =
    let i = c.args in
    let q = ap (λ (x : OpenedFile). x.number) c.in_err-f.ensures.0 ∙ target_number i.sys.now.y i.vol.now i.sys.now.map.now (root_record i.sys.now.y i.vol.now i.root) i.slot i.offset i.hint in
    let r = err_from_is_err_and c.from_residual.result c.from_residual.ensures.1 in
    rw (r.1, r.2) (shown_as (write_refused i.sys.now.y i.vol.now i.sys.now.map.now (root_record i.sys.now.y i.vol.now i.root) i.slot i.offset i.src.now i.t i.hint _ q (cause-not0 _)) (refuse-shown _ _ _ _ refl))

pub write_data-requires : goal.write_data-requires
write_data-requires c =
    let i = c.args in
    let p = c.requires in
    let e = c.in_ok-f.ensures in
    let o = opened i.sys.now i.vol.now p i.root i.slot i.offset i.hint _ _ e refl in
    let v = c.valid_length-valid in
    let k = opened_known i.sys.now i.vol.now p i.root i.slot i.offset i.hint _ _ e refl in
    (p, (o.hint_in, (open_stream _ _ _ _ _ _ _ _ o, rw v.ensures k)))

pub returns-in_err-w : goal.returns-in_err-w
returns-in_err-w c =
    let i = c.args in
    let p = c.requires in
    let e = c.in_ok-f.ensures in
    let w = fits i.sys.now i.vol.now p in
    let o = opened i.sys.now i.vol.now p i.root i.slot i.offset i.hint _ _ e refl in
    let g = c.in_err-w.ensures in
    let j = write_stored i.sys.now.y i.vol.now i.sys.now.map.now (root_record i.sys.now.y i.vol.now i.root) i.slot i.offset i.src.now i.t i.hint (opens_none _ _ _ _ _ _ _ _ o) _ o.set _ o.stream _ _ c.valid_length-valid.ensures c.data_length-len.ensures _ _ g.0 g.1 in
    let h = j.0 (cause-not0 _) in
    let r = err_from_is_err_and c.from_residual-in_err-w.result c.from_residual-in_err-w.ensures.1 in
    rw (r.1, r.2) (shown_as h.0 (refused_shown _ _ _ _ _ refl h.1))

pub record_set-requires : goal.record_set-requires
record_set-requires c =
    let i = c.args in
    let p = c.requires in
    let e = c.in_ok-f.ensures in
    let o = opened i.sys.now i.vol.now p i.root i.slot i.offset i.hint _ _ e refl in
    (omega arith, (omega (arith, p), open_reaches _ _ _ _ _ _ _ _ o))

pub returns : goal.returns
returns c =
    let i = c.args in
    let p = c.requires in
    let e = c.in_ok-f.ensures in
    let o = opened i.sys.now i.vol.now p i.root i.slot i.offset i.hint _ _ e refl in
    let g = c.in_ok-w.ensures in
    let j = write_stored i.sys.now.y i.vol.now i.sys.now.map.now (root_record i.sys.now.y i.vol.now i.root) i.slot i.offset i.src.now i.t i.hint (opens_none _ _ _ _ _ _ _ _ o) _ o.set _ o.stream _ _ c.valid_length-valid.ensures c.data_length-len.ensures _ _ g.0 g.1 in
    shown_as (j.1 refl) (carried-shown 0 _ _ _ (open_stored _ _ _ _ _ _ _ _ o _ _ _ _ _ _ c.record_set.ensures.0))
