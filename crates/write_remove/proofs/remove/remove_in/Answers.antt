use Rattle.directory.specs.Internal.{OpenedFile}
use mathlib.Core.Path.{refl, ◌∙◌, ap}
use Rattle.std.proofs.lemmas.Result.{err_from_is_err_and}
use Rattle.boot.proofs.CauseLaws.{cause-not0}
use native.Mathlib.Omega.{arith}
use Rattle.directory.specs.Directory.{root_record}
use Rattle.file.proofs.OpenLaws.{target_number, opened, open_reaches, shown_as, refuse-shown}
use Rattle.write_remove.proofs.RemoveLaws.{remove_refused, unlinked-reads, unlinked_heap, unlinked-cut}
use Rattle.write_remove.proofs.remove.remove_in.Goals as goal

pub returns-in_err-f : goal.returns-in_err-f
returns-in_err-f c =
    let i = c.args in
    let q = ap (λ (x : OpenedFile). x.number) c.in_err-f.ensures.0 ∙ target_number i.sys.now.y i.vol.now i.sys.now.map.now (root_record i.sys.now.y i.vol.now i.root) i.slot 0 i.hint in
    let r = err_from_is_err_and c.from_residual.result c.from_residual.ensures.1 in
    rw (r.1, r.2) (shown_as (remove_refused i.sys.now.y i.vol.now i.sys.now.map.now (root_record i.sys.now.y i.vol.now i.root) i.slot i.hint _ q (cause-not0 _)) (refuse-shown _ _ _ _ refl))

pub unset-requires : goal.unset-requires
unset-requires c =
    let i = c.args in
    let p = c.requires in
    let x = c.in_ok-f.ensures in
    let o = opened i.sys.now i.vol.now p i.root i.slot 0 i.hint _ _ x refl in
    (omega arith, (p, open_reaches _ _ _ _ _ _ _ _ o))

pub kept_part-part-requires : goal.kept_part-part-requires
kept_part-part-requires c =
    let i = c.args in
    let p = c.requires in
    let x = c.in_ok-f.ensures in
    let o = opened i.sys.now i.vol.now p i.root i.slot 0 i.hint _ _ x refl in
    (omega arith, (omega (arith, p), unlinked_heap _ _ _ _ _ _ _ _ o _ c.unset.ensures.0 _ (omega arith)))

pub cut_in-requires : goal.cut_in-requires
cut_in-requires c =
    let i = c.args in
    let p = c.requires in
    let x = c.in_ok-f.ensures in
    let o = opened i.sys.now i.vol.now p i.root i.slot 0 i.hint _ _ x refl in
    (omega arith, (omega (arith, p), (unlinked-reads _ _ _ _ _ _ _ _ o _ c.unset.ensures.0, (omega arith, c.kept_part-part.ensures))))

pub returns : goal.returns
returns c =
    let i = c.args in
    let p = c.requires in
    let x = c.in_ok-f.ensures in
    let o = opened i.sys.now i.vol.now p i.root i.slot 0 i.hint _ _ x refl in
    unlinked-cut _ _ _ _ _ _ _ _ o _ c.unset.ensures.0 _ c.cut_in.ensures
