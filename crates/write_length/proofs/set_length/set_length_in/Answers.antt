use Rattle.directory.specs.Internal.{OpenedFile}
use mathlib.Core.Path.{refl, sym, ◌∙◌, ap}
use Rattle.std.proofs.lemmas.Result.{err_from_is_err_and}
use Rattle.boot.proofs.CauseLaws.{cause-not0}
use Prim.Native.Nat.{ℕ, ◌≤◌, min}
use native.Mathlib.Omega.{arith}
use Rattle.stream.proofs.BytesSteps.{known_later}
use Rattle.entry_set.specs.Fields.{clusters_for}
use Rattle.entry_set.proofs.LengthLaws.{clusters_mono}
use Rattle.directory.specs.Directory.{root_record}
use Rattle.directory.specs.Open.{file_record}
use Rattle.file.proofs.OpenLaws.{target_number, opened, opened_known, open_stream, open_count, open_valid, open_small, open_reaches, open_stored, opens_none, shown_as, carried-shown, refuse-shown}
use Rattle.write_length.proofs.SetLengthLaws.{set_refused, set-not, set-shorter, set_longer, cut-reads, cut_part, cut-shorter}
use Rattle.write_length.proofs.set_length.set_length_in.Goals as goal

pub returns-in_err-f : goal.returns-in_err-f
returns-in_err-f c =
    let i = c.args in
    let q = ap (λ (x : OpenedFile). x.number) c.in_err-f.ensures.0 ∙ target_number i.sys.now.y i.vol.now i.sys.now.map.now (root_record i.sys.now.y i.vol.now i.root) i.slot i.len i.hint in
    let r = err_from_is_err_and c.from_residual.result c.from_residual.ensures.1 in
    rw (r.1, r.2) (shown_as (set_refused i.sys.now.y i.vol.now i.sys.now.map.now (root_record i.sys.now.y i.vol.now i.root) i.slot i.len i.t i.hint _ q (cause-not0 _)) (refuse-shown _ _ _ _ refl))

pub returns-in_err-length_cause : goal.returns-in_err-length_cause
returns-in_err-length_cause c =
    let i = c.args in
    let p = c.requires in
    let x = c.in_ok-f.ensures in
    let o = opened i.sys.now i.vol.now p i.root i.slot i.len i.hint _ _ x refl in
    let r = err_from_is_err_and c.from_residual-in_err-length_cause.result c.from_residual-in_err-length_cause.ensures.1 in
    rw (r.1, r.2) (shown_as (set-not i.sys.now.y i.vol.now i.sys.now.map.now (root_record i.sys.now.y i.vol.now i.root) i.slot i.len i.t i.hint (opens_none _ _ _ _ _ _ _ _ o) _ (o.stream ∙ ap (file_record i.sys.now.y i.vol.now) o.set) _ c.in_err-length_cause.ensures (cause-not0 _)) (refuse-shown _ _ _ _ refl))

pub cut_plan-c-requires : goal.cut_plan-c-requires
cut_plan-c-requires c =
    let i = c.args in
    let p = c.requires in
    let x = c.in_ok-f.ensures in
    let o = opened i.sys.now i.vol.now p i.root i.slot i.len i.hint _ _ x refl in
    let v = c.valid_length-valid in
    let u = c.data_length-old in
    let h : 1 ≤ i.sys.now.y.size = omega (arith, i.sys.now.laid.size_low) in
    (omega arith, (p, (open_stream _ _ _ _ _ _ _ _ o, omega (arith, clusters_mono i.sys.now.y.size h i.len u.result (omega arith), ap (clusters_for i.sys.now.y.size) u.ensures, open_count _ _ _ _ _ _ _ _ o))))

pub record_set-requires : goal.record_set-requires
record_set-requires c =
    let i = c.args in
    let p = c.requires in
    let x = c.in_ok-f.ensures in
    let o = opened i.sys.now i.vol.now p i.root i.slot i.len i.hint _ _ x refl in
    (omega arith, (p, open_reaches _ _ _ _ _ _ _ _ o))

pub cut_to-requires : goal.cut_to-requires
cut_to-requires c =
    let i = c.args in
    let p = c.requires in
    let x = c.in_ok-f.ensures in
    let o = opened i.sys.now i.vol.now p i.root i.slot i.len i.hint _ _ x refl in
    let v = c.valid_length-valid in
    let u = c.data_length-old in
    let h : 1 ≤ i.sys.now.y.size = omega (arith, i.sys.now.laid.size_low) in
    let g = c.cut_plan-c in
    (omega arith, (omega (arith, p), (cut-reads _ _ _ _ _ _ _ _ o i.len i.t _ g.result g.ensures _ c.record_set.ensures.0, cut_part _ _ _ _ _ _ _ _ o i.len i.t _ g.result g.ensures _ c.record_set.ensures.0 (omega (arith, clusters_mono i.sys.now.y.size h i.len u.result (omega (arith, c.if-len-old.true)), ap (clusters_for i.sys.now.y.size) u.ensures, open_count _ _ _ _ _ _ _ _ o)))))

pub returns-then-len-old : goal.returns-then-len-old
returns-then-len-old c =
    let i = c.args in
    let p = c.requires in
    let x = c.in_ok-f.ensures in
    let o = opened i.sys.now i.vol.now p i.root i.slot i.len i.hint _ _ x refl in
    let none = sym c.in_ok-length_cause.ensures in
    let v = c.valid_length-valid in
    let u = c.data_length-old in
    let g = c.cut_plan-c in
    let e = c.min-capped.ensures ∙ ap (λ (x : ℕ). min x i.len) v.ensures in
    shown_as (set-shorter i.sys.now.y i.vol.now i.sys.now.map.now (root_record i.sys.now.y i.vol.now i.root) i.slot i.len i.t i.hint (opens_none _ _ _ _ _ _ _ _ o) _ o.set _ o.stream none u.result u.ensures (omega (arith, c.if-len-old.true))) (cut-shorter _ _ _ _ _ _ _ _ o i.len i.t _ g.result g.ensures _ c.record_set.ensures.0 e _ c.cut_to.ensures)

pub lengthen-r-requires : goal.lengthen-r-requires
lengthen-r-requires c =
    let i = c.args in
    let p = c.requires in
    let x = c.in_ok-f.ensures in
    let o = opened i.sys.now i.vol.now p i.root i.slot i.len i.hint _ _ x refl in
    let none = sym c.in_ok-length_cause.ensures in
    let v = c.valid_length-valid in
    let u = c.data_length-old in
    let e = opened_known i.sys.now i.vol.now p i.root i.slot i.len i.hint _ _ x refl in
    let k = known_later i.sys.now.y i.vol.now c.in_ok-f.f.stream c.in_ok-f.f.place _ e v.result (omega (arith, v.ensures)) in
    (p, (o.hint_in, (open_stream _ _ _ _ _ _ _ _ o, (none, (omega (arith, v.ensures, u.ensures, open_valid _ _ _ _ _ _ _ _ o), (omega (arith, v.ensures, open_small _ _ _ _ _ _ _ _ o), k))))))

pub record_set-requires-2 : goal.record_set-requires-2
record_set-requires-2 c =
    let i = c.args in
    let p = c.requires in
    let x = c.in_ok-f.ensures in
    let o = opened i.sys.now i.vol.now p i.root i.slot i.len i.hint _ _ x refl in
    (omega arith, (omega (arith, p), open_reaches _ _ _ _ _ _ _ _ o))

pub returns : goal.returns
returns c =
    let i = c.args in
    let p = c.requires in
    let x = c.in_ok-f.ensures in
    let o = opened i.sys.now i.vol.now p i.root i.slot i.len i.hint _ _ x refl in
    let none = sym c.in_ok-length_cause.ensures in
    let v = c.valid_length-valid in
    let u = c.data_length-old in
    let g = c.lengthen-r in
    shown_as (set_longer i.sys.now.y i.vol.now i.sys.now.map.now (root_record i.sys.now.y i.vol.now i.root) i.slot i.len i.t i.hint (opens_none _ _ _ _ _ _ _ _ o) _ o.set _ o.stream none u.result u.ensures (omega (arith, c.if-len-old.false)) v.result v.ensures _ _ g.ensures.0 g.ensures.1) (carried-shown 0 _ _ _ (open_stored _ _ _ _ _ _ _ _ o _ _ _ _ _ _ c.record_set-2.ensures.0))
