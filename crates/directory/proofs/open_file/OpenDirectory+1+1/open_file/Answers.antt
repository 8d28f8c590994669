use mathlib.Core.Path.{sym, ◌∙◌}
use mathlib.Core.Bool.{false≢true}
use native.Mathlib.Omega.{arith}
use Rattle.directory.specs.Internal.{bytes}
use Rattle.directory.proofs.EntryLaws.{file_before}
use Rattle.directory.proofs.EndLaws.{slot_none, slot_some}
use Rattle.directory.proofs.OpenLaws.{fits_no, entries_low, read_none, file-none}
use Rattle.directory.proofs.open_file.OpenDirectory+1+1.open_file.Goals as goal

pub returns-then-total-slot : goal.returns-then-total-slot
returns-then-total-slot c =
    let d = c.args.self.now in
    let p = c.requires in
    let a = c.args in
    let e = fits_no (bytes d) a.slot (λ f g h. omega (arith, h, entries_low (bytes d) a.slot)) in
    ((cc) ∙ file-none d.sys.now.y d.vol.now d.sys.now.map.now d.allocation a.slot a.offset e, p ∙ read_none d.sys.now.y d.vol.now d.allocation a.slot e)

pub returns-in_default : goal.returns-in_default
returns-in_default c =
    let d = c.args.self.now in
    let p = c.requires in
    let a = c.args in
    let t = slot_none d.sys.now.y d.vol.now d.allocation a.slot (sym c.slot_entry.ensures ∙ c.in_default.is) in
    let e = fits_no (bytes d) a.slot (λ f g h. false≢true (sym t ∙ file_before (bytes d) a.slot f)) in
    ((cc) ∙ file-none d.sys.now.y d.vol.now d.sys.now.map.now d.allocation a.slot a.offset e, p ∙ read_none d.sys.now.y d.vol.now d.allocation a.slot e)

pub open_at-requires : goal.open_at-requires
open_at-requires c =
    let d = c.args.self.now in
    let p = c.requires in
    let a = c.args in
    let n = c.entry_count-total in
    let t = slot_some d.sys.now.y d.vol.now d.allocation a.slot c.in-Some.e (sym c.slot_entry.ensures ∙ c.in-Some.is) in
    (omega arith, (t.0, (n.ensures.0, (n.ensures.1, (t.1, p)))))
