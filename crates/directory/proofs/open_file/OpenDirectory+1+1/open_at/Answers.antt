use mathlib.Core.Path.{◌∙◌, sym}
use native.Mathlib.Omega.{arith}
use Rattle.directory.specs.Internal.{bytes}
use Rattle.directory.proofs.OpenLaws.{set_fits_lem, whole_none, whole_some, read_none, read_some, file-none}
use Rattle.directory.proofs.open_file.OpenDirectory+1+1.open_at.Goals as goal

pub returns-in_default : goal.returns-in_default
returns-in_default c =
    let d = c.args.self.now in
    let p = c.requires in
    let a = c.args in
    let e = whole_none (bytes d) a.slot (sym c.entries_here.ensures ∙ c.in_default.is) in
    ((cc) ∙ file-none d.sys.now.y d.vol.now d.sys.now.map.now d.allocation a.slot a.offset e, p.1.1.1.1.1 ∙ read_none d.sys.now.y d.vol.now d.allocation a.slot e)

pub copy_set-requires : goal.copy_set-requires
copy_set-requires c =
    let d = c.args.self.now in
    let p = c.requires in
    let a = c.args in
    let s = whole_some (bytes d) a.slot c.in-Some.n (sym c.entries_here.ensures ∙ c.in-Some.is) in
    let t = set_fits_lem (bytes d) a.slot s.0 in
    (omega arith, (p.1.0, (s.1, (omega (arith, s.1, t.1.0), (omega (arith, s.1, t.1.1), p.1.1.1.1.1)))))

pub open_copied-requires : goal.open_copied-requires
open_copied-requires c =
    let d = c.args.self.now in
    let p = c.requires in
    let a = c.args in
    let s = whole_some (bytes d) a.slot c.in-Some.n (sym c.entries_here.ensures ∙ c.in-Some.is) in
    (p.0, (p.1.0, (s.0, (cc))))

pub returns : goal.returns
returns c =
    let d = c.args.self.now in
    let a = c.args in
    let s = whole_some (bytes d) a.slot c.in-Some.n (sym c.entries_here.ensures ∙ c.in-Some.is) in
    ((cc), (cc) ∙ read_some _ _ _ _ s.0)
