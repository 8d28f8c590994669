use Rattle.std.proofs.Common.{◌∙◌}
use Rattle.directory.specs.Directory.{root_record}
use Rattle.file.proofs.OpenLaws.{target_hint, target_root}
use Rattle.file.proofs.target.open_target.Goals as goal

pub returns-then-not-in_heap : goal.returns-then-not-in_heap
returns-then-not-in_heap c =
    let a = c.args in
    let p = c.requires in
    let t = target_hint a.sys.now.y a.vol.now a.sys.now.map.now (root_record a.sys.now.y a.vol.now a.root) a.slot a.offset a.hint (cc) in
    (t.0, p.1 ∙ t.1)

pub returns : goal.returns
returns c =
    let a = c.args in
    let e = c.open_in_root.ensures in
    let t = target_root a.sys.now.y a.vol.now a.sys.now.map.now (root_record a.sys.now.y a.vol.now a.root) a.slot a.offset a.hint (cc) in
    (e.0 ∙ t.0, e.1 ∙ t.1)
