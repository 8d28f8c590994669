use native.Mathlib.Omega.{arith}
use Rattle.std.proofs.Common.{◌∙◌}
use Rattle.file.proofs.OpenLaws.{stands_inside, stands_reaches}
use Rattle.write_file.proofs.NewFileLaws.{ready_grows, insert_stands, insert_shown}
use Rattle.write_file.proofs.new_file.insert.Goals as goal

pub grow_by-w-requires : goal.grow_by-w-requires
grow_by-w-requires c =
    let a = c.args in
    let p = c.requires in
    (p.0.long, ready_grows a.sys.now.y a.vol.now a.sys.now.map.now a.dir a.hint p.0 _ p.1.1.1.1)

pub invariant_of-grown : goal.invariant_of-grown
invariant_of-grown c =
    let a = c.args in
    let p = c.requires in
    let g = c.grow_by-w in
    let h = insert_stands a.sys.now.y a.vol.now a.sys.now.map.now a.dir a.hint p.0 a.n p.1.1.0 a.room p.1.1.1.0 p.1.1.1.1 _ _ g.ensures.0 g.ensures.1 in
    record { long = g.auto.vol ∙ p.0.long; reads = h.reads }

pub locate-spot-requires : goal.locate-spot-requires
locate-spot-requires c =
    let a = c.args in
    let p = c.requires in
    let g = c.grow_by-w in
    let h = insert_stands a.sys.now.y a.vol.now a.sys.now.map.now a.dir a.hint p.0 a.n p.1.1.0 a.room p.1.1.1.0 p.1.1.1.1 _ _ g.ensures.0 g.ensures.1 in
    (omega arith, stands_inside _ _ _ _ p.0.laid _ h p.1.0)

pub write_set-requires : goal.write_set-requires
write_set-requires c =
    let a = c.args in
    let p = c.requires in
    let g = c.grow_by-w in
    let h = insert_stands a.sys.now.y a.vol.now a.sys.now.map.now a.dir a.hint p.0 a.n p.1.1.0 a.room p.1.1.1.0 p.1.1.1.1 _ _ g.ensures.0 g.ensures.1 in
    (omega arith, (g.auto.vol ∙ p.0.long, stands_reaches _ _ _ _ p.0.laid _ _ h c.locate-spot.ensures))

pub returns : goal.returns
returns c =
    let a = c.args in
    let p = c.requires in
    let g = c.grow_by-w in
    insert_shown a.sys.now.y a.vol.now a.sys.now.map.now a.dir a.hint p.0 a.n p.1.1.0 a.room p.1.1.1.0 p.1.1.1.1 _ _ g.ensures.0 g.ensures.1 _ _ _ c.locate-spot.ensures c.write_set.ensures
