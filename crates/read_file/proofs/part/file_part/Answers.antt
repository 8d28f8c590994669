use mathlib.Core.Path.{◌∙◌}
use Prim.Native.Nat.{◌<◌}
use native.Mathlib.Omega.{arith}
use Rattle.entry_set.specs.Fields.{valid_length}
use Rattle.read_file.proofs.PartSteps.{valid_room, length_high, file-stored, file_zeros, file_past}
use Rattle.read_file.proofs.part.file_part.Goals as goal

pub stored_part-requires : goal.stored_part-requires
stored_part-requires _ c =
    let p = c.requires in
    let a = c.args in
    let v = c.valid_length-valid.ensures in
    let h : a.offset < valid_length a.set.now = omega (arith, v) in
    (omega arith, (p.long, (p.reads, (omega arith, (omega (arith, v, valid_room a.sys.now.y a.sys.now.laid a.vol.now a.set.now a.b a.k a.offset p), p.seen h)))))

pub returns-then-offset-valid : goal.returns-then-offset-valid
returns-then-offset-valid _ c =
    let p = c.requires in
    let a = c.args in
    let v = c.valid_length-valid.ensures in
    let h : a.offset < valid_length a.set.now = omega (arith, v) in
    (cc) ∙ file-stored a.sys.now.y a.sys.now.laid a.vol.now a.set.now a.b a.k a.offset p a.zeros h

pub zero_part-requires : goal.zero_part-requires
zero_part-requires _ c =
    let p = c.requires in
    let a = c.args in
    let e = c.data_length-len.ensures in
    (omega arith, omega (arith, e, length_high a.sys.now.y a.sys.now.laid a.vol.now a.set.now a.b a.k a.offset p, a.sys.now.laid.len_high))

pub returns-then-offset-len : goal.returns-then-offset-len
returns-then-offset-len _ c =
    let p = c.requires in
    let a = c.args in
    let v = c.valid_length-valid.ensures in
    let e = c.data_length-len.ensures in
    (cc) ∙ file_zeros a.sys.now.y a.sys.now.laid a.vol.now a.set.now a.b a.k a.offset p a.zeros (omega (arith, v)) (omega (arith, e))

pub returns : goal.returns
returns _ c =
    let p = c.requires in
    let a = c.args in
    let v = c.valid_length-valid.ensures in
    let e = c.data_length-len.ensures in
    (cc) ∙ file_past a.sys.now.y a.sys.now.laid a.vol.now a.set.now a.b a.k a.offset p a.zeros (omega (arith, v)) (omega (arith, e))
