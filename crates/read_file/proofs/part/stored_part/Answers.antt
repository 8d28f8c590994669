use mathlib.Core.Path.{◌∙◌}
use native.Mathlib.Nat.{mul-le-mul_right}
use native.Mathlib.Omega.{arith}
use Rattle.read_file.proofs.PartSteps.{place_low, reach_some, reach_heap, first_in, piece_some, piece_inside, part_is}
use Rattle.read_file.proofs.part.stored_part.Goals as goal

pub leading-together-requires : goal.leading-together-requires
leading-together-requires _ c =
    let p = c.requires in
    let a = c.args in
    (omega arith, (p.0, (reach_heap a.sys.now.y a.vol.now a.sys.now.laid a.a p.1.0 a.valid a.offset p.1.1.0 p.1.1.1.0 a.k p.1.1.1.1, reach_some a.sys.now.y a.vol.now a.sys.now.laid a.a p.1.0 a.valid a.offset p.1.1.0 p.1.1.1.0)))

pub cluster_offset-requires : goal.cluster_offset-requires
cluster_offset-requires _ c =
    let p = c.requires in
    let a = c.args in
    let h = first_in a.sys.now.y a.vol.now a.sys.now.laid a.a p.1.0 a.valid a.offset p.1.1.0 p.1.1.1.0 a.k p.1.1.1.1 in
    (omega arith, (h.0, h.1))

pub overflow_sub-together : goal.overflow_sub-together
overflow_sub-together _ c =
    let p = c.requires in
    let a = c.args in
    let t = c.leading-together.result in
    omega (arith, place_low a.sys.now.y a.vol.now a.sys.now.laid a.a p.1.0 a.valid a.offset p.1.1.0 p.1.1.1.0, mul-le-mul_right {m = 1} {n = t} a.sys.now.y.size (piece_some a.sys.now.y a.vol.now a.sys.now.laid a.a p.1.0 a.valid a.offset p.1.1.0 p.1.1.1.0 a.k p.1.1.1.1 c.leading-together.result c.leading-together.ensures))

pub overflow_cast-result-2 : goal.overflow_cast-result-2
overflow_cast-result-2 _ c =
    let p = c.requires in
    let a = c.args in
    let h = piece_inside a.sys.now.y a.vol.now a.sys.now.laid a.a p.1.0 a.valid a.offset p.1.1.0 p.1.1.1.0 a.k p.1.1.1.1 c.leading-together.result c.leading-together.ensures in
    omega (arith, h, a.sys.now.laid.len_high, c.min-len.ensures)

pub returns : goal.returns
returns _ c =
    let p = c.requires in
    let a = c.args in
    (cc) ∙ (part_is a.sys.now.y a.vol.now a.sys.now.laid a.a p.1.0 a.valid a.offset p.1.1.0 p.1.1.1.0 a.k p.1.1.1.1 c.leading-together.result c.leading-together.ensures c.min-len.result c.min-len.ensures)
