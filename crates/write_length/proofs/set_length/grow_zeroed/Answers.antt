use native.Mathlib.Omega.{arith}
use Prim.Native.Nat.{◌≤◌}
use Rattle.metadata.proofs.Frame.{fits}
use Rattle.write_alloc.specs.Outcome.{success}
use Rattle.file.proofs.RefreshLaws.{grow_known}
use Rattle.write_length.proofs.SetLengthLaws.{end_le}
use Rattle.write_length.proofs.set_length.grow_zeroed.Goals as goal

pub zero_range-requires : goal.zero_range-requires
zero_range-requires c =
    let a = c.args in
    let p = c.requires in
    let w = fits a.sys.now a.vol.now p.0 in
    let g = c.grow_to-r in
    let k = c.grown_place-place in
    let h : 1 ≤ a.sys.now.y.size = omega (arith, a.sys.now.laid.size_low) in
    let n = grow_known a.sys.now.y a.vol.now a.sys.now.map.now w a.b a.len a.hint p.1.1.0 p.1.0 p.1.1.1.0 (success g.result) _ g.ensures.0 g.ensures.1.0 a.known _ p.1.1.1.1.1.1 in
    (omega arith, (omega arith, (g.ensures.1.1.0, (omega (arith, g.ensures.1.1.1, c.zero_end-to.ensures, end_le a.sys.now.y.size a.valid a.len h), rw k.ensures n))))
