use mathlib.Core.Path.{◌≡◌, ◌∙◌}
use Prim.Native.Nat.{◌/◌}
use native.Mathlib.Omega.{arith}
use Rattle.metadata.specs.Fat.{fat_entry}
use Rattle.stream.specs.Internal.{reached}
use Rattle.stream.proofs.BytesSteps.{known_steps, known_reach, known_heap, sought}
use Rattle.stream.proofs.bytes.ByteWalk.new.Goals as goal

pub seek-requires : goal.seek-requires
seek-requires _ c =
    let p = c.requires in
    let a = c.args in
    let s = sought _ _ _ _ _ a.at a.n a.sys.now.laid p.0 p.1.0 p.1.1.0 in
    let k = known_steps _ _ _ _ _ p.1.1.1 (omega (arith, a.sys.now.laid.size_low)) in
    (omega arith, (p.0, known_heap a.sys.now.y a.vol.now a.a a.known p.1.1.1.reaches (a.at / a.sys.now.y.size) k s.before))

pub returns : goal.returns
returns _ c =
    let p = c.requires in
    let a = c.args in
    let k = known_steps _ _ _ _ _ p.1.1.1 (omega (arith, a.sys.now.laid.size_low)) in
    let e : c.seek.result ≡ reached (fat_entry a.sys.now.y a.vol.now) a.a.no_fat_chain a.a.first (a.at / a.sys.now.y.size) =
    c.seek.ensures ∙ known_reach a.sys.now.y a.vol.now a.a a.known p.1.1.1.reaches (a.at / a.sys.now.y.size) k in
    cc
