use Prim.Native.Nat.{◌+◌, ◌-◌, ◌*◌}
use native.Mathlib.Omega.{arith}
use lib.ListN.{drop, length-drop}
use Rattle.write_dir.proofs.PlaceLaws.{stored_part, store_spot}
use Rattle.write_dir.proofs.place.write_set.Goals as goal

pub returns : goal.returns
returns _ c =
    let a = c.args in
    let s = a.set.now in
    let r = c.requires.1 in
    let one = c.put_part-one in
    let two = c.put_part-two in
    let three = c.put_part in
    let all = 32 * a.n in
    let past = one.result + two.result in
    let p = stored_part a.sys.now.y _ _ a.spot.first a.spot.at s all one.result (omega (arith, r.few)) one.ensures.0 one.ensures.1 in
    let q = stored_part a.sys.now.y _ _ a.spot.second 0 (drop one.result s) (all - one.result) two.result (omega (arith, r.few, length-drop one.result s)) two.ensures.0 two.ensures.1 in
    let t = stored_part a.sys.now.y _ _ a.spot.third 0 (drop past s) (all - past) three.result (omega (arith, r.few, length-drop past s)) three.ensures.0 three.ensures.1 in
    store_spot a.sys.now.y a.vol.now _ _ _ a.spot s a.n _ _ _ a.sys.now.laid r (omega arith) p.0 q.0 (omega (arith, t.0)) p.1 q.1 t.1
