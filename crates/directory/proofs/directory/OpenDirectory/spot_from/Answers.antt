use mathlib.Core.Path.{refl, ◌∙◌, ap}
use Prim.Native.Nat.{ℕ}
use native.Mathlib.Omega.{arith}
use Rattle.directory.specs.declared.entries.Cursor.{Cursor}
use Rattle.directory.proofs.SpotLaws.{slot_inside, spot_found, second_heap}
use Rattle.directory.proofs.directory.OpenDirectory.spot_from.Goals as goal

pub cluster_after-second-requires : goal.cluster_after-second-requires
cluster_after-second-requires _ c =
    let d = c.args.self.now in
    let p = c.requires in
    let a = c.args in
    let s = slot_inside d.sys.now.y d.vol.now d.allocation a.slot d.sys.now.laid d.reads p.0 in
    (omega arith, rw (ap (λ (x : Cursor). x.cluster) p.1) s.heap)

pub cluster_after-third-requires : goal.cluster_after-third-requires
cluster_after-third-requires _ c =
    let d = c.args.self.now in
    let p = c.requires in
    let a = c.args in
    let s = slot_inside d.sys.now.y d.vol.now d.allocation a.slot d.sys.now.laid d.reads p.0 in
    (omega arith, second_heap _ _ _ _ _ _ (omega (arith, s.steps)) c.cluster_after-second.ensures (rw (ap (λ (x : Cursor). x.cluster) p.1) s.heap))

pub returns : goal.returns
returns _ c =
    let d = c.args.self.now in
    let p = c.requires in
    let a = c.args in
    let s = slot_inside d.sys.now.y d.vol.now d.allocation a.slot d.sys.now.laid d.reads p.0 in
    ap (λ (x : ℕ). record { first = a.e.cluster; second = c.cluster_after-second.result; third = c.cluster_after-third.result; at = x }) (ap (λ (x : Cursor). x.at) p.1) ∙ spot_found d.sys.now.y d.vol.now d.allocation a.slot d.sys.now.laid d.reads p.0 _ _ _ _ refl (ap (λ (x : Cursor). x.cluster) p.1) c.cluster_after-second.ensures c.cluster_after-third.ensures
