use Prim.Native.Nat.{◌+◌}
use native.Mathlib.Omega.{arith}
use Rattle.boot.proofs.Apart.{in_heap_lem}
use Rattle.directory.proofs.OpenedLaws.{opened_fits}
use Rattle.directory.proofs.CursorLaws.{counted_start, counted_next, counted_heap, counted_end, cursor_in}
use Rattle.directory.proofs.entries.OpenDirectory+1+WIDE.skip.Goals as goal

pub overflow_cast-more : goal.overflow_cast-more
overflow_cast-more _ c =
    let d = c.args.self.now in
    let p = c.requires in
    let a = c.args in
    let w = opened_fits d in
    let h = cursor_in d.sys.now.y d.vol.now w d.allocation d.reads a.k (omega arith) a.e p.0 in
    omega arith

pub overflow_add-more : goal.overflow_add-more
overflow_add-more _ c =
    let d = c.args.self.now in
    let p = c.requires in
    let a = c.args in
    let w = opened_fits d in
    let h = cursor_in d.sys.now.y d.vol.now w d.allocation d.reads a.k (omega arith) a.e p.0 in
    omega arith

pub loop-more-init : goal.loop-more-init
loop-more-init _ c =
    let d = c.args.self.now in
    let p = c.requires in
    let a = c.args in
    let w = opened_fits d in
    counted_start d.sys.now.y d.vol.now w d.allocation d.reads a.k a.m (omega arith) a.e p.0

pub next_cluster-cluster-requires : goal.next_cluster-cluster-requires
next_cluster-cluster-requires _ c =
    let d = c.args.self.now in
    let p = c.requires in
    let a = c.args in
    let w = opened_fits d in
    let l = c.loop-more in
    let h = in_heap_lem _ _ (counted_heap d.sys.now.y d.vol.now w d.allocation d.reads (a.k + a.m) l.cluster l.more l.invariant p.1.1) in
    (omega arith, h.1)

pub loop-more-preserved : goal.loop-more-preserved
loop-more-preserved _ c =
    let d = c.args.self.now in
    let a = c.args in
    let w = opened_fits d in
    let l = c.loop-more in
    rw c.next_cluster-cluster.ensures (counted_next d.sys.now.y d.vol.now w d.allocation d.reads (a.k + a.m) l.cluster l.more l.invariant (omega arith))

pub returns : goal.returns
returns _ c =
    let d = c.args.self.now in
    let a = c.args in
    let w = opened_fits d in
    let l = c.loop-more in
    counted_end d.sys.now.y d.vol.now w d.allocation d.reads (a.k + a.m) l.cluster l.more l.invariant (omega arith)
