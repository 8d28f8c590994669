use native.Mathlib.Omega.{arith}
use Rattle.directory.proofs.OpenedLaws.{opened_fits}
use Rattle.directory.proofs.CursorLaws.{entries_is, entries_small, cursor_in}
use Rattle.directory.proofs.WindowLaws.{window_low, window_room, window_here, window_over}
use Rattle.directory.proofs.entries.OpenDirectory+1+WIDE.pass_used.Goals as goal

pub overflow_cast-from : goal.overflow_cast-from
overflow_cast-from _ c =
    let d = c.args.self.now in
    let p = c.requires in
    let a = c.args in
    let w = opened_fits d in
    let i = cursor_in d.sys.now.y d.vol.now w d.allocation d.reads a.base p.1.1.1 a.e p.0 in
    omega arith

pub used_windows_in-to-requires : goal.used_windows_in-to-requires
used_windows_in-to-requires _ c =
    let d = c.args.self.now in
    let p = c.requires in
    let a = c.args in
    let w = opened_fits d in
    let i = cursor_in d.sys.now.y d.vol.now w d.allocation d.reads a.base p.1.1.1 a.e p.0 in
    (omega arith, (i.0, (i.1.0, (omega arith, (p.1.0, p.1.1.0)))))

pub overflow_sub-slot : goal.overflow_sub-slot
overflow_sub-slot _ c =
    let d = c.args.self.now in
    let p = c.requires in
    let a = c.args in
    let w = opened_fits d in
    window_low d.sys.now.y d.vol.now w d.allocation d.reads a.base p.1.1.1 a.e p.0 a.n c.used_windows_in-to.result p.1.0 c.used_windows_in-to.ensures

pub overflow_add-slot : goal.overflow_add-slot
overflow_add-slot _ c =
    let d = c.args.self.now in
    let p = c.requires in
    let a = c.args in
    let w = opened_fits d in
    omega (arith, window_room d.sys.now.y d.vol.now w d.allocation d.reads a.base p.1.1.1 a.e p.0 a.n c.used_windows_in-to.result p.1.0 c.used_windows_in-to.ensures, entries_small d.sys.now.y d.vol.now w d.allocation d.reads, entries_is d.sys.now.y d.vol.now w d.allocation d.reads)

pub returns-then-at-self : goal.returns-then-at-self
returns-then-at-self _ c =
    let d = c.args.self.now in
    let p = c.requires in
    let a = c.args in
    let w = opened_fits d in
    let u = c.used_windows_in-to in
    ((cc), window_here d.sys.now.y d.vol.now w d.allocation d.reads a.base p.1.1.1 a.e p.0 a.n u.result p.1.0 u.ensures (omega arith))

pub next_cluster-cluster-requires : goal.next_cluster-cluster-requires
next_cluster-cluster-requires _ c =
    let d = c.args.self.now in
    let p = c.requires in
    let a = c.args in
    let w = opened_fits d in
    let i = cursor_in d.sys.now.y d.vol.now w d.allocation d.reads a.base p.1.1.1 a.e p.0 in
    (omega arith, i.1.0)

pub returns : goal.returns
returns _ c =
    let d = c.args.self.now in
    let p = c.requires in
    let a = c.args in
    let w = opened_fits d in
    let u = c.used_windows_in-to in
    ((cc), window_over d.sys.now.y d.vol.now w d.allocation d.reads a.base p.1.1.1 a.e p.0 a.n u.result p.1.0 u.ensures _ c.next_cluster-cluster.ensures (omega arith))
