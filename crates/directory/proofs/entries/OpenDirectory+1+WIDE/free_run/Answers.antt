use Prim.Native.Nat.{ℕ, ◌+◌, ◌-◌, ◌*◌, ◌/◌}
use mathlib.Core.Bool.{not}
use mathlib.Core.Path.{◌≡◌, refl, sym, ◌∙◌, ap}
use native.Mathlib.Nat.{div-le_self}
use native.Mathlib.Omega.{arith}
use lib.ListN.{length}
use Rattle.entry_set.specs.Fields.{clusters_for}
use Rattle.search.specs.Search.{all_from}
use Rattle.directory.specs.Entries.{entry_count, in_use}
use Rattle.directory.specs.Internal.{bytes}
use Rattle.directory.proofs.OpenedLaws.{opened_fits}
use Rattle.directory.proofs.CursorLaws.{entry_first, length-entries, entries_is}
use Rattle.directory.proofs.RoomLaws.{window_in, window_rest, window_whole, window_passed, room_here, room_past}
use Rattle.directory.proofs.WindowLaws.{slot_in, slot_passed}
use Rattle.directory.proofs.entries.OpenDirectory+1+WIDE.free_run.Goals as goal

pub loop-base-init : goal.loop-base-init
loop-base-init _ c = (omega arith, (entry_first _ _ _ _, refl))

pub overflow_sub-total-in-loop-base : goal.overflow_sub-total-in-loop-base
overflow_sub-total-in-loop-base _ c =
    let d = c.args.self.now in
    let p = c.requires in
    let a = c.args in
    let w = opened_fits d in
    let l = c.loop-base in
    let m = c.entry_count-total in
    let g = c.pass_used-p in
    let i = slot_in d.sys.now.y d.vol.now w d.allocation d.reads l.base (omega (arith, m.ensures.0)) l.e l.invariant.1.0 a.need g.result.slot p.0 g.ensures.0 in
    omega (arith, m.ensures.0)

pub loop-base-preserved-then-total-p : goal.loop-base-preserved-then-total-p
loop-base-preserved-then-total-p _ c =
    let d = c.args.self.now in
    let p = c.requires in
    let a = c.args in
    let w = opened_fits d in
    let l = c.loop-base in
    let m = c.entry_count-total in
    let g = c.pass_used-p in
    let i = slot_in d.sys.now.y d.vol.now w d.allocation d.reads l.base (omega (arith, m.ensures.0)) l.e l.invariant.1.0 a.need g.result.slot p.0 g.ensures.0 in
    (omega (arith, m.ensures.0), (g.ensures.1, slot_passed d.sys.now.y d.vol.now w d.allocation d.reads l.base (omega (arith, m.ensures.0)) l.e l.invariant.1.0 a.need g.result.slot p.0 g.ensures.0 l.invariant.1.1))

pub returns-then-t-p : goal.returns-then-t-p
returns-then-t-p _ c =
    let d = c.args.self.now in
    let p = c.requires in
    let a = c.args in
    let w = opened_fits d in
    let l = c.loop-base in
    let m = c.entry_count-total in
    let g = c.pass_used-p in
    let t = c.past_used-t in
    let i = slot_in d.sys.now.y d.vol.now w d.allocation d.reads l.base (omega (arith, m.ensures.0)) l.e l.invariant.1.0 a.need g.result.slot p.0 g.ensures.0 in
    let n : length (bytes d) ≡ 32 * entry_count (bytes d) = omega (arith, length-entries d.sys.now.y d.vol.now w d.allocation d.reads, entries_is d.sys.now.y d.vol.now w d.allocation d.reads) in
    room_here d.sys.now.y.size (d.sys.now.y.size / 32) d.sys.now.laid.whole (omega (arith, d.sys.now.laid.size_low)) (bytes d) a.need n g.result.slot i.1 (slot_passed d.sys.now.y d.vol.now w d.allocation d.reads l.base (omega (arith, m.ensures.0)) l.e l.invariant.1.0 a.need g.result.slot p.0 g.ensures.0 l.invariant.1.1) (omega (arith, m.ensures.0))
    (window_whole (bytes d) g.result.slot a.need t.result.slot t.ensures.0 (omega arith))

pub loop-base-smaller : goal.loop-base-smaller
loop-base-smaller _ c =
    let d = c.args.self.now in
    let p = c.requires in
    let a = c.args in
    let w = opened_fits d in
    let l = c.loop-base in
    let m = c.entry_count-total in
    let g = c.pass_used-p in
    let t = c.past_used-t in
    let i = slot_in d.sys.now.y d.vol.now w d.allocation d.reads l.base (omega (arith, m.ensures.0)) l.e l.invariant.1.0 a.need g.result.slot p.0 g.ensures.0 in
    let j = window_in (bytes d) g.result.slot a.need t.result.slot t.ensures.0 in
    omega (arith, m.ensures.0)

pub loop-base-preserved : goal.loop-base-preserved
loop-base-preserved _ c =
    let d = c.args.self.now in
    let p = c.requires in
    let a = c.args in
    let w = opened_fits d in
    let l = c.loop-base in
    let m = c.entry_count-total in
    let g = c.pass_used-p in
    let t = c.past_used-t in
    let i = slot_in d.sys.now.y d.vol.now w d.allocation d.reads l.base (omega (arith, m.ensures.0)) l.e l.invariant.1.0 a.need g.result.slot p.0 g.ensures.0 in
    let j = window_in (bytes d) g.result.slot a.need t.result.slot t.ensures.0 in
    (omega (arith, m.ensures.0), (t.ensures.1, window_passed (bytes d) g.result.slot a.need t.result.slot t.ensures.0 a.need (omega arith) (slot_passed d.sys.now.y d.vol.now w d.allocation d.reads l.base (omega (arith, m.ensures.0)) l.e l.invariant.1.0 a.need g.result.slot p.0 g.ensures.0 l.invariant.1.1)))

pub overflow_add-t : goal.overflow_add-t
overflow_add-t _ c =
    let d = c.args.self.now in
    let l = c.loop-base in
    let t = c.last_used-t in
    let m = c.entry_count-total in
    let i = window_in (bytes d) l.base (m.result - l.base) t.result.slot t.ensures.0 in
    omega arith

pub overflow_sub-t : goal.overflow_sub-t
overflow_sub-t _ c =
    let d = c.args.self.now in
    let l = c.loop-base in
    let t = c.last_used-t in
    let m = c.entry_count-total in
    let i = window_in (bytes d) l.base (m.result - l.base) t.result.slot t.ensures.0 in
    omega arith

pub overflow_cast-result : goal.overflow_cast-result
unfolding clusters_for
overflow_cast-result _ c =
    let d = c.args.self.now in
    let a = c.args in
    let l = c.loop-base in
    let t = c.last_used-t in
    let m = c.entry_count-total in
    let i = window_in (bytes d) l.base (m.result - l.base) t.result.slot t.ensures.0 in
    let q = div-le_self (32 * (t.result.slot + a.need - m.result) + (d.sys.now.y.size - 1)) d.sys.now.y.size in
    omega (arith, c.clusters_for.ensures)

pub returns : goal.returns
returns _ c =
    let d = c.args.self.now in
    let a = c.args in
    let w = opened_fits d in
    let l = c.loop-base in
    let t = c.last_used-t in
    let m = c.entry_count-total in
    let i = window_in (bytes d) l.base (m.result - l.base) t.result.slot t.ensures.0 in
    let z : l.base + (m.result - l.base) ≡ entry_count (bytes d) = omega (arith, m.ensures.0) in
    let n : length (bytes d) ≡ 32 * entry_count (bytes d) = omega (arith, length-entries d.sys.now.y d.vol.now w d.allocation d.reads, entries_is d.sys.now.y d.vol.now w d.allocation d.reads) in
    let k : c.clusters_for.result ≡ clusters_for d.sys.now.y.size (32 * (t.result.slot + a.need - entry_count (bytes d))) =
    c.clusters_for.ensures ∙ ap (λ (x : ℕ). clusters_for d.sys.now.y.size (32 * x)) c.from-missing.ensures
    ∙ ap (λ (x : ℕ). clusters_for d.sys.now.y.size (32 * (t.result.slot + a.need - x))) m.ensures.0 in
    ap (λ (x : ℕ). record { slot = t.result.slot; clusters = x }) k
    ∙ room_past d.sys.now.y.size (d.sys.now.y.size / 32) d.sys.now.laid.whole (omega (arith, d.sys.now.laid.size_low)) (bytes d) a.need n t.result.slot (omega arith)
    (window_passed (bytes d) l.base (m.result - l.base) t.result.slot t.ensures.0 a.need (omega arith) l.invariant.1.1)
    (ap (λ (k : ℕ). all_from (λ i. not (in_use (bytes d) i)) t.result.slot (k - t.result.slot)) (sym z) ∙ window_rest (bytes d) l.base (m.result - l.base) t.result.slot t.ensures.0)
