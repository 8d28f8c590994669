use Prim.Native.Nat.{ℕ, suc, ◌+◌, ◌-◌, ◌*◌, ◌/◌, ◌%◌, ◌≤◌, ◌<◌}
use mathlib.Core.Path.{◌≡◌, sym, ◌∙◌, ap, subst}
use native.Mathlib.Nat.{suc-mul, mul-le-mul_right, div-add-mod', mod-lt}
use native.Mathlib.Omega.{arith}
use Rattle.boot.proofs.Apart.{in_heap_lem}
use Rattle.std.specs.Prelude.{Some}
use Rattle.stream.specs.Bytes.{cluster_bytes}
use Rattle.directory.specs.Entries.{before_end}
use Rattle.directory.proofs.OpenedLaws.{opened_fits}
use Rattle.directory.proofs.CursorLaws.{Counted, counted_first, counted_next, counted_heap, counted_place}
use Rattle.directory.proofs.EndLaws.{Ahead, ahead_first, ahead_end, ahead_next, ahead_not, slot_ends, slot_stands}
use Rattle.directory.proofs.entries.OpenDirectory+1+WIDE.slot_entry.Goals as goal

-- a cluster's entries less to go
turn : (slot per i : ℕ) → i < slot / per → (per ≤ slot - i * per) × (slot - i * per - per ≡ slot - (i + 1) * per)
turn slot per i h =
    let d = div-add-mod' slot per in
    let m = mul-le-mul_right {m = suc i} {n = slot / per} per h in
    let s = suc-mul i per in
    let e : (i + 1) * per ≡ suc i * per = ap (λ (x : ℕ). x * per) (omega arith) in
    (omega arith, omega arith)

-- those of the last one
last : (slot per i : ℕ) → 1 ≤ per → i ≤ slot / per → slot / per ≤ i → (slot - i * per ≡ slot % per) × (slot % per < per)
last slot per i l a b =
    let e : i ≡ slot / per = omega arith in
    let d = div-add-mod' slot per in
    (ap (λ (x : ℕ). slot - x * per) e ∙ (omega arith), mod-lt slot {m = per} l)

pub loop-init : goal.loop-init
loop-init _ c =
    let d = c.args.self.now in
    let a = c.args in
    let w = opened_fits d in
    let z : a.slot ≡ a.slot - 0 * (d.sys.now.y.size / 32) = omega arith in
    subst (λ (x : ℕ). Ahead d.sys.now.y d.vol.now d.allocation a.slot d.allocation.first x × Counted d.sys.now.y d.vol.now d.allocation a.slot d.allocation.first x) z
    (ahead_first d.sys.now.y d.vol.now w d.allocation a.slot d.reads (omega arith), counted_first d.sys.now.y d.vol.now w d.allocation d.reads a.slot)

pub none_ends_in-requires : goal.none_ends_in-requires
none_ends_in-requires _ c =
    let d = c.args.self.now in
    let p = c.requires in
    let a = c.args in
    let w = opened_fits d in
    let l = c.loop in
    let h = in_heap_lem _ _ (counted_heap d.sys.now.y d.vol.now w d.allocation d.reads a.slot l.k _ l.invariant.1 p) in
    (omega arith, (h.0, (h.1, omega (arith, d.sys.now.laid.whole))))

pub next_cluster-k-requires : goal.next_cluster-k-requires
next_cluster-k-requires _ c =
    let d = c.args.self.now in
    let p = c.requires in
    let a = c.args in
    let w = opened_fits d in
    let l = c.loop in
    let h = in_heap_lem _ _ (counted_heap d.sys.now.y d.vol.now w d.allocation d.reads a.slot l.k _ l.invariant.1 p) in
    (omega arith, h.1)

pub loop-preserved : goal.loop-preserved
loop-preserved _ c =
    let d = c.args.self.now in
    let a = c.args in
    let w = opened_fits d in
    let l = c.loop in
    let t = turn a.slot (d.sys.now.y.size / 32) l.counter (omega arith) in
    rw (sym t.1) (ahead_next d.sys.now.y d.vol.now w d.allocation a.slot l.k _ l.invariant.0 (omega (arith, d.sys.now.laid.size_low, t.0)) t.0 _ c.next_cluster-k.ensures (cc), rw c.next_cluster-k.ensures (counted_next d.sys.now.y d.vol.now w d.allocation d.reads a.slot l.k _ l.invariant.1 t.0))

pub returns-then-not-none_ends_in : goal.returns-then-not-none_ends_in
returns-then-not-none_ends_in _ c =
    let d = c.args.self.now in
    let a = c.args in
    let w = opened_fits d in
    let l = c.loop in
    let t = turn a.slot (d.sys.now.y.size / 32) l.counter (omega arith) in
    slot_ends _ _ _ _ (ahead_not d.sys.now.y d.vol.now w d.allocation a.slot l.k _ l.invariant.0 (omega (arith, d.sys.now.laid.size_low, t.0)) t.0 (cc))

pub none_ends_in-requires-2 : goal.none_ends_in-requires-2
none_ends_in-requires-2 _ c =
    let d = c.args.self.now in
    let p = c.requires in
    let a = c.args in
    let w = opened_fits d in
    let l = c.loop in
    let h = in_heap_lem _ _ (counted_heap d.sys.now.y d.vol.now w d.allocation d.reads a.slot l.k _ l.invariant.1 p) in
    let s = d.sys.now.laid.size_low in
    let m = mod-lt a.slot {m = d.sys.now.y.size / 32} (omega arith) in
    (omega arith, (h.0, (h.1, omega (arith, d.sys.now.laid.whole))))

pub returns-then-not-none_ends_in-2 : goal.returns-then-not-none_ends_in-2
returns-then-not-none_ends_in-2 _ c =
    let d = c.args.self.now in
    let a = c.args in
    let w = opened_fits d in
    let l = c.loop in
    let m = last a.slot (d.sys.now.y.size / 32) l.counter (omega (arith, d.sys.now.laid.size_low)) l.auto.counter-end c.loop-test.false in
    let h = ahead_end d.sys.now.y d.vol.now w d.allocation a.slot l.k _ l.invariant.0 (omega (arith, m.0, m.1)) in
    slot_ends d.sys.now.y d.vol.now d.allocation a.slot (sym h ∙ ap (before_end (cluster_bytes d.sys.now.y d.vol.now l.k)) m.0 ∙ (cc))

pub returns : goal.returns
returns _ c =
    let d = c.args.self.now in
    let a = c.args in
    let w = opened_fits d in
    let l = c.loop in
    let m = last a.slot (d.sys.now.y.size / 32) l.counter (omega (arith, d.sys.now.laid.size_low)) l.auto.counter-end c.loop-test.false in
    let h = ahead_end d.sys.now.y d.vol.now w d.allocation a.slot l.k _ l.invariant.0 (omega (arith, m.0, m.1)) in
    ap (λ (x : ℕ). Some (record { cluster = l.k; at = 32 * x })) (sym m.0)
    ∙ ap Some (counted_place d.sys.now.y d.vol.now w d.allocation d.reads a.slot l.k _ l.invariant.1 (omega (arith, m.0, m.1)))
    ∙ slot_stands d.sys.now.y d.vol.now d.allocation a.slot (sym h ∙ ap (before_end (cluster_bytes d.sys.now.y d.vol.now l.k)) m.0 ∙ (cc))
