use Prim.Native.Nat.{ℕ}
use mathlib.Core.Path.{sym, ◌∙◌, refl, ap}
use native.Mathlib.Omega.{arith}
use Rattle.boot.proofs.Apart.{in_heap_lem}
use Rattle.boot.specs.Layout.{in_heap}
use Rattle.write_alloc.specs.Allocate.{new_stream}
use Rattle.write_alloc.proofs.AllocateLaws.{shown_as, start_is, near_is, in_hint, in_none, in_free, in_near, in_new}
use Rattle.write_alloc.proofs.allocate.allocate_in.Goals as goal

pub returns-then-not-in_heap : goal.returns-then-not-in_heap
returns-then-not-in_heap c = shown_as (in_hint _ _ _ _ _ _ _ (cc)) (refl, refl)

pub returns-then-n-eq0 : goal.returns-then-n-eq0
returns-then-n-eq0 c = shown_as (in_none _ _ _ _ _ _ _ (cc) (omega arith)) (rw c.empty_record.ensures refl, refl)

pub new_stream-requires : goal.new_stream-requires
new_stream-requires c =
    let p = c.requires in
    let h = in_heap_lem c.args.sys.now.y.count c.unwrap_or-start.result (cc) in
    (p, (h.0, (h.1, omega arith)))

pub returns-then-in_heap : goal.returns-then-in_heap
returns-then-in_heap c =
    let a = c.args in
    let start = c.unwrap_or-start.ensures in
    let near = near_is a.sys.now.y.count a.near a.hint (cc) ∙ ap (in_heap a.sys.now.y.count) (sym start) ∙ sym c.in_heap-2.ensures ∙ c.if-in_heap.true in
    shown_as
    (in_new _ _ _ _ _ _ _ (cc) (λ z. omega arith) near ∙ ap (λ (s : ℕ). new_stream a.sys.now.y a.vol.now a.sys.now.map.now a.n s a.hint) (start_is a.near a.hint ∙ sym start))
    (c.new_stream.ensures.0 a.hint)

pub returns-then-free_count-n : goal.returns-then-free_count-n
returns-then-free_count-n c = shown_as (in_free _ _ _ _ _ _ _ (cc) (λ z. omega arith) (omega arith)) (refl, refl)

pub returns : goal.returns
returns c =
    let a = c.args in
    let near = near_is a.sys.now.y.count a.near a.hint (cc) ∙ ap (in_heap a.sys.now.y.count) (sym c.unwrap_or-start.ensures) ∙ sym c.in_heap-2.ensures ∙ c.if-in_heap.false in
    shown_as (in_near _ _ _ _ _ _ _ (cc) (λ z. omega arith) (omega arith) near) (refl, refl)
