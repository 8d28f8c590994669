use mathlib.Core.Bool.{Bool}
use mathlib.Core.Path.{◌≡◌, sym, ◌∙◌, ap}
use Prim.Native.Nat.{◌+◌, ◌-◌}
use native.Mathlib.Omega.{arith}
use borrow.Author.Rules.{rules}
use Rattle.boot.proofs.Apart.{in_heap_lem}
use Rattle.metadata.specs.Fat.{fat_entry}
use Rattle.stream.specs.Internal.{along}
use Rattle.stream.proofs.StreamLaws.{after-chain, along_head, along_rest, consec-along}
use Rattle.stream.proofs.BytesSteps.{run_end}
use Rattle.stream.specs.Stream.{system_cause}
use Rattle.stream.proofs.SystemLaws.{system-none, system_hit, system-step}
use Rattle.stream.proofs.system.system_cause.Goals as goal

pub run_system_cause-requires : goal.run_system_cause-requires
run_system_cause-requires _ c =
    let p = c.requires in
    let h = in_heap_lem _ _ (along_head _ _ _ _ _ (omega arith) p.1.0) in
    let e = run_end _ _ _ _ _ c.if-run.true p.1.0 (omega arith) in
    let l = c.args.sys.now.laid.count_high in
    (omega arith, (omega arith, omega arith))

pub returns-then-run : goal.returns-then-run
returns-then-run _ c =
    let a = c.args in
    let f = fat_entry a.sys.now.y a.vol.now in
    c.run_system_cause.ensures
    ∙ ap (system_cause a.sys.now.map.now) (consec-along f a.first a.n ∙ ap (λ (b : Bool). along f b a.first a.n) (sym c.if-run.true))

pub in_map-requires : goal.in_map-requires
in_map-requires _ c =
    let h = in_heap_lem _ _ (along_head _ _ _ _ _ (omega arith) c.loop.invariant.0) in
    (omega arith, omega arith)

pub returns-then-in_map : goal.returns-then-in_map
returns-then-in_map _ c = sym (system_hit _ _ _ _ _ (omega arith) (cc)) ∙ c.loop.invariant.1

pub fat_entry-k-requires : goal.fat_entry-k-requires
fat_entry-k-requires _ c =
    let h = in_heap_lem _ _ (along_head _ _ _ _ _ (omega arith) c.loop.invariant.0) in
    search rules

pub loop-preserved : goal.loop-preserved
loop-preserved _ c =
    let a = c.args in
    let l = c.loop in
    let e = c.fat_entry-k.ensures ∙ sym (after-chain (fat_entry a.sys.now.y a.vol.now) a.run l.k c.if-run.false) in
    let z : a.n - (l.counter + 1) ≡ a.n - l.counter - 1 = omega arith in
    rw (e, z) (along_rest _ _ _ _ _ (omega arith) l.invariant.0, sym (system-step _ _ _ _ _ (omega arith) (cc)) ∙ l.invariant.1)

pub returns : goal.returns
returns _ c = sym (system-none _ _ _ _ _ (omega arith)) ∙ c.loop.invariant.1
