use Prim.Native.Nat.{ℕ, ◌+◌, ◌-◌, ◌*◌, ◌/◌, ◌≤◌, ◌<◌}
use mathlib.Core.Path.{◌≡◌, sym, ◌∙◌, ap}
use native.Mathlib.Nat.{div-lt_iff_lt-mul}
use native.Mathlib.Omega.{arith}
use lib.ListN.{length, replicate, length-replicate}
use Rattle.boot.proofs.Apart.{in_heap_lem}
use Rattle.metadata.specs.Fat.{fat_entry}
use Rattle.metadata.specs.Cluster.{put_bytes}
use Rattle.metadata.proofs.Frame.{fits}
use Rattle.stream.specs.declared.allocation.Allocation.{Allocation}
use Rattle.stream.specs.declared.bytes.ByteWalk.{ByteWalk}
use Rattle.stream.specs.Internal.{byte_walk, piece_length}
use Rattle.stream.proofs.BytesSteps.{sought, reach_run, run_end}
use Rattle.stream.proofs.ByteWalkLaws.{zeros_part, length-piece, some_piece, in_first, piece_in, storing_start, storing_turn, storing_end, reaching_start, reaching_turn}
use Rattle.stream.proofs.bytes.fill.Goals as goal

pub loop-piece-init : goal.loop-piece-init
loop-piece-init _ c =
    let p = c.requires in
    let a = c.args in
    let e = c.new-walk.ensures in
    let q = length-replicate {A = ℕ} a.n 0 in
    let s = sought _ _ _ _ _ a.at (length (replicate a.n 0)) a.sys.now.laid p.0 p.1.0 (omega (arith, p.1.1.0, q)) in
    record {
      storing = storing_start a.sys.now.y a.vol.now a.a a.at (replicate a.n 0) _ s p.0 (e ∙ ap (byte_walk a.sys.now.y a.vol.now a.a a.at) (sym q));
      same_run = ap (λ (x : ByteWalk). x.run) e;
      reaching = λ r. reaching_start a.sys.now.y a.vol.now a.a a.at a.n _ _ (omega (arith, a.sys.now.laid.size_low)) p.1.1.1.1 e;
    }

pub next-requires : goal.next-requires
next-requires _ c =
    let p = c.requires in
    let i = c.loop-piece.invariant.storing in
    (omega arith, (i.long, λ h. (i.stands.low, (in_heap_lem _ _ (in_first _ _ c.args.sys.now.laid i.long _ i.stands h)).1)))

pub put_zeros-requires : goal.put_zeros-requires
put_zeros-requires _ c =
    let p = c.requires in
    let i = c.loop-piece.invariant.storing in
    let e = c.in-Some.ensures in
    let h = in_heap_lem _ _ (in_first _ _ c.args.sys.now.laid i.long _ i.stands e.0) in
    rw e.1.0 (omega arith, (i.long, (h.0, (h.1, omega (arith, piece_in _ _ c.args.sys.now.laid i.long _ i.stands e.0)))))

pub loop-piece-smaller : goal.loop-piece-smaller
loop-piece-smaller _ c =
    let l = c.loop-piece in
    let e = c.in-Some.ensures in
    rw e.1.1 (omega (arith, some_piece c.args.sys.now.y l.vol l.walk l.invariant.storing.stands e.0))

pub loop-piece-preserved : goal.loop-piece-preserved
loop-piece-preserved _ c =
    let p = c.requires in
    let a = c.args in
    let l = c.loop-piece in
    let i = l.invariant in
    let e = c.in-Some.ensures in
    let z = c.put_zeros in
    let w = fits a.sys.now l.vol i.storing.long in
    let n = piece_length a.sys.now.y l.walk in
    let stored : z.new.vol ≡ put_bytes a.sys.now.y l.vol l.walk.cluster l.walk.at (replicate n 0) = rw e.1.0 at z.ensures in
    let q = length-replicate {A = ℕ} a.n 0 in
    let part = zeros_part n l.walk.from a.n (omega (arith, length-piece a.sys.now.y l.walk, i.storing.whole)) in
    record {
      storing = storing_turn a.sys.now.y l.vol w l.walk (replicate a.n 0) _ i.storing e.0 z.new.vol c.next.new.self z.auto.vol
          (stored ∙ ap (put_bytes a.sys.now.y l.vol l.walk.cluster l.walk.at) (sym part)) e.1.1;
      same_run = ap (λ (x : ByteWalk). x.run) e.1.1 ∙ i.same_run;
      reaching = λ r. rw e.1.0
          (reaching_turn a.sys.now.y l.vol w l.walk i.storing.stands l.last _ (i.same_run ∙ r) (i.reaching r) e.0 z.new.vol (replicate n 0) c.next.new.self
          (length-replicate {A = ℕ} n 0) stored e.1.1);
    }

-- the last byte's cluster is one of the stream's
last_step : (a : Allocation) (s at n : ℕ) → 1 ≤ s → 1 ≤ n → at + n ≤ a.count * s → (at + n - 1) / s < a.count
last_step a s at n low some h = (div-lt_iff_lt-mul {k = s} {x = at + n - 1} {y = a.count} (omega arith)).1 (omega arith)

pub overflow_add-last : goal.overflow_add-last
overflow_add-last _ c =
    let p = c.requires in
    let a = c.args in
    let t = last_step a.a a.sys.now.y.size a.at a.n (omega (arith, a.sys.now.laid.size_low)) p.1.1.1.1 p.1.1.0 in
    let b = run_end _ _ _ _ _ c.if-a.true p.1.0 (omega arith) in
    omega (arith, a.sys.now.laid.count_high)

pub returns-then-a : goal.returns-then-a
returns-then-a _ c =
    let i = c.loop-piece.invariant.storing in
    let e = reach_run (fat_entry c.args.sys.now.y c.args.vol.now) c.args.a.no_fat_chain c.args.a.first ((c.args.at + c.args.n - 1) / c.args.sys.now.y.size) c.if-a.true in
    (storing_end _ _ _ _ _ i c.in_default.ensures.0, cc)

pub returns-else-a : goal.returns-else-a
returns-else-a _ c =
    let i = c.loop-piece.invariant in
    let e = (i.reaching c.if-a.false).there c.in_default.ensures.0 in
    (storing_end _ _ _ _ _ i.storing c.in_default.ensures.0, cc)
