use mathlib.Core.Path.{◌∙◌, ap}
use native.Mathlib.Omega.{arith}
use lib.ListN.{length}
use Rattle.boot.proofs.Apart.{in_heap_lem}
use Rattle.metadata.proofs.Frame.{fits}
use Rattle.metadata.specs.Cluster.{put_bytes}
use Rattle.stream.specs.Internal.{piece_length}
use Rattle.stream.proofs.BytesSteps.{sought}
use Rattle.stream.proofs.ByteWalkLaws.{part_is, length-part, piece_whole, some_piece, in_first, piece_in, storing_start, storing_turn, storing_end}
use Rattle.stream.proofs.bytes.store.Goals as goal

pub loop-piece-init : goal.loop-piece-init
loop-piece-init _ c =
    let p = c.requires in
    let a = c.args in
    let s = sought _ _ _ _ _ a.at (length a.src.now) a.sys.now.laid p.0 p.1.0 p.1.1.0 in
    storing_start a.sys.now.y a.vol.now a.a a.at a.src.now _ s p.0 c.new-walk.ensures

pub next-requires : goal.next-requires
next-requires _ c =
    let p = c.requires in
    let i = c.loop-piece.invariant in
    (omega arith, (i.long, λ h. (i.stands.low, (in_heap_lem _ _ (in_first _ _ c.args.sys.now.laid i.long _ i.stands h)).1)))

pub overflow_add-bytes : goal.overflow_add-bytes
overflow_add-bytes _ c = let e = c.in-Some.ensures in rw e.1.0 (omega (arith, e.0, piece_whole c.args.sys.now.y c.loop-piece.walk, c.loop-piece.invariant.whole))

pub slice_bounds-bytes-end : goal.slice_bounds-bytes-end
slice_bounds-bytes-end _ c = let e = c.in-Some.ensures in rw e.1.0 (omega (arith, e.0, piece_whole c.args.sys.now.y c.loop-piece.walk, c.loop-piece.invariant.whole))

pub put_piece-requires : goal.put_piece-requires
put_piece-requires _ c =
    let y = c.args.sys.now.y in
    let l = c.loop-piece in
    let i = l.invariant in
    let e = c.in-Some.ensures in
    let h = in_heap_lem _ _ (in_first _ _ c.args.sys.now.laid i.long _ i.stands e.0) in
    rw e.1.0 (omega arith, (i.long, (h.0, (h.1, omega (arith, length-part c.args.src.now l.walk.from (piece_length y l.walk), piece_in _ _ c.args.sys.now.laid i.long _ i.stands e.0)))))

pub loop-piece-smaller : goal.loop-piece-smaller
loop-piece-smaller _ c =
    let l = c.loop-piece in
    let e = c.in-Some.ensures in
    rw e.1.1 (omega (arith, some_piece c.args.sys.now.y l.vol l.walk l.invariant.stands e.0))

pub loop-piece-preserved : goal.loop-piece-preserved
loop-piece-preserved _ c =
    let a = c.args in
    let l = c.loop-piece in
    let e = c.in-Some.ensures in
    let p = c.in-Some.piece in
    let w = fits a.sys.now l.vol l.invariant.long in
    let stored = c.put_piece.ensures ∙ ap (put_bytes a.sys.now.y l.vol p.cluster p.at) (part_is a.src.now p.from p.len) in
    storing_turn a.sys.now.y l.vol w l.walk a.src.now _ l.invariant e.0 c.put_piece.new.vol c.next.new.self c.put_piece.auto.vol (rw e.1.0 at stored) e.1.1

pub returns : goal.returns
returns _ c = storing_end _ _ _ _ _ c.loop-piece.invariant c.in_default.ensures.0
