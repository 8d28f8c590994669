use Prim.Native.Nat.{ℕ, ◌+◌, ◌≤◌}
use mathlib.Core.Path.{◌∙◌, ap}
use native.Mathlib.Omega.{arith}
use lib.ListN.{length, take, drop, length-drop}
use Rattle.std.proofs.lemmas.List.{length-take-le}
use Rattle.boot.specs.Layout.{cluster_at}
use Rattle.primitives.specs.Splice.{splice}
use Rattle.stream.specs.declared.bytes.Piece.{Piece}
use Rattle.primitives.proofs.SpliceLaws.{put_mid-splice, length-splice}
use Rattle.boot.proofs.Apart.{in_heap_lem}
use Rattle.stream.specs.Internal.{piece_length}
use Rattle.stream.proofs.BytesSteps.{sought}
use Rattle.stream.proofs.ByteWalkLaws.{length-part, length-whole_part, piece_whole, some_piece, in_first, piece_in, reading_start, reading_turn, reading_end}
use Rattle.stream.proofs.bytes.read.Goals as goal

pub loop-piece-init : goal.loop-piece-init
loop-piece-init _ c =
    let p = c.requires in
    let a = c.args in
    let s = sought _ _ _ _ _ a.at (length a.dst.now) a.sys.now.laid p.0 p.1.0 p.1.1.0 in
    reading_start a.sys.now.y a.vol.now a.sys.now.laid p.0 a.a a.at a.dst.now _ s c.new-walk.ensures

pub next-requires : goal.next-requires
next-requires _ c =
    let p = c.requires in
    let i = c.loop-piece.invariant in
    (omega arith, (p.0, λ h. (i.stands.low, (in_heap_lem _ _ (in_first _ _ c.args.sys.now.laid p.0 _ i.stands h)).1)))

pub overflow_add-to : goal.overflow_add-to
overflow_add-to _ c = let e = c.in-Some.ensures in rw e.1.0 (omega (arith, e.0, piece_whole c.args.sys.now.y c.loop-piece.walk, c.loop-piece.invariant.fits))

pub slice_bounds-to-end : goal.slice_bounds-to-end
slice_bounds-to-end _ c = let e = c.in-Some.ensures in rw e.1.0 (omega (arith, e.0, piece_whole c.args.sys.now.y c.loop-piece.walk, c.loop-piece.invariant.fits))

pub get_piece-requires : goal.get_piece-requires
get_piece-requires _ c =
    let p = c.requires in
    let y = c.args.sys.now.y in
    let l = c.loop-piece in
    let i = l.invariant in
    let e = c.in-Some.ensures in
    let h = in_heap_lem _ _ (in_first _ _ c.args.sys.now.laid p.0 _ i.stands e.0) in
    rw e.1.0 (omega arith, (p.0, (h.0, (h.1, omega (arith, length-part l.dst l.walk.from (piece_length y l.walk), piece_in _ _ c.args.sys.now.laid p.0 _ i.stands e.0)))))

pub loop-piece-smaller : goal.loop-piece-smaller
loop-piece-smaller _ c =
    let l = c.loop-piece in
    let e = c.in-Some.ensures in
    rw e.1.1 (omega (arith, some_piece c.args.sys.now.y c.args.vol.now l.walk l.invariant.stands e.0))

pub loop-piece-preserved : goal.loop-piece-preserved
loop-piece-preserved _ c =
    let a = c.args in
    let y = a.sys.now.y in
    let l = c.loop-piece in
    let e = c.in-Some.ensures in
    let p = c.in-Some.piece in
    let bs = drop (cluster_at y p.cluster + p.at) a.vol.now in
    let whole : p.from + p.len ≤ length l.dst = rw e.1.0 (omega (arith, e.0, piece_whole y l.walk, l.invariant.fits)) in
    let inside : cluster_at y p.cluster + p.at + p.len ≤ y.len = rw e.1.0 (piece_in _ _ a.sys.now.laid c.requires.0 _ l.invariant.stands e.0) in
    let full = length-take-le p.len bs (omega (arith, length-drop (cluster_at y p.cluster + p.at) a.vol.now)) in
    let filled = c.get_piece.ensures ∙ ap (λ (n : ℕ). take n bs) (length-whole_part l.dst p.from p.len whole) in
    let m = put_mid-splice l.dst p.from (p.from + p.len) p.len c.get_piece.new.dst (take p.len bs) (omega arith) full filled in
    let same = ap (length {A = ℕ}) m ∙ length-splice l.dst p.from (take p.len bs) (omega (arith, full)) in
    reading_turn y a.vol.now a.sys.now.laid c.requires.0 l.dst l.walk _ l.invariant e.0 _ c.next.new.self same (m ∙ ap (λ (x : Piece). splice l.dst x.from (take x.len (drop (cluster_at y x.cluster + x.at) a.vol.now))) e.1.0) e.1.1

pub returns : goal.returns
returns _ c = reading_end _ _ c.args.sys.now.laid c.requires.0 _ _ _ c.loop-piece.invariant c.in_default.ensures.0
