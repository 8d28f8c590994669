use mathlib.Core.List.{List, ◌++◌}
use mathlib.Core.Path.{◌≡◌, refl, sym, ◌∙◌, ap}
use Prim.Native.Nat.{ℕ, ◌+◌, ◌-◌}
use native.Mathlib.Omega.{arith}
use borrow.Author.Rules.{rules}
use lib.ListN.{take, drop, take-append-drop}
use lib.Seq.{take_all, length-take-le}
use Rattle.primitives.specs.Splice.{splice}
use Rattle.primitives.proofs.SpliceLaws.{splice-nil}
use Rattle.boot.specs.Layout.{in_heap}
use Rattle.boot.proofs.Apart.{in_heap_lem}
use Rattle.metadata.specs.Fat.{fat_entry}
use Rattle.stream.specs.Internal.{along}
use Rattle.stream.proofs.BytesLaws.{splice_left}
use Rattle.stream.proofs.StreamLaws.{along-step, along_head, along_rest, drop_turn, list_turn, length-along}
use Rattle.stream.proofs.list.write_clusters.Goals as goal

pub loop-place-init : goal.loop-place-init
loop-place-init _ c =
    let n = c.args.a.count in
    let z : n - 0 ≡ n = omega arith in
    rw z (sym (splice-nil _ _), (refl, c.requires.1.1))

pub next_cluster-k-requires : goal.next_cluster-k-requires
next_cluster-k-requires _ c =
    let a = c.args in
    let s = length-take-le a.a.count a.list.now (omega arith) in
    let h = in_heap_lem _ _ (along_head _ _ _ _ _ (omega arith) c.loop-place.invariant.1.1) in
    search rules

pub loop-place-preserved : goal.loop-place-preserved
loop-place-preserved _ c =
    let a = c.args in
    let l = c.loop-place in
    let i = l.invariant in
    let f = fat_entry a.sys.now.y a.vol.now in
    let run = a.a.no_fat_chain in
    let full = along f run a.a.first a.a.count in
    let left = a.a.count - l.place-index in
    let s = length-take-le a.a.count a.list.now (omega arith) in
    let z : a.a.count - (l.place-index + 1) ≡ left - 1 = omega arith in
    let e = i.1.0 ∙ along-step f run l.k left (omega arith) in (
      rw i.0 (list_turn full l.place-index l.k _ e (take a.a.count a.list.now) (omega (arith, length-along f run a.a.first a.a.count))),
      rw (c.next_cluster-k.ensures, z) (drop_turn full l.place-index l.k _ e, along_rest (in_heap a.sys.now.y.count) f run l.k left (omega arith) i.1.1),
    )

pub returns : goal.returns
returns _ c =
    let a = c.args in
    let l = c.loop-place in
    let full = along (fat_entry a.sys.now.y a.vol.now) a.a.no_fat_chain a.a.first a.a.count in
    let front = take a.a.count a.list.now in
    let rest = drop a.a.count a.list.now in
    let s = length-take-le a.a.count a.list.now (omega arith) in
    let n = length-along (fat_entry a.sys.now.y a.vol.now) a.a.no_fat_chain a.a.first a.a.count in
    ap (λ (x : List ℕ). x ++ rest) (l.invariant.0 ∙ ap (splice front 0) (take_all l.place-index full (omega arith)))
    ∙ sym (splice_left front rest 0 full (omega arith)) ∙ ap (λ (x : List ℕ). splice x 0 full) (take-append-drop a.a.count a.list.now)
