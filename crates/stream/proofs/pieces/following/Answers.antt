use mathlib.Core.Bool.{true}
use mathlib.Core.Path.{◌≡◌, sym, ◌∙◌}
use Prim.Native.Nat.{◌+◌}
use native.Mathlib.Omega.{arith}
use borrow.Author.Rules.{rules}
use Rattle.boot.specs.Layout.{in_heap}
use Rattle.boot.proofs.Apart.{in_heap_lem}
use Rattle.metadata.specs.Fat.{fat_entry}
use Rattle.stream.specs.Internal.{four_follow}
use Rattle.stream.proofs.StreamLaws.{along_head}
use Rattle.stream.proofs.PieceSteps.{rest_four, heap_four}
use Rattle.stream.proofs.pieces.following.Goals as goal

pub overflow_add-k : goal.overflow_add-k
overflow_add-k _ c =
    let h = in_heap_lem _ _ (along_head _ _ _ _ _ (omega arith) c.loop-done.invariant.1.0) in
    search rules

pub overflow_add-k-in-loop-done : goal.overflow_add-k-in-loop-done
overflow_add-k-in-loop-done _ c =
    let h = in_heap_lem _ _ (along_head _ _ _ _ _ (omega arith) c.loop-done.invariant.1.0) in
    search rules

pub loop-done-preserved : goal.loop-done-preserved
loop-done-preserved _ c =
    let l = c.loop-done in
    let a = c.args in
    let fat = fat_entry a.sys.now.y a.vol.now in
    let e : four_follow fat (a.k + l.done) ≡ true = sym c.four_follow.ensures ∙ c.if-four_follow.true in
    (omega arith, (heap_four fat a.k a.n l.done (omega arith) e (in_heap a.sys.now.y.count) l.invariant.1.0, omega (arith, rest_four fat a.k a.n l.done (omega arith) e, l.invariant.1.1)))

pub overflow_add-k-2 : goal.overflow_add-k-2
overflow_add-k-2 _ c =
    let h = in_heap_lem _ _ (along_head _ _ _ _ _ (omega arith) c.loop-done.invariant.1.0) in
    search rules
