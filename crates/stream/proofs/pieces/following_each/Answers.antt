use mathlib.Core.Path.{◌≡◌, sym, ◌∙◌}
use Prim.Native.Nat.{◌+◌, ◌-◌}
use native.Mathlib.Omega.{arith}
use borrow.Author.Rules.{rules}
use Rattle.boot.specs.Layout.{in_heap}
use Rattle.boot.proofs.Apart.{in_heap_lem}
use Rattle.metadata.specs.Fat.{fat_entry}
use Rattle.stream.proofs.StreamLaws.{along_head}
use Rattle.stream.proofs.PieceSteps.{following-none, following_other, rest_next, heap_rest}
use Rattle.stream.proofs.pieces.following_each.Goals as goal

pub overflow_add-last : goal.overflow_add-last
overflow_add-last _ c =
    let h = in_heap_lem _ _ (along_head _ _ _ _ _ (omega arith) c.loop-i.invariant.0) in
    search rules

pub fat_entry-requires : goal.fat_entry-requires
fat_entry-requires _ c =
    let h = in_heap_lem _ _ (along_head _ _ _ _ _ (omega arith) c.loop-i.invariant.0) in
    search rules

pub overflow_add-last-in-loop-i : goal.overflow_add-last-in-loop-i
overflow_add-last-in-loop-i _ c =
    let h = in_heap_lem _ _ (along_head _ _ _ _ _ (omega arith) c.loop-i.invariant.0) in
    search rules

pub returns-then-fat_entry-last : goal.returns-then-fat_entry-last
returns-then-fat_entry-last _ c =
    let l = c.loop-i in
    let a = c.args in
    let f = following_other (fat_entry a.sys.now.y a.vol.now) (a.k + l.i) (a.n - l.i) (omega arith) (λ z. omega (arith, z, c.fat_entry.ensures)) in
    (omega (arith, f, l.invariant.1), omega arith)

pub loop-i-preserved : goal.loop-i-preserved
loop-i-preserved _ c =
    let l = c.loop-i in
    let a = c.args in
    let fat = fat_entry a.sys.now.y a.vol.now in
    let e : fat (a.k + l.i) ≡ a.k + l.i + 1 = sym c.fat_entry.ensures ∙ (omega arith) in
    (heap_rest fat a.k a.n (in_heap a.sys.now.y.count) l.i (omega arith) e l.invariant.0, omega (arith, rest_next fat a.k a.n l.i (omega arith) e, l.invariant.1))

pub returns : goal.returns
returns _ c =
    let l = c.loop-i in
    let a = c.args in
    (omega (arith, following-none (fat_entry a.sys.now.y a.vol.now) (a.k + l.i) (a.n - l.i) (omega arith), l.invariant.1), omega arith)
