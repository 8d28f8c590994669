use mathlib.Core.Bool.{Bool, false}
use mathlib.Core.Path.{◌≡◌, sym, ◌∙◌, ap}
use Prim.Native.Nat.{ℕ, ◌+◌}
use native.Mathlib.Omega.{arith}
use Rattle.metadata.specs.Fat.{fat_entry}
use Rattle.stream.specs.Internal.{along}
use Rattle.stream.specs.Pieces.{leading}
use Rattle.stream.proofs.PieceSteps.{leading-chain, leading-run}
use Rattle.stream.proofs.pieces.leading.Goals as goal

pub returns-then-run : goal.returns-then-run
returns-then-run _ c = leading-run _ _ _ _ (cc)

pub returns : goal.returns
returns _ c =
    let a = c.args in
    let fat = fat_entry a.sys.now.y a.vol.now in
    let r : a.run ≡ false = c.if-run.false in
    ap (λ (i : ℕ). 1 + i) c.following.ensures.0 ∙ leading-chain fat a.k a.n (omega arith) ∙ ap (λ (b : Bool). leading (along fat b a.k a.n)) (sym r)
