use mathlib.Core.Path.{◌≡◌, sym, ◌∙◌}
use native.Mathlib.Omega.{arith}
use Rattle.stream.specs.Internal.{piece_length}
use Rattle.stream.proofs.ByteWalkLaws.{length-run, length-chain}
use Rattle.stream.proofs.bytes.ByteWalk.next.Goals.{then-self-2, else-self-2}
use Rattle.stream.proofs.bytes.ByteWalk.next.Goals as goal

pub returns : goal.returns
returns _ c =
    let a = c.args in
    let s = a.self.now in
    let e : c.if-self-2.len ≡ piece_length a.sys.now.y s =
    elim c.if-self-2.branch [
      | then-self-2 w ↦ w.len-is ∙ sym (length-run a.sys.now.y s (cc))
      | else-self-2 w ↦ omega (arith, length-chain a.sys.now.y s (cc))
    ] in
    (omega arith, (cc, cc))
