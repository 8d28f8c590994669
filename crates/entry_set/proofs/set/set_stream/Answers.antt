use mathlib.Core.Path.{◌≡◌}
use mathlib.Core.Bool.{cond}
use Rattle.entry_set.specs.Put.{put_stream}
use Rattle.entry_set.proofs.set.set_stream.Goals.{then-no_fat_chain, else-no_fat_chain}
use Rattle.entry_set.proofs.set.set_stream.Goals as goal

pub returns : goal.returns
unfolding put_stream
returns c =
    let f : c.if-no_fat_chain.set ≡ cond c.args.no_fat_chain 3 1 =
    elim c.if-no_fat_chain.branch [
      | then-no_fat_chain w ↦ rw w.if-no_fat_chain.true w.set-is
      | else-no_fat_chain w ↦ rw w.if-no_fat_chain.false w.set-is
    ] in
    cc
