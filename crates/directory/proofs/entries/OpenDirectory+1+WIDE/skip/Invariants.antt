use Prim.Native.Nat.{◌+◌}
use Rattle.directory.proofs.CursorLaws.{Counted}
use Rattle.directory.proofs.entries.OpenDirectory+1+WIDE.skip.Given as goal

abbrev pub invariant-loop-more : goal.invariant-loop-more
invariant-loop-more _ l = Counted l.self.sys.now.y l.self.vol.now l.self.allocation (l.k + l.m) l.cluster l.more

abbrev pub decreases-loop-more : goal.decreases-loop-more
decreases-loop-more _ l = l.more
