use Prim.Native.Nat.{◌+◌, ◌-◌}
use mathlib.Core.Path.{◌≡◌}
use Rattle.write_alloc.specs.Take.{link_run}
use Rattle.write_alloc.proofs.take.link_run.Given as goal

abbrev pub invariant-loop-k : goal.invariant-loop-k
invariant-loop-k _ l = link_run l.sys.y l.vol l.k (l.first + l.n - l.k) ≡ link_run l.sys.y l.initial.vol l.first l.n
