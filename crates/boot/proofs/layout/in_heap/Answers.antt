use Rattle.boot.specs.Layout.{in_heap}
use Rattle.boot.proofs.layout.in_heap.Goals as goal

pub returns : goal.returns
unfolding in_heap
returns c = c.in_run.ensures
