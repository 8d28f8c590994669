use Rattle.stream.specs.Internal.{barred}
use Rattle.stream.proofs.walk.is_barred.Goals as goal

pub returns-then-root : goal.returns-then-root
unfolding barred
returns-then-root _ c = rw c.if-root.true c.is_bitmap_cluster.ensures

pub returns : goal.returns
unfolding barred
returns _ c = rw c.if-root.false c.in_map.ensures
