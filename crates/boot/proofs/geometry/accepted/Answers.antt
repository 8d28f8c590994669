use Rattle.boot.proofs.Limits.{shape_of}
use Rattle.boot.proofs.geometry.accepted.Goals as goal

pub invariant_of-shaped : goal.invariant_of-shaped
invariant_of-shaped c = record { shape = shape_of _ (cc) }
