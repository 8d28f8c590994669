use Rattle.boot.specs.Geometry.{sector_size}
use Rattle.boot.proofs.Powers.{shl_facts}
use native.Mathlib.Omega.{arith}
use Rattle.boot.proofs.geometry.Shaped.bytes_per_sector.Goals as goal

pub returns : goal.returns
unfolding sector_size
returns c = shl_facts _ 12 (omega arith) (omega arith)
