-- Demand 3: what specs/Demand.antt says holds over every list of calls on a consistent volume. Assumes nothing.
use mathlib.Core.List.{List}
use Prim.Native.Nat.{ℕ}
use Rattle.boot.specs.declared.geometry.Geometry.{Geometry}
use Rattle.write.specs.Calls.{Call, New, Write, SetLength, Remove}
use Rattle.write.specs.Consistent.{Consistent}
use Rattle.write.specs.Demand.{Demand}
use Rattle.write.proofs.Steps.{Step, every}
use Rattle.write.proofs.Created.{new-step}
use Rattle.write.proofs.Written.{write_step, set-length-step}
use Rattle.write.proofs.Shortened.{shorter-step}
use Rattle.write.proofs.Removed.{remove-step}

-- any of the four calls, refused or carried out
pub one-step : (g : Geometry) (m d : List ℕ) (c : Call) → Consistent g m d → Step g m d c
one-step g m d (New name attributes hash t hint) w = new-step g m d w name attributes hash t hint
one-step g m d (Write slot offset bs t hint) w = write_step g m d w slot offset bs t hint
one-step g m d (SetLength slot len t hint) w = set-length-step g m d w slot len t hint (shorter-step g m d w slot len t hint)
one-step g m d (Remove slot hint) w = remove-step g m d w slot hint

-- for every geometry, map, volume and list of calls, the empty list included
pub demand : (g : Geometry) (m d : List ℕ) (cs : List Call) → Consistent g m d → Demand g m d cs
demand g m d cs w = every g m (λ v c. one-step g m v c) d cs w
