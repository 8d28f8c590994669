use mathlib.Core.Bool.{not}
use mathlib.Core.Path.{◌≡◌}
use Prim.Native.Nat.{◌-◌}
use Rattle.search.specs.Internal.{past_failing}
use Rattle.directory.specs.Entries.{in_use}
use Rattle.directory.specs.Internal.{bytes, nth_entry}
use Rattle.directory.proofs.entries.OpenDirectory+1+WIDE.last_used.Given as goal

abbrev pub invariant-loop-k : goal.invariant-loop-k
invariant-loop-k _ l = (l.at ≡ nth_entry l.self l.k) × ((l.tail.slot ≡ past_failing (λ i. not (in_use (bytes l.self) i)) l.base (l.k - l.base)) × (l.tail.entry ≡ nth_entry l.self l.tail.slot))
