use Prim.Native.Nat.{◌-◌, ◌*◌}
use Rattle.directory.proofs.CursorLaws.{Counted}
use Rattle.directory.proofs.EndLaws.{Ahead}
use Rattle.directory.proofs.entries.OpenDirectory+1+WIDE.slot_entry.Given as goal

abbrev pub invariant-loop : goal.invariant-loop
invariant-loop _ l = Ahead l.self.sys.now.y l.self.vol.now l.self.allocation l.slot l.k (l.slot - l.counter * l.per) × Counted l.self.sys.now.y l.self.vol.now l.self.allocation l.slot l.k (l.slot - l.counter * l.per)
