use mathlib.Core.Path.{◌≡◌}
use Prim.Native.Nat.{◌-◌}
use lib.ListN.{length}
use Rattle.write_dir.specs.Internal.{Growable, standing}
use Rattle.write_dir.specs.Place.{grow_by}
use Rattle.write_dir.proofs.place.grow_by.Given as goal

abbrev pub invariant-loop : goal.invariant-loop
invariant-loop l = (length l.vol ≡ length l.initial.vol) × (Growable l.sys.y l.vol l.sys.map.now l.w.allocation (l.n - l.counter) l.w.hint × (grow_by l.sys.y l.sys.map.now (l.n - l.counter) (standing l.vol l.w.allocation l.w.hint) ≡ grow_by l.sys.y l.sys.map.now l.n (standing l.initial.vol l.initial.w.allocation l.initial.w.hint)))
