use mathlib.Core.Path.{refl}
use native.Mathlib.Numerals.{add-one}
use Rattle.entry_set.specs.New.{put_units}
use Rattle.entry_set.proofs.set.put_units.Goals as goal

pub loop-i-init : goal.loop-i-init
unfolding put_units
loop-i-init c = refl

pub loop-i-preserved : goal.loop-i-preserved
unfolding put_units
loop-i-preserved c = rw add-one (cc)
