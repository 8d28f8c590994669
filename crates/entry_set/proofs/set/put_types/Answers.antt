use mathlib.Core.Path.{refl}
use native.Mathlib.Numerals.{add-one}
use Rattle.entry_set.specs.New.{put_types}
use Rattle.entry_set.proofs.set.put_types.Goals as goal

pub loop-i-init : goal.loop-i-init
unfolding put_types
loop-i-init c = refl

pub loop-i-preserved : goal.loop-i-preserved
unfolding put_types
loop-i-preserved c = rw add-one (cc)
