use mathlib.Core.Path.{◌≡◌, refl, ◌∙◌}
use mathlib.Core.Bool.{Bool, true, false}
use mir.Val.{bool_byte}
use Rattle.exfat.specs.Words.{flag_word}
use Rattle.exfat.proofs.words.flag_word.Goals as goal

word : (b : Bool) → bool_byte b ≡ flag_word b
unfolding flag_word
word true = refl
word false = refl

pub returns : goal.returns
returns c = c.from.ensures ∙ word c.args.flag
