use Rattle.exfat.proofs.WordLaws.{answer_put}
use Rattle.exfat.proofs.words.put_answer.Goals as goal

pub returns : goal.returns
returns c = rw (c.number.ensures, c.flag_word-flag.ensures, c.unwrap_or-x.ensures) (answer_put c.args.allocation c.args.hint c.args.r)
