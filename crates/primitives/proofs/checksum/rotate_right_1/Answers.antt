use Rattle.std.proofs.Common.{◌≡◌, ◌*◌, ◌/◌, ◌%◌, ap, ◌∙◌, add_comm, arith}
use lib.Bits.{bit_or, or_shifted_r}
use Rattle.primitives.proofs.checksum.rotate_right_1.Goals as goal

pub returns : goal.returns
returns c =
    let x = c.args.x in
    let e : x * 32768 % 65536 ≡ x % 2 * 32768 = omega arith in
    c.rotate_right.ensures ∙ ap (bit_or (x / 2)) e ∙ or_shifted_r (x % 2) 15 (x / 2) (omega arith) ∙ add_comm (x % 2 * 32768) (x / 2)
