-- What new file, write, set length and remove answer and leave.
use Rattle.std.specs.Prelude.{ℕ, List, Result, Ok, Err}
use Rattle.boot.specs.declared.cause.Cause.{Cause}
use Rattle.boot.specs.Causes.{cause_number}
use Rattle.file.specs.declared.answer.Carried.{Carried}

-- the number, the slot of a new set (0 for a call that makes none), and the hint
pub record FileAnswer : Type 0 where
  pub number : ℕ
  pub slot : ℕ
  pub hint : ℕ

-- what a call answers by what its function gives: refused, the number of its cause, slot 0, and the hint as given
abbrev pub file_answer : (hint : ℕ) → Result Carried Cause → FileAnswer
file_answer hint (Ok r) = record { number = 0; slot = r.slot; hint = r.hint }
file_answer hint (Err c) = record { number = cause_number c; slot = 0; hint = hint }

-- the answer, and the volume after the call
pub record Outcome : Type 0 where
  pub answer : FileAnswer
  pub volume : List ℕ

-- number n, slot 0, the hint as given, and the volume as it came
unfoldable pub refuse : (n hint : ℕ) (d : List ℕ) → Outcome
refuse n hint d = record { answer = record { number = n; slot = 0; hint = hint }; volume = d }

-- number 0 with a slot, a hint and a volume
unfoldable pub carried : (slot hint : ℕ) (d : List ℕ) → Outcome
carried slot hint d = record { answer = record { number = 0; slot = slot; hint = hint }; volume = d }
