-- What a call that changes the volume answers and leaves.
use Rattle.std.specs.Prelude.{List, ℕ, Result, Ok, Err}
use Rattle.boot.specs.declared.cause.Cause.{Cause}
use Rattle.boot.specs.Causes.{cause_number}
use Rattle.stream.specs.declared.allocation.Allocation.{Allocation}
use Rattle.write_alloc.specs.declared.answer.Updated.{Updated}

-- the number, the record and the hint
pub record Answer : Type 0 where
  pub number : ℕ
  pub allocation : Allocation
  pub hint : ℕ

-- what a call that is carried out answers: number 0
abbrev pub success : Updated → Answer
success r = record { number = 0; allocation = r.allocation; hint = r.hint }

-- what a call answers by what its function gives: refused, the number of its cause, with record and hint as given
abbrev pub answer_of : (a : Allocation) (hint : ℕ) → Result Updated Cause → Answer
answer_of a hint (Ok r) = success r
answer_of a hint (Err c) = record { number = cause_number c; allocation = a; hint = hint }

-- the answer, and the volume after the call
pub record Outcome : Type 0 where
  pub answer : Answer
  pub volume : List ℕ

-- number n with record and hint as given, and the volume as it came
abbrev pub unchanged : (n : ℕ) (a : Allocation) (hint : ℕ) (d : List ℕ) → Outcome
unchanged n a hint d = record { answer = record { number = n; allocation = a; hint = hint }; volume = d }

-- number 0 with another record, hint and volume
abbrev pub done : Allocation → ℕ → List ℕ → Outcome
done a hint d = record { answer = record { number = 0; allocation = a; hint = hint }; volume = d }
