-- The four calls with all their arguments, and a list of them run one after the other.
use Rattle.std.specs.Prelude.{List, [], ◌∷◌, ℕ}
use Rattle.boot.specs.declared.geometry.Geometry.{Geometry}
use Rattle.entry_set.specs.declared.stamp.Stamp.{Stamp}
use Rattle.entry_set.specs.declared.stamp.Stamps.{Stamps}
use Rattle.file.specs.Outcome.{FileAnswer, Outcome}
use Rattle.write_file.specs.NewFile.{new_file}
use Rattle.write_file.specs.Write.{write_into}
use Rattle.write_length.specs.SetLength.{set_length}
use Rattle.write_remove.specs.Remove.{remove}

-- a call; the last argument of each is the hint
pub data Call : Type 0 where
  -- name, attributes, hash, stamps
  New : List ℕ → ℕ → ℕ → Stamps → ℕ → Call
  -- slot, offset, data, stamp
  Write : ℕ → ℕ → List ℕ → Stamp → ℕ → Call
  -- slot, length, stamp
  SetLength : ℕ → ℕ → Stamp → ℕ → Call
  -- slot
  Remove : ℕ → ℕ → Call

-- what a call answers and leaves: the definitions that the contracts of the code cite
unfoldable pub step : Geometry → List ℕ → List ℕ → Call → Outcome
step g m d (New name attributes hash t hint) = new_file g d m name attributes hash t hint
step g m d (Write slot offset bs t hint) = write_into g d m slot offset bs t hint
step g m d (SetLength slot len t hint) = set_length g d m slot len t hint
step g m d (Remove slot hint) = remove g d m slot hint

-- the volume after a list of calls, refused ones included
unfoldable pub run : Geometry → List ℕ → List ℕ → List Call → List ℕ
run g m d [] = d
run g m d (c ∷ cs) = run g m (step g m d c).volume cs

-- and what each of them answered
unfoldable pub answers : Geometry → List ℕ → List ℕ → List Call → List FileAnswer
answers g m d [] = []
answers g m d (c ∷ cs) = (step g m d c).answer ∷ answers g m (step g m d c).volume cs
