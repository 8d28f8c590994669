-- The model (01: plain tapes): a table from slots to lists of bytes, fed only the calls, their numbers and new slots.
use Rattle.file.specs.Outcome.{FileAnswer}
use Rattle.std.specs.Prelude.{Bool, true, false, not, cond, List, [], ◌∷◌, ◌++◌, ℕ, ◌+◌, ◌-◌, eqb, length, take, drop, replicate}
use Rattle.std.proofs.Math.Option.{Option, none, some}
use Rattle.tables.specs.Table.{upd}
use Rattle.write.specs.Calls.{Call, New, Write, SetLength, Remove}

-- zeros up to the offset if the list is shorter, then the data from there on, past the end if need be
unfoldable pub overwrite : (l : List ℕ) (offset : ℕ) (bs : List ℕ) → List ℕ
overwrite l offset bs = take offset (l ++ replicate (offset - length l) 0) ++ (bs ++ drop (offset + length bs) l)

-- cut, or filled up with zeros
unfoldable pub resize : List ℕ → ℕ → List ℕ
resize l len = take len l ++ replicate (len - length l) 0

-- what a slot holds, changed; a slot that holds nothing stays so
unfoldable pub onto : (List ℕ → List ℕ) → Option (List ℕ) → Option (List ℕ)
onto f (some l) = some (f l)
onto f none = none

-- an accepted call changes only its slot
unfoldable pub accepted : (ℕ → Option (List ℕ)) → Call → ℕ → ℕ → Option (List ℕ)
accepted p (New name attributes hash t hint) slot = upd p slot (some [])
accepted p (Write i offset bs t hint) slot = cond (eqb (length bs) 0) p (upd p i (onto (λ l. overwrite l offset bs) (p i)))
accepted p (SetLength i len t hint) slot = upd p i (onto (λ l. resize l len) (p i))
accepted p (Remove i hint) slot = upd p i none

-- a slot has a list
unfoldable pub has_list : Option (List ℕ) → Bool
has_list (some l) = true
has_list none = false

-- what an accepted call finds at its slot: a new file no list, any other call the list that it changes
unfoldable pub finds : Call → Option (List ℕ) → Bool
finds (New name attributes hash t hint) o = not (has_list o)
finds (Write i offset bs t hint) o = has_list o
finds (SetLength i len t hint) o = has_list o
finds (Remove i hint) o = has_list o

-- a refused one changes nothing
unfoldable pub fed : (ℕ → Option (List ℕ)) → Call → FileAnswer → ℕ → Option (List ℕ)
fed p c r = cond (eqb r.number 0) (accepted p c r.slot) p

-- the model after a list of calls
unfoldable pub model : (ℕ → Option (List ℕ)) → List Call → List FileAnswer → ℕ → Option (List ℕ)
model p [] rs = p
model p (c ∷ cs) [] = p
model p (c ∷ cs) (r ∷ rs) = model (fed p c r) cs rs
