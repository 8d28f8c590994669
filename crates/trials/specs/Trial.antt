-- A trial: a volume, a call with its arguments, and what is expected of it.
use Rattle.file.specs.Outcome.{FileAnswer}
use Rattle.std.specs.Prelude.{Bool, true, false, ◌&&◌, List, [], ◌∷◌, ℕ, eqb, length}
use Rattle.stream.specs.declared.allocation.Allocation.{Allocation}
use Rattle.stream.specs.Listing.{listing_number, listing_list}
use Rattle.write_alloc.specs.Outcome.{Answer, Outcome}
use Rattle.write_alloc.specs.Allocate.{allocate_clusters}
use Rattle.write_extend.specs.Extend.{extend_clusters}
use Rattle.write_shrink.specs.Shrink.{shrink_clusters}
use Rattle.entry_set.specs.declared.stamp.Stamp.{Stamp}
use Rattle.file.specs.Outcome as file
use Rattle.write_length.specs.SetLength.{set_length}
use Rattle.trials.specs.Volume.{Volume, geometry, system, trial_bytes}

-- a call with its own arguments, in the order of 01
pub data Call : Type 0 where
  -- clusters, hint; no near
  allocate : ℕ → ℕ → Call
  -- record, more, hint
  extend : Allocation → ℕ → ℕ → Call
  -- record, keep, hint
  shrink : Allocation → ℕ → ℕ → Call
  -- record, the list as it came
  listing : Allocation → List ℕ → Call
  -- slot, length, stamp, hint
  new_length : ℕ → ℕ → Stamp → ℕ → Call

-- what a call gives and leaves
pub data Result : Type 0 where
  -- number, record and hint, and all bytes of the volume after the call
  answered : Answer → List ℕ → Result
  -- number, and the list after the call; the volume is only read
  listed : ℕ → List ℕ → Result
  -- number, slot and hint, and all bytes of the volume after the call
  carried : FileAnswer → List ℕ → Result

-- an outcome as a result
abbrev pub outcome : Outcome → Result
outcome o = answered o.answer o.volume

-- a file call's outcome as a result
abbrev pub file_outcome : file.Outcome → Result
file_outcome o = carried o.answer o.volume

-- what the definitions say of a call on a volume
unfoldable pub result_of : List ℕ → Call → Result
result_of d (allocate n hint) = outcome (allocate_clusters geometry d system n false 0 hint)
result_of d (extend a n hint) = outcome (extend_clusters geometry d system a n hint)
result_of d (shrink a keep hint) = outcome (shrink_clusters geometry d system a keep hint)
result_of d (listing a l) = listed (listing_number geometry d system a (length l)) (listing_list geometry d system a l)
result_of d (new_length slot len t hint) = file_outcome (set_length geometry d system slot len t hint)

-- one row of the table
pub record Trial : Type 0 where
  pub start : Volume
  pub call : Call
  pub expected : Result

-- two truth values are the same
unfoldable pub same_flag : Bool → Bool → Bool
same_flag true b = b
same_flag false true = false
same_flag false false = true

-- two lists are the same
unfoldable pub same_list : List ℕ → List ℕ → Bool
same_list [] [] = true
same_list [] (y ∷ ys) = false
same_list (x ∷ xs) [] = false
same_list (x ∷ xs) (y ∷ ys) = eqb x y && same_list xs ys

-- two records are the same
unfoldable pub same_record : Allocation → Allocation → Bool
same_record a b =
    eqb a.first b.first
    && (eqb a.last b.last && (eqb a.count b.count && same_flag a.no_fat_chain b.no_fat_chain))

-- two answers are the same
unfoldable pub same_answer : Answer → Answer → Bool
same_answer a b = eqb a.number b.number && (same_record a.allocation b.allocation && eqb a.hint b.hint)

-- two answers of file calls are the same
unfoldable pub same_file_answer : FileAnswer → FileAnswer → Bool
same_file_answer a b = eqb a.number b.number && (eqb a.slot b.slot && eqb a.hint b.hint)

-- two results are the same
unfoldable pub same_result : Result → Result → Bool
same_result (answered a d) (answered b e) = same_answer a b && same_list d e
same_result (answered a d) (listed n l) = false
same_result (answered a d) (carried b e) = false
same_result (listed n l) (answered b e) = false
same_result (listed m k) (listed n l) = eqb m n && same_list k l
same_result (listed n l) (carried b e) = false
same_result (carried a d) (answered b e) = false
same_result (carried a d) (listed n l) = false
same_result (carried a d) (carried b e) = same_file_answer a b && same_list d e

-- what the definitions say in a trial
unfoldable pub said : Trial → Result
said t = result_of (trial_bytes t.start) t.call

-- what is expected of it
abbrev pub wanted : Trial → Result
wanted t = t.expected

-- the definitions say what is expected
unfoldable pub agrees : Trial → Bool
agrees t = same_result (said t) (wanted t)

-- all trials of a table
unfoldable pub all_agree : List Trial → Bool
all_agree [] = true
all_agree (t ∷ ts) = agrees t && all_agree ts
