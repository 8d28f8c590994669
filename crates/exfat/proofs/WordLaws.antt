-- What crosses the C boundary says what the library's functions say.
use Rattle.std.proofs.Common.{Bool, true, false, cond, Some, None, is_some, unwrap_or, Result, Ok, Err, ℕ, List, [], ◌∷◌, ◌≡◌, refl}
use Rattle.std.specs.Result.{result_unwrap_or}
use Rattle.boot.specs.declared.cause.Cause.{Cause}
use Rattle.boot.specs.declared.geometry.Geometry.{Geometry}
use Rattle.boot.specs.Causes.{number}
use Rattle.stream.specs.declared.allocation.Allocation.{Allocation}
use Rattle.write_alloc.specs.declared.answer.Updated.{Updated}
use Rattle.write_alloc.specs.Outcome.{answer_of}
use Rattle.write_alloc.specs.Allocate.{near_cause, allocate_cause, allocate_in, allocate_clusters}
use Rattle.exfat.specs.Words.{flag_word, answer_words}

-- the words of a record and a hint
abbrev words_of : Updated → List ℕ
words_of x =
    x.allocation.first ∷ x.allocation.last ∷ x.allocation.count ∷ flag_word x.allocation.no_fat_chain ∷ x.hint ∷ 0 ∷ 0 ∷ 0 ∷ []

pub answer_put : (a : Allocation) (hint : ℕ) (r : Result Updated Cause)
    → (number r ≡ (answer_of a hint r).number) × (words_of (result_unwrap_or r (record { allocation = a; hint = hint })) ≡ answer_words (answer_of a hint r))
unfolding answer_words
answer_put a hint (Ok x) = (refl, refl)
answer_put a hint (Err c) = (refl, refl)

-- without a near cluster, its number says nothing
pub near_given : (g : Geometry) (d m : List ℕ) (n : ℕ) (given : Bool) (near hint : ℕ)
    → let o = cond given (Some near) None in
    allocate_clusters g d m n (is_some o) (unwrap_or o 0) hint ≡ allocate_clusters g d m n given near hint
unfolding near_cause allocate_cause allocate_in allocate_clusters
near_given g d m n true near hint = refl
near_given g d m n false near hint = refl
