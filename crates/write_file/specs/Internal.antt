-- What only contracts of inner functions, and proofs, speak of: no promise of a public call and no clause of the claim needs it.
use Rattle.std.specs.Prelude.{◌≡◌, ℕ, ◌+◌, ◌*◌, ◌≤◌, max, true, cond, List, [], ◌∷◌, length, ◌==◌, Result, Ok, Err}
use Rattle.boot.specs.declared.layout.Layout.{Layout}
use Rattle.boot.specs.Limits.{in_map}
use Rattle.boot.specs.Internal.{Laid, Apart}
use Rattle.boot.specs.Layout.{in_heap, is_bitmap_cluster}
use Rattle.stream.specs.declared.allocation.Allocation.{Allocation}
use Rattle.boot.specs.declared.cause.Cause.{Cause}
use Rattle.boot.specs.Causes.{cause_number, first_cause}
use Rattle.stream.specs.Stream.{clusters_in}
use Rattle.write_extend.specs.Extend.{extend_in}
use Rattle.directory.specs.Directory.{directory_cause}
use Rattle.file.specs.Refresh.{missing, length_cause}
use Rattle.write_file.specs.declared.write.Stored.{Stored}
use Rattle.write_file.specs.Write.{end_cause, with_data}

-- what internal functions require: a volume in the limits, a directory that opens, and a hint in the heap
-- Kept: its first facts are a System's too, but the claim's laws take it as well, with a layout and a map alone
pub record Ready (y : Layout) (d m : List ℕ) (a : Allocation) (hint : ℕ) : Type 0 where
  pub laid : Laid y
  pub apart : Apart y
  pub long : length d ≡ y.len
  pub map : y.count ≤ 8 * length m
  pub mapped : (k : ℕ) → is_bitmap_cluster y k ≡ true → in_map m k ≡ true
  pub directory : directory_cause y d a ≡ 0
  pub hint_in : in_heap y.count hint ≡ true

-- what storing data answers: a number, and the stream, both lengths and the hint
pub record DataAnswer : Type 0 where
  pub number : ℕ
  pub allocation : Allocation
  pub valid : ℕ
  pub len : ℕ
  pub hint : ℕ

-- by what its function gives: refused, what the file has
abbrev pub data_answer : (b : Allocation) (valid len hint : ℕ) → Result Stored Cause → DataAnswer
data_answer b valid len hint (Ok w) = record { number = 0; allocation = w.allocation; valid = w.valid; len = w.len; hint = w.hint }
data_answer b valid len hint (Err c) = record { number = cause_number c; allocation = b; valid = valid; len = len; hint = hint }

-- what storing data answers, and the volume after it
pub record DataOutcome : Type 0 where
  pub answer : DataAnswer
  pub volume : List ℕ

-- what refuses n bytes at an offset of a file of length len with stream b, n not 0: 8, then 7
unfoldable pub store_cause : (y : Layout) (d m : List ℕ) (b : Allocation) (len offset n : ℕ) → ℕ
store_cause y d m b len offset n = first_cause (end_cause offset n ∷ length_cause y d m b (max len (offset + n)) ∷ [])

-- nothing stored: a number, what the file has, and the volume as it was
abbrev pub unstored : (n : ℕ) (b : Allocation) (valid len hint : ℕ) (d : List ℕ) → DataOutcome
unstored n b valid len hint d = record { answer = record { number = n; allocation = b; valid = valid; len = len; hint = hint }; volume = d }

-- data stored in the stream b of a file with these lengths: nothing for empty data, else the number, or the stream grown, zeroed and stored to
unfoldable pub data_stored : (y : Layout) (d m : List ℕ) (b : Allocation) (valid len offset : ℕ) (bs : List ℕ) (hint : ℕ) → DataOutcome
data_stored y d m b valid len offset bs hint =
    let n = length bs in
    let number = store_cause y d m b len offset n in
    let o = extend_in y d m b (missing y b (max len (offset + n))) hint in
    let a = o.answer.allocation in
    cond (n == 0) (unstored 0 b valid len hint d)
    (cond (number == 0)
    (record {
      answer = record { number = 0; allocation = a; valid = max valid (offset + n); len = max len (offset + n); hint = o.answer.hint };
      volume = with_data y o.volume (clusters_in y o.volume a) valid offset bs;
    })
    (unstored number b valid len hint d))
