-- What only contracts of inner functions, and proofs, speak of: no promise of a public call and no clause of the claim needs it.
use Rattle.std.specs.Prelude.{◌≡◌, ℕ, ◌+◌, ◌-◌, ◌*◌, ◌/◌, ◌%◌, ◌^◌, ◌≤◌, true, cond, List, [], ◌∷◌, length, replicate, ◌==◌, nat_lt}
use Rattle.boot.specs.declared.layout.Layout.{Layout}
use Rattle.boot.specs.Internal.{Laid, Apart}
use Rattle.boot.specs.Layout.{in_heap}
use Rattle.boot.specs.Causes.{first_cause, heap_cause}
use Rattle.stream.specs.declared.allocation.Allocation.{Allocation}
use Rattle.stream.specs.declared.bytes.Place.{Place}
use Rattle.stream.specs.Bytes.{bytes_in}
use Rattle.stream.specs.Internal.{place_at}
use Rattle.stream.specs.Stream.{number_of, stream_of}
use Rattle.directory.specs.Directory.{directory_cause}
use Rattle.directory.specs.Open.{file_record, file_cause, set_in}
use Rattle.directory.specs.Internal.{OpenedFile, spot_of, set_read, found_file, no_file}
use Rattle.file.specs.Refresh.{open_cause}

-- where usable clusters for a stream are looked for first
unfoldable pub near_of : (b : Allocation) (hint : ℕ) → ℕ
near_of b hint = cond (b.count == 0) hint ((b.last + 1) % 2 ^ 32)

-- n entries from a slot on, at most 19, stand in directory a, which reads
pub record Stands (y : Layout) (d : List ℕ) (a : Allocation) (slot n : ℕ) : Type 0 where
  pub reads : number_of (stream_of y d a) ≡ 0
  pub few : n ≤ 19
  pub room : 32 * (slot + n) ≤ a.count * y.size

-- file f with set s at a slot of directory a, where nothing refuses directory, file and hint
pub record Opens (y : Layout) (d m : List ℕ) (a : Allocation) (slot : ℕ) (s : List ℕ) (f : OpenedFile) (hint : ℕ) : Type 0 where
  pub laid : Laid y
  pub apart : Apart y
  pub long : length d ≡ y.len
  pub map : y.count ≤ 8 * length m
  pub directory : directory_cause y d a ≡ 0
  pub file : file_cause y d m a slot ≡ 0
  pub set : s ≡ set_in y d a slot
  pub spot : f.spot ≡ spot_of y d a slot
  pub stream : f.stream ≡ file_record y d s
  pub hint_in : in_heap y.count hint ≡ true

-- the file at a slot of directory a as a call on its bytes from an offset on finds it: where its set stands, its stream's record and where
-- the call begins in it, or the number of what refuses it
unfoldable pub target : (y : Layout) (d m : List ℕ) (a : Allocation) (slot offset hint : ℕ) → OpenedFile
target y d m a slot offset hint =
    let n = open_cause y d m a slot hint in
    cond (n == 0) (found_file y d a slot offset) (no_file n)

-- the 608 bytes that this fills: the set where hint and directory are not refused and there is one, else zeros
unfoldable pub target_set : (y : Layout) (d : List ℕ) (a : Allocation) (slot hint : ℕ) → List ℕ
target_set y d a slot hint =
    cond (first_cause (heap_cause y.count hint ∷ directory_cause y d a ∷ []) == 0) (set_read (bytes_in y d a) slot) (replicate 608 0)

-- the place of stream b that is known, in the stream a that b grew to: the same, or a's first cluster where b was empty
unfoldable pub grown_place : (b : Allocation) (p : Place) (a : Allocation) → Place
grown_place b p a = cond (b.count == 0) (record { cluster = a.first; steps = 0 }) p

-- the place of stream b that zeros from one byte up to another lead to: that of the last one, or where none are stored the place before them
unfoldable pub zeroed_place : (y : Layout) (d : List ℕ) (b : Allocation) (p : Place) (from to : ℕ) → Place
zeroed_place y d b p from to = cond (nat_lt from to) (place_at y d b ((to - 1) / y.size)) p
