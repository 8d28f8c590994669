-- What only contracts of inner functions, and proofs, speak of: no promise of a public call and no clause of the claim needs it.
use Rattle.std.specs.Prelude.{◌≡◌, true, List, ℕ, ◌<◌, ◌/◌, length, get_or}
use Rattle.boot.specs.declared.layout.Layout.{Layout}
use Rattle.stream.specs.declared.allocation.Allocation.{Allocation}
use Rattle.stream.specs.Stream.{number_of, stream_of, clusters_in}
use Rattle.entry_set.specs.Fields.{valid_length}
use Rattle.entry_set.specs.Sound.{well_formed}
use Rattle.directory.specs.Open.{file_record}

-- the file of set s with stream b, which is not refused, and its cluster k at an offset below the valid length
pub record Readable (y : Layout) (d s : List ℕ) (b : Allocation) (k offset : ℕ) : Type 0 where
  pub long : length d ≡ y.len
  pub formed : well_formed y.count y.size s ≡ true
  pub stream : b ≡ file_record y d s
  pub reads : number_of (stream_of y d b) ≡ 0
  pub seen : offset < valid_length s → k ≡ get_or (clusters_in y d b) (offset / y.size) 0
