-- What only contracts of inner functions, and proofs, speak of: no promise of a public call and no clause of the claim needs it.
use Rattle.std.specs.Prelude.{◌≡◌, true, List, ℕ, ◌≤◌}
use Rattle.tables.specs.Count.{count}
use Rattle.boot.specs.declared.layout.Layout.{Layout}
use Rattle.boot.specs.Limits.{in_map}
use Rattle.boot.specs.Layout.{in_heap, is_bitmap_cluster}
use Rattle.metadata.specs.Usable.{is_usable}
use Rattle.stream.specs.declared.allocation.Allocation.{Allocation}
use Rattle.stream.specs.Stream.{number_of, stream_of}
use Rattle.write_alloc.specs.declared.answer.Updated.{Updated}
use Rattle.write_dir.specs.Place.{GrownDirectory}

-- a directory with its volume and hint, and what a call answers of it
abbrev pub standing : List ℕ → Allocation → ℕ → GrownDirectory
standing d a hint = record { volume = d; directory = a; hint = hint }

abbrev pub added_of : GrownDirectory → Updated
added_of w = record { allocation = w.directory; hint = w.hint }

-- n clusters may be added: the record reads, so many are usable, and the map has every bitmap cluster, so that none is a bitmap's
pub record Growable (y : Layout) (d m : List ℕ) (a : Allocation) (n hint : ℕ) : Type 0 where
  pub reads : number_of (stream_of y d a) ≡ 0
  pub mapped : (k : ℕ) → is_bitmap_cluster y k ≡ true → in_map m k ≡ true
  pub enough : n ≤ count (is_usable y d m) 2 y.count
  pub hint_in : in_heap y.count hint ≡ true
