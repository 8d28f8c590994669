-- What only contracts of inner functions, and proofs, speak of: no promise of a public call and no clause of the claim needs it.
use Rattle.std.specs.Prelude.{◌≡◌, ℕ, ◌+◌, ◌≤◌, List}
use Rattle.tables.specs.Count.{count}
use Rattle.boot.specs.declared.layout.Layout.{Layout}
use Rattle.metadata.specs.Usable.{is_usable}
use Rattle.stream.specs.declared.allocation.Allocation.{Allocation}
use Rattle.stream.specs.Stream.{number_of, stream_of}

-- where nothing does: what internal functions require
pub record Allowed (y : Layout) (d m : List ℕ) (a : Allocation) (n : ℕ) : Type 0 where
  pub room : a.count + n ≤ y.count
  pub reads : number_of (stream_of y d a) ≡ 0
  pub enough : n ≤ count (is_usable y d m) 2 y.count
