-- A file removed keeps what each store keeps. Assumes nothing.
use mathlib.Core.List.{List}
use Prim.Native.Nat.{ℕ}
use Rattle.boot.specs.declared.layout.Layout.{Layout}
use Rattle.metadata.proofs.Keeps.{Keeps, Went}
use Rattle.stream.specs.declared.allocation.Allocation.{Allocation}
use Rattle.write_shrink.proofs.KeepLaws.{shrink_on}
use Rattle.stream.specs.Stream.{clusters_in}
use Rattle.write_shrink.specs.Shrink.{shrink_in}
use Rattle.file.specs.Outcome.{carried}
use Rattle.directory.specs.Open.{file_record}
use Rattle.file.proofs.KeepLaws.{DirectoryOwn, StreamOwn, own_start, entries_on, own_after}
use Rattle.write_remove.specs.Remove.{unlinked}

pub removed_on : (y : Layout) (P : ℕ → Type 0) (K : List ℕ → List ℕ → Type 0) → Keeps y P K → (d m : List ℕ) (a : Allocation) → DirectoryOwn y P d m a
    → (i : ℕ) (x : List ℕ) → StreamOwn y P d m (file_record y d x) → (hint : ℕ)
    → Went y K d (carried 0 hint (shrink_in y (unlinked y d (clusters_in y d a) i x) m (file_record y d x) 0 hint).volume).volume
unfolding unlinked carried
removed_on y P K s d m a r i x f hint =
    shrink_on y P K s d m _ (entries_on y P K s d m a r d (own_start y P K s d m a r) _ _) (file_record y d x) (own_after y P d m a r (file_record y d x) f _ _) 0 hint
