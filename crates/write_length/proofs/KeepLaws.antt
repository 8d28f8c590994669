-- A new length keeps what each store keeps. Assumes nothing.
use mathlib.Core.Path.{◌≡◌}
use mathlib.Core.Bool.{true, cond}
use mathlib.Core.List.{List}
use Prim.Native.Nat.{ℕ, ◌≤◌}
use lib.Dec.{eqb, ltb}
use Rattle.tables.specs.Lists.{Mem}
use Rattle.tables.specs.Count.{count}
use Rattle.tables.proofs.Cases.{cond_case}
use Rattle.boot.specs.declared.layout.Layout.{Layout}
use Rattle.boot.specs.Layout.{in_heap}
use Rattle.metadata.specs.Usable.{is_usable}
use Rattle.metadata.proofs.Keeps.{Keeps, Went}
use Rattle.stream.specs.declared.allocation.Allocation.{Allocation}
use Rattle.stream.specs.Stream.{stream_of, clusters_of, clusters_in}
use Rattle.entry_set.specs.declared.stamp.Stamp.{Stamp}
use Rattle.entry_set.specs.Fields.{valid_length, data_length, clusters_for}
use Rattle.write_shrink.proofs.KeepLaws.{shrink_on}
use Rattle.file.specs.Outcome.{Outcome, carried}
use Rattle.directory.specs.Open.{file_record}
use Rattle.file.specs.Refresh.{stored, missing, refreshed_only}
use Rattle.file.proofs.KeepLaws.{DirectoryOwn, StreamOwn, own_start, stored_on, refreshed_on, longer_on, data_on, own_after}
use Rattle.write_length.specs.SetLength.{shorter, longer_file, resized}

-- the clusters of the stream once its set is stored
stored-after : (y : Layout) (P : ℕ → Type 0) (d m : List ℕ) (a : Allocation) → DirectoryOwn y P d m a → (b : Allocation) → StreamOwn y P d m b
    → (i : ℕ) (x : List ℕ) (c : Allocation) (valid len : ℕ) (t : Stamp) (k : ℕ)
    → Mem k (clusters_of (stream_of y (stored y d (clusters_in y d a) i x c valid len t) b)) → P k
unfolding stored
stored-after y P d m a r b f i x c valid len t k q = own_after y P d m a r b f _ _ k q

pub resized_on : (y : Layout) (P : ℕ → Type 0) (K : List ℕ → List ℕ → Type 0) → Keeps y P K → (d m : List ℕ) (a : Allocation) → DirectoryOwn y P d m a
    → (i : ℕ) (x : List ℕ) → StreamOwn y P d m (file_record y d x) → (len : ℕ) (t : Stamp) (hint : ℕ) → in_heap y.count hint ≡ true
    → missing y (file_record y d x) len ≤ count (is_usable y d m) 2 y.count
    → Went y K d (resized y d m a i x len t hint).volume
unfolding resized shorter longer_file carried
resized_on y P K s d m a r i x f len t hint h enough =
    cond_case To (ltb len (data_length x)) (shorter y d m a i x len t hint)
    (cond (eqb len (data_length x)) (refreshed_only y d a i x t hint) (longer_file y d m a i x len t hint))
    (λ _. shrink_on y P K s d m _ (stored_on y P K s d m a r d (own_start y P K s d m a r) i x _ _ len t) b (stored-after y P d m a r b f i x _ _ len t) (clusters_for y.size len) hint)
    (λ _. cond_case To (eqb len (data_length x)) (refreshed_only y d a i x t hint) (longer_file y d m a i x len t hint)
    (λ _. refreshed_on y P K s d m a r i x t hint)
    (λ _. stored_on y P K s d m a r _
    (data_on y P K s d m a r b f (missing y b len) hint h enough _ (longer_on y P K s d m a r b f (missing y b len) hint h enough) (valid_length x) _) i x _ _ _ t))
  where
    b : Allocation
    b = file_record y d x

    To : Outcome → Type 0
    To o = Went y K d o.volume
