-- A new file and data written keep what each store keeps: nothing is stored but in usable clusters, the directory's and the file's.
-- Assumes nothing.
use Rattle.std.proofs.Common.{◌≡◌, ℕ, ◌+◌, ◌-◌, ◌≤◌, max, true, List, ◌++◌, length, replicate, ap, ◌∙◌, ⊎_elim}
use Rattle.tables.specs.Lists.{every}
use Rattle.tables.specs.Count.{count}
use Rattle.tables.proofs.ListLaws.{every_mem, mem_every, mem_append}
use Rattle.boot.specs.declared.layout.Layout.{Layout}
use Rattle.boot.specs.Layout.{in_heap}
use Rattle.metadata.specs.Usable.{is_usable}
use Rattle.metadata.proofs.View.{plain}
use Rattle.metadata.proofs.Keeps.{Keeps, Went}
use Rattle.stream.specs.declared.allocation.Allocation.{Allocation}
use Rattle.stream.specs.Stream.{stream_of, clusters_of, clusters_in}
use Rattle.stream.proofs.KeepLaws.{store_on}
use Rattle.entry_set.specs.declared.stamp.Stamp.{Stamp}
use Rattle.entry_set.specs.Fields.{valid_length, data_length}
use Rattle.file.specs.Outcome.{carried}
use Rattle.directory.specs.Open.{file_record}
use Rattle.write_dir.specs.Place.{GrownDirectory, grow_by}
use Rattle.write_dir.proofs.AddedLaws.{grow_many, zeroed_clusters}
use Rattle.write_dir.proofs.KeepLaws.{grow_on}
use Rattle.write_file.specs.NewFile.{placed}
use Rattle.file.specs.Refresh.{missing}
use Rattle.write_file.specs.Write.{with_data, written}
use Rattle.file.proofs.RefreshLaws.{stream_is}
use Rattle.file.proofs.CallLaws.{directory_reads, directory_plain}
use Rattle.file.proofs.KeepLaws.{DirectoryOwn, StreamOwn, own_start, stored_on, longer_on, data_on}

module _ (y : Layout) (P : ℕ → Type 0) (K : List ℕ → List ℕ → Type 0) (s : Keeps y P K) (d m : List ℕ) (a : Allocation) (r : DirectoryOwn y P d m a) where
  -- ---- a new file

  module _ (hint : ℕ) (hint_in : in_heap y.count hint ≡ true) (more : ℕ) (enough : more ≤ count (is_usable y d m) 2 y.count) where
    abbrev v : GrownDirectory
    v = record { volume = d; directory = a; hint = hint }

    abbrev old : List ℕ
    old = clusters_of (stream_of y d a)

    grown_plain : every (plain y) (clusters_in y (grow_by y m more v).volume (grow_by y m more v).directory) ≡ true
    grown_plain =
        let q = grow_many y m r.mapped more v r.fits old (stream_is y d a (directory_reads y d a r.opens)) hint_in enough in
        ap (every (plain y)) (zeroed_clusters y d m (grow_by y m more v) old q.0 q.2)
        ∙ mem_every (plain y) (old ++ q.0)
        (λ k i. ⊎_elim (every_mem (plain y) old (unfold clusters_in in (directory_plain y d a r.opens)) k) (every_mem (plain y) q.0 q.2.plains k)
        (mem_append old i))

    pub placed_on : (n : ℕ) (x : List ℕ) → Went y K d (placed y (grow_by y m more (record { volume = d; directory = a; hint = hint })) n x).volume
    unfolding placed carried
    placed_on n x =
        let g = grow_on y P K s d m r.mapped more v (own_start y P K s d m a r) r.usable old (stream_is y d a (directory_reads y d a r.opens))
        (λ k i. r.own k (unfold clusters_in in i)) hint_in enough in
        store_on y P K s d (grow_by y m more v).volume g.0 (clusters_in y (grow_by y m more v).volume (grow_by y m more v).directory) grown_plain g.1 _ _

  pub written_on : (i : ℕ) (x : List ℕ) → StreamOwn y P d m (file_record y d x) → (offset : ℕ) (bs : List ℕ) (t : Stamp) (hint : ℕ)
      → in_heap y.count hint ≡ true
      → missing y (file_record y d x) (max (data_length x) (offset + length bs)) ≤ count (is_usable y d m) 2 y.count
      → Went y K d (written y d m a i x offset bs t hint).volume
  unfolding written carried with_data
  written_on i x f offset bs t hint h enough =
      let b = file_record y d x in
      let n = missing y b (max (data_length x) (offset + length bs)) in
      stored_on y P K s d m a r _ (data_on y P K s d m a r b f n hint h enough _ (data_on y P K s d m a r b f n hint h enough _ (longer_on y P K s d m a r b f n hint h enough) (valid_length x) (replicate (offset - valid_length x) 0)) offset bs)
      i x _ _ _ t
