-- What the calls on files share keeps what each store keeps: nothing is stored but in usable clusters, the directory's and the file's.
-- Assumes nothing.
use Rattle.std.proofs.Common.{◌≡◌, ℕ, ◌≤◌, true, false, not, List, sym, ap, ◌∙◌, subst, ⊎_elim}
use mathlib.Core.Bool.{false≢true}
use Rattle.tables.specs.Lists.{Mem, every}
use Rattle.tables.specs.Count.{count}
use Rattle.tables.proofs.Cases.{not_so, and_both}
use Rattle.tables.proofs.ListLaws.{every_mem, mem_every, mem_append}
use Rattle.boot.specs.declared.layout.Layout.{Layout}
use Rattle.boot.specs.Limits.{in_map}
use Rattle.boot.specs.Layout.{in_heap, is_bitmap_cluster}
use Rattle.metadata.specs.Usable.{is_usable}
use Rattle.metadata.proofs.Frame.{Fits}
use Rattle.metadata.proofs.View.{plain}
use Rattle.metadata.proofs.Counting.{usable_facts}
use Rattle.metadata.proofs.Keeps.{Keeps, Went, went_none}
use Rattle.stream.specs.declared.allocation.Allocation.{Allocation}
use Rattle.stream.specs.Chain.{Clusters}
use Rattle.stream.specs.Stream.{number_of, stream_of, clusters_of, clusters_in}
use Rattle.stream.specs.Bytes.{store_at}
use Rattle.stream.proofs.ListingLaws.{stream_read}
use Rattle.stream.proofs.KeepLaws.{store_on, stream_store}
use Rattle.entry_set.specs.declared.stamp.Stamp.{Stamp}
use Rattle.entry_set.specs.Fields.{valid_length, data_length}
use Rattle.write_alloc.specs.Outcome as alloc
use Rattle.write_alloc.proofs.KeepLaws.{Taking}
use Rattle.write_extend.specs.Extend.{extend_in}
use Rattle.write_extend.proofs.EnoughLaws.{Extended, extend_done}
use Rattle.write_extend.proofs.KeepLaws.{extend_on}
use Rattle.directory.specs.Directory.{directory_cause}
use Rattle.file.specs.Outcome.{carried}
use Rattle.directory.specs.Open.{file_record}
use Rattle.file.specs.Refresh.{stored, refreshed_only}
use Rattle.file.proofs.RefreshLaws.{stream_is}
use Rattle.file.proofs.CallLaws.{directory_plain}

-- directory a opens in a volume in the limits, and its clusters and the usable ones may be stored to
pub record DirectoryOwn (y : Layout) (P : ℕ → Type 0) (d m : List ℕ) (a : Allocation) : Type 0 where
  pub fits : Fits y d
  pub mapped : (k : ℕ) → is_bitmap_cluster y k ≡ true → in_map m k ≡ true
  pub usable : Taking y P m d
  pub opens : directory_cause y d a ≡ 0
  pub own : (k : ℕ) → Mem k (clusters_in y d a) → P k

-- so does the stream b, from clusters off the map
pub record StreamOwn (y : Layout) (P : ℕ → Type 0) (d m : List ℕ) (b : Allocation) : Type 0 where
  pub reads : number_of (stream_of y d b) ≡ 0
  pub off : (k : ℕ) → Mem k (clusters_in y d b) → in_map m k ≡ false
  pub own : (k : ℕ) → Mem k (clusters_in y d b) → P k

-- its clusters once bytes are stored in the directory
pub own_after : (y : Layout) (P : ℕ → Type 0) (d m : List ℕ) (a : Allocation) → DirectoryOwn y P d m a → (b : Allocation) → StreamOwn y P d m b
    → (at : ℕ) (bs : List ℕ) (k : ℕ) → Mem k (clusters_of (stream_of y (store_at y d (clusters_in y d a) at bs) b)) → P k
own_after y P d m a r b f at bs k q =
    f.own k
    (unfold clusters_in in
    (subst (λ (c : Clusters). Mem k (clusters_of c)) (stream_store y d r.fits (clusters_in y d a) (directory_plain y d a r.opens) at bs b f.reads) q))

module _ (y : Layout) (P : ℕ → Type 0) (K : List ℕ → List ℕ → Type 0) (s : Keeps y P K) (d m : List ℕ) (a : Allocation) (r : DirectoryOwn y P d m a) where
  pub own_start : Went y K d d
  own_start = went_none y P K s d r.fits

  -- bytes stored in the directory
  pub entries_on : (v : List ℕ) → Went y K d v → (at : ℕ) (bs : List ℕ) → Went y K d (store_at y v (clusters_in y d a) at bs)
  entries_on v w at bs = store_on y P K s d v w (clusters_in y d a) (directory_plain y d a r.opens) r.own at bs

  -- a set stored
  pub stored_on : (v : List ℕ) → Went y K d v → (i : ℕ) (x : List ℕ) (c : Allocation) (valid len : ℕ) (t : Stamp)
      → Went y K d (stored y v (clusters_in y d a) i x c valid len t)
  unfolding stored
  stored_on v w i x c valid len t = entries_on v w _ _

  pub refreshed_on : (i : ℕ) (x : List ℕ) (t : Stamp) (hint : ℕ) → Went y K d (refreshed_only y d a i x t hint).volume
  unfolding refreshed_only carried
  refreshed_on i x t hint = stored_on d own_start i x (file_record y d x) (valid_length x) (data_length x) t

  -- a cluster of the heap off the map is no bitmap's
  plain_off_map : (k : ℕ) → in_heap y.count k ≡ true → in_map m k ≡ false → plain y k ≡ true
  unfolding plain
  plain_off_map k h e =
      and_both (in_heap y.count k) (not (is_bitmap_cluster y k)) h (ap not (not_so (is_bitmap_cluster y k) (λ b. false≢true (sym e ∙ r.mapped k b))))

  -- ---- a stream made longer, and bytes stored in it

  module _ (b : Allocation) (f : StreamOwn y P d m b) (n hint : ℕ) (hint_in : in_heap y.count hint ≡ true) (enough : n ≤ count (is_usable y d m) 2 y.count) where
    abbrev o : alloc.Outcome
    o = extend_in y d m b n hint

    abbrev js : List ℕ
    js = clusters_in y (extend_in y d m b n hint).volume (extend_in y d m b n hint).answer.allocation

    abbrev old_list : List ℕ
    old_list = clusters_of (stream_of y d b)

    took : Extended y d m o old_list n
    took = extend_done y d m r.fits b old_list (stream_is y d b f.reads) n hint hint_in enough

    pub longer_on : Went y K d (extend_in y d m b n hint).volume
    longer_on = extend_on y P K s d m d own_start r.usable b f.reads (λ k i. f.own k (unfold clusters_in in i)) n hint hint_in enough

    -- its clusters: those that it had, and then usable ones
    each_js : (Q : ℕ → Type 0) → ((k : ℕ) → Mem k (clusters_in y d b) → Q k) → ((k : ℕ) → in_heap y.count k ≡ true → is_usable y d m k ≡ true → Q k)
        → (k : ℕ) → Mem k js → Q k
    unfolding clusters_in
    each_js Q old new k i =
        ⊎_elim (old k)
        (λ q. new k (every_mem (in_heap y.count) took.new took.grows.fresh.heap k q) (every_mem (is_usable y d m) took.new took.grows.fresh.usable k q))
        (mem_append old_list (subst (Mem k) (ap clusters_of took.grows.reads) i))

    js_plain : every (plain y) js ≡ true
    js_plain =
        mem_every (plain y) js
        (each_js (λ k. plain y k ≡ true)
        (λ k i. plain_off_map k (every_mem (in_heap y.count) old_list (stream_read y d b f.reads).heap k (unfold clusters_in in i)) (f.off k i))
        (λ k h e. plain_off_map k h (usable_facts y d m k e).1))

    pub data_on : (v : List ℕ) → Went y K d v → (at : ℕ) (bs : List ℕ)
        → Went y K d (store_at y v (clusters_in y (extend_in y d m b n hint).volume (extend_in y d m b n hint).answer.allocation) at bs)
    data_on v w at bs = store_on y P K s d v w js js_plain (each_js P f.own r.usable) at bs
