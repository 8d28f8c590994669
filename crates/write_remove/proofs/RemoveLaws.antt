-- What remove answers and leaves. Assumes nothing.
use mathlib.Core.Path.{◌≡◌, refl, sym, ◌∙◌, ap, ap₂}
use mathlib.Core.Bool.{true}
use mathlib.Core.List.{List}
use Prim.Native.Nat.{ℕ, ◌*◌, ◌≤◌}
use native.Mathlib.Omega.{arith}
use lib.ListN.{length, take}
use borrow.Author.Tests.{ne_eqb}
use Rattle.boot.specs.declared.geometry.Geometry.{Geometry}
use Rattle.boot.specs.declared.layout.Layout.{Layout}
use Rattle.boot.specs.Geometry.{root_cluster}
use Rattle.tables.specs.Lists.{every}
use Rattle.boot.specs.Layout.{in_heap}
use Rattle.metadata.specs.Fat.{fat_entry}
use Rattle.boot.specs.Causes.{admit_cause}
use Rattle.boot.proofs.Admission.{Admits}
use Rattle.stream.specs.declared.allocation.Allocation.{Allocation}
use Rattle.stream.specs.Bytes.{store_at}
use Rattle.entry_set.specs.Put.{cleared}
use Rattle.write_shrink.specs.Shrink.{shrink_in}
use Rattle.directory.specs.Directory.{root_record}
use Rattle.stream.specs.Stream.{number_of, stream_of, clusters_in}
use Rattle.stream.specs.Internal.{along}
use Rattle.stream.proofs.ListingLaws.{along_heap}
use Rattle.stream.proofs.BytesSteps.{every_before}
use Rattle.stream.proofs.BytesLaws.{take_short}
use Rattle.write_shrink.proofs.Cutting.{cut_volume, shrink_cut}
use Rattle.directory.proofs.DirectoryLaws.{clusters_length}
use Rattle.file.specs.Outcome.{refuse, carried}
use Rattle.directory.specs.Open.{file_record, set_in}
use Rattle.directory.specs.declared.spot.Spot.{Spot}
use Rattle.directory.specs.Internal.{OpenedFile, spot_clusters}
use Rattle.directory.proofs.SpotLaws.{spot_store}
use Rattle.file.specs.Refresh.{entries_of, open_cause}
use Rattle.file.specs.Internal.{Opens}
use Rattle.file.proofs.OpenLaws.{open_stands, opens_none, same_reads, same_system, shown_as, carried-shown}
use Rattle.write_remove.specs.Remove.{unlinked, remove_in, remove}

module _ (y : Layout) (d m : List ℕ) (a : Allocation) (slot hint : ℕ) where
  pub remove_refused : (n : ℕ) → n ≡ open_cause y d m a slot hint → (n ≡ 0 → ⊥) → remove_in y d m a slot hint ≡ refuse n hint d
  unfolding remove_in
  remove_refused n e z = rw (← e, ne_eqb n 0 z) refl

  module _ (none : open_cause y d m a slot hint ≡ 0) where
    -- the volume that it leaves
    abbrev left : List ℕ
    left = (shrink_in y (unlinked y d (clusters_in y d a) slot (set_in y d a slot)) m (file_record y d (set_in y d a slot)) 0 hint).volume

    removed : remove_in y d m a slot hint ≡ carried 0 hint left
    unfolding remove_in
    removed = rw none refl

    pub remove-done : (s : List ℕ) (b : Allocation) (e e' : List ℕ) → s ≡ set_in y d a slot → b ≡ file_record y d (set_in y d a slot)
        → e ≡ unlinked y d (clusters_in y d a) slot s → e' ≡ (shrink_in y e m b 0 hint).volume
        → (record { number = 0; slot = 0; hint = hint } ≡ (remove_in y d m a slot hint).answer) × (e' ≡ (remove_in y d m a slot hint).volume)
    remove-done s b e e' es eb p q =
        let z : e ≡ unlinked y d (clusters_in y d a) slot (set_in y d a slot) = p ∙ ap (unlinked y d (clusters_in y d a) slot) es in
        shown_as removed (carried-shown 0 hint left e' (q ∙ ap₂ (λ (u : List ℕ) (x : Allocation). (shrink_in y u m x 0 hint).volume) z eb))

-- the set of a file that opens, stored at its spot with its entries cleared
module _ (y : Layout) (d m : List ℕ) (a : Allocation) (slot : ℕ) (s : List ℕ) (f : OpenedFile) (hint : ℕ) (o : Opens y d m a slot s f hint) (e : List ℕ)
    (r : e ≡ store_at y d (spot_clusters f.spot) f.spot.at (take (32 * entries_of s) (cleared s (entries_of s)))) where
  abbrev bs : List ℕ
  bs = take (32 * entries_of s) (cleared s (entries_of s))

  pub unlinked_spot : e ≡ store_at y d (clusters_in y d a) (32 * slot) (take (32 * entries_of s) (cleared s (entries_of s)))
  unlinked_spot =
      let h = open_stands y d m a slot s f hint o in
      let c = clusters_length y d a h.reads in
      let k : length bs ≤ 32 * entries_of s = take_short (32 * entries_of s) (cleared s (entries_of s)) in
      r ∙ ap (λ (x : Spot). store_at y d (spot_clusters x) x.at bs) o.spot
      ∙ spot_store y d a slot o.laid d bs (omega (arith, h.few)) (omega (arith, h.room, ap (λ (x : ℕ). x * y.size) c))

  abbrev b : Allocation
  b = f.stream

  -- its stream still reads, from the same clusters
  pub unlinked-reads : number_of (stream_of y e f.stream) ≡ 0
  unlinked-reads = same_reads y d m a slot s f hint o (32 * slot) bs e unlinked_spot

  pub unlinked_heap : (keep : ℕ) → keep ≤ f.stream.count
      → every (in_heap y.count) (along (fat_entry y e) f.stream.no_fat_chain f.stream.first keep) ≡ true
  unlinked_heap keep h = every_before (fat_entry y e) b.no_fat_chain (in_heap y.count) keep b.first b.count h (along_heap y e b unlinked-reads)

  -- the volume after that and the cut
  pub unlinked-cut : (e' : List ℕ) → e' ≡ cut_volume y e f.stream 0
      → (record { number = 0; slot = 0; hint = hint } ≡ (remove_in y d m a slot hint).answer) × (e' ≡ (remove_in y d m a slot hint).volume)
  unlinked-cut e' q =
      remove-done y d m a slot hint (opens_none y d m a slot s f hint o) s f.stream e e' o.set (o.stream ∙ ap (file_record y d) o.set) (unfold unlinked in unlinked_spot)
      (q ∙ sym (shrink_cut y e m f.stream 0 hint o.hint_in (λ z. absurd (omega arith)) unlinked-reads (same_system y d m a slot s f hint o (32 * slot) bs e unlinked_spot 0)))

module _ (g : Geometry) (d m : List ℕ) (slot hint : ℕ) where
  pub remove_is : (y : Layout) → Admits g d m y → remove g d m slot hint ≡ remove_in y d m (root_record y d (root_cluster g)) slot hint
  unfolding remove
  remove_is y w = rw (w.cause, w.is) refl

  pub remove-not-admitted : (k : ℕ) → k ≡ admit_cause g d m → (k ≡ 0 → ⊥) → remove g d m slot hint ≡ refuse k hint d
  unfolding remove
  remove-not-admitted k e z = rw (← e, ne_eqb k 0 z) refl
