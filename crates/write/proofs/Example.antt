-- The example volume is consistent, by computation.
use mathlib.Core.Path.{◌≡◌, refl, sym, subst}
use mathlib.Core.Bool.{true}
use mathlib.Core.List.{[], List, ◌∷◌, ◌++◌, map}
use mathlib.Core.Option.{none, some}
use Prim.Native.Nat.{ℕ, ◌*◌}
use native.Mathlib.Omega.{arith}
use lib.ListN.{length, get_or, replicate}
use Rattle.primitives.specs.Bits.{bit_of, bit_at}
use Rattle.primitives.specs.Checksum.{add_byte, checksum}
use Rattle.primitives.specs.Splice.{splice}
use Rattle.primitives.specs.Words.{get_le}
use Rattle.tables.specs.Lists.{every, last_or, consec}
use Rattle.boot.specs.Causes.{first_cause}
use Rattle.boot.specs.Geometry.{geometry_of, sector_size, cluster_size, bitmap_clusters}
use Rattle.boot.specs.Layout.{fat_start, cluster_start, bitmap_first, layout_of, cluster_at, in_run, in_heap, is_bitmap_cluster}
use Rattle.boot.specs.Limits.{shape_tests, room_tests, in_map, all_in_map, run_in_map, apart, second_bitmap, map_tests, limits}
use Rattle.metadata.specs.Fat.{fat_entry}
use Rattle.metadata.specs.Marks.{mark_byte, marked}
use Rattle.stream.specs.Bytes.{cluster_bytes, bytes_of, bytes_in}
use Rattle.stream.specs.Chain.{next_of, chain_from, read_chain}
use Rattle.stream.specs.Stream.{number_of, run_cause, read_run, check_chain, read_stream, stream_of, system_cause, clusters_in}
use Rattle.entry_set.specs.Fields.{entry_type, secondary_count, set_checksum, is_directory, allocation_possible, no_fat_chain, name_length, valid_length, first_cluster, data_length, clusters_for, name_entries}
use Rattle.entry_set.specs.Sound.{head_ok, stream_entry_ok, names_ok, lengths_ok, well_formed}
use Rattle.search.specs.Search.{all_from}
use Rattle.directory.specs.Directory.{chain_record, root_record, bitmap_cause, directory_cause}
use Rattle.directory.specs.Entries.{entry_count, type_at, in_use, before_end, is_file, entries_at, set_at, is_sound}
use Rattle.directory.specs.Open.{file_record, stream_cause, shown}
use Rattle.write.specs.Consistent.{Consistent, lay, root, root_clusters, root_bytes, set_of, stream_at}
use Rattle.write.specs.Contents.{has_file, contents}
use Rattle.write.specs.Demand.{Lost}
use Rattle.write.specs.Example.{example_geometry, example_map, word, filled, example_set, example_root, example_fat, example_marks, example_contents, example_volume}
use Rattle.write.proofs.ExampleTests.{implies, owns, slot_test, pair_test, Passed, passed_lost, passed_consistent}

-- whose the clusters 0 to 10 are: slots 3, 6 and 12 have files, 16 stands for the root, 17 for none
unfoldable owners : List ℕ
owners = 0 ∷ 0 ∷ 0 ∷ 16 ∷ 3 ∷ 12 ∷ 3 ∷ 0 ∷ 6 ∷ 6 ∷ 17 ∷ []

-- the volume with everything open that has to compute
unfoldable opened : List ℕ
unfolding bit_of bit_at add_byte checksum splice get_le every last_or consec first_cause geometry_of sector_size cluster_size bitmap_clusters fat_start cluster_start bitmap_first layout_of cluster_at in_run in_heap is_bitmap_cluster shape_tests room_tests in_map all_in_map run_in_map apart second_bitmap map_tests limits fat_entry mark_byte marked cluster_bytes bytes_of next_of chain_from read_chain number_of run_cause read_run check_chain read_stream stream_of entry_type secondary_count set_checksum is_directory allocation_possible no_fat_chain name_length valid_length first_cluster data_length clusters_for name_entries head_ok stream_entry_ok names_ok lengths_ok well_formed all_from system_cause chain_record root_record bitmap_cause directory_cause clusters_in bytes_in entry_count type_at in_use before_end is_file entries_at set_at is_sound file_record stream_cause lay root root_clusters root_bytes set_of stream_at shown has_file contents example_geometry example_map word filled example_set example_root example_fat example_marks example_contents example_volume implies owns slot_test pair_test owners
opened = example_volume

root_bytes_are : root_bytes example_geometry example_volume ≡ example_root
unfolding opened
root_bytes_are = refl

limits_hold : limits example_geometry (length example_volume) example_map ≡ true
unfolding opened
limits_hold = refl

root_reads : directory_cause (lay example_geometry example_volume) example_volume (root example_geometry example_volume) ≡ 0
unfolding opened
root_reads = refl

root_owned : every (owns owners 16) (root_clusters example_geometry example_volume) ≡ true
unfolding opened
root_owned = refl

whole : length example_root ≡ 32 * 16
unfolding opened
whole = refl

slots : all_from (slot_test example_geometry example_map example_volume example_root owners) 0 16 ≡ true
unfolding opened
slots = refl

pairs : all_from (λ i. all_from (pair_test example_root i) 0 16) 0 16 ≡ true
unfolding opened
pairs = refl

passed : Passed example_geometry example_map example_volume (root_bytes example_geometry example_volume) owners 16
passed =
    subst (λ bs. Passed example_geometry example_map example_volume bs owners 16) (sym root_bytes_are)
    (record {
      limits_hold = limits_hold;
      root_reads = root_reads;
      root_owned = root_owned;
      whole = whole;
      slots = slots;
      pairs = pairs;
    })

-- the example is consistent
pub example_consistent : Consistent example_geometry example_map example_volume
example_consistent = passed_consistent example_geometry example_map example_volume owners 16 passed

-- cluster 10 is marked and of no stream
ten_heap : in_heap (lay example_geometry example_volume).count 10 ≡ true
unfolding opened
ten_heap = refl

ten_marked : marked (lay example_geometry example_volume) example_volume 10 ≡ true
unfolding opened
ten_marked = refl

ten_owner : get_or owners 10 0 ≡ 17
unfolding owners
ten_owner = refl

pub example_lost : Lost example_geometry example_volume 10
example_lost = passed_lost example_geometry example_map example_volume owners 16 passed 10 ten_heap ten_marked (omega (arith, ten_owner))

-- and its files are there: the chain's with zeros from valid on, the run's, the empty one; at slot 12 stands the directory
pub example_contents_lem : map (contents example_geometry example_volume) (3 ∷ 6 ∷ 9 ∷ 12 ∷ [])
    ≡ some (replicate 512 0xA4 ++ replicate 88 0xA6 ++ replicate 100 0) ∷ some (replicate 1024 0xA8) ∷ some [] ∷ none ∷ []
unfolding opened
example_contents_lem = refl
