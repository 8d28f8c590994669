-- The rows of T11 and T12, computed like the others; they open the definitions of entries and files too.
use mathlib.Core.Path.{◌≡◌, refl}
use mathlib.Core.Bool.{Bool, true}
use Rattle.primitives.specs.Bits.{bit_of, set_bit, clear_bit, put_bit, bit_at, count_bits}
use Rattle.primitives.specs.Checksum.{add_byte, checksum}
use Rattle.primitives.specs.Splice.{splice}
use Rattle.primitives.specs.Words.{get_le, put_le}
use Rattle.tables.specs.Count.{count}
use Rattle.tables.specs.Lists.{every, last_or, consec}
use Rattle.boot.specs.Causes.{first_cause, limits_cause, admit_cause, heap_cause, wrap, space_cause}
use Rattle.boot.specs.Geometry.{geometry_of, sector_size, cluster_size, bitmap_clusters}
use Rattle.boot.specs.Layout.{fat_start, cluster_start, bitmap_first, layout_of, cluster_at, in_run, in_heap, is_bitmap_cluster}
use Rattle.boot.specs.Limits.{shape_tests, room_tests, in_map, all_in_map, run_in_map, apart, second_bitmap, map_tests, limits}
use Rattle.metadata.specs.Cluster.{put_bytes}
use Rattle.metadata.specs.Fat.{fat_entry}
use Rattle.metadata.specs.Marks.{mark_byte, marked, put_byte, set_mark, allocated_count, free_count, mark_run}
use Rattle.metadata.specs.Usable.{is_free, is_usable}
use Rattle.stream.specs.Bytes.{cluster_bytes, bytes_of, store_at, bytes_in}
use Rattle.stream.specs.Chain.{next_of, chain_from, read_chain}
use Rattle.stream.specs.Stream.{number_of, run_cause, read_run, check_chain, read_stream, stream_of, system_cause, clusters_in}
use Rattle.entry_set.specs.Fields.{entry_type, secondary_count, set_checksum, is_directory, allocation_possible, no_fat_chain, name_length, valid_length, first_cluster, data_length, clusters_for, name_entries}
use Rattle.entry_set.specs.Put.{put_modified, put_accessed, put_stream, archived, sealed, refreshed}
use Rattle.entry_set.specs.Sound.{head_ok, stream_entry_ok, names_ok, lengths_ok, well_formed}
use Rattle.search.specs.Search.{all_from}
use Rattle.write_extend.specs.Extend.{more_cause, in_place, longer_run, longer, extend_in}
use Rattle.directory.specs.Directory.{chain_record, root_record, bitmap_cause, directory_cause}
use Rattle.directory.specs.Entries.{entry_count, type_at, before_end, is_file, entries_at, set_at, is_sound}
use Rattle.directory.specs.Open.{file_record, entry_cause, directory_attribute_cause, stream_cause, set_in, file_cause}
use Rattle.file.specs.Outcome.{carried}
use Rattle.file.specs.Refresh.{entries_of, recorded, stored, missing, length_cause, open_cause}
use Rattle.write_length.specs.SetLength.{set_length_cause, zero_end, longer_file, resized, set_length_in, set_length}
use Rattle.trials.specs.File.{earlier, given, trial_set, entries}
use Rattle.trials.specs.Table.{file700, after11, after12, T11, T12}
use Rattle.trials.specs.Trial.{Trial, result_of, same_list, same_file_answer, same_result, said, agrees}
use Rattle.trials.specs.Volume as volume
use Rattle.trials.specs.Volume.{geometry, system, link_at, trial_entry, word_bytes, fat_bytes, padded}

-- a trial with everything open that has to compute
unfoldable opened : Trial → Bool
unfolding bit_of set_bit clear_bit put_bit bit_at count_bits add_byte checksum splice get_le put_le count every last_or consec first_cause limits_cause admit_cause heap_cause geometry_of sector_size cluster_size bitmap_clusters fat_start cluster_start bitmap_first layout_of cluster_at in_run in_heap is_bitmap_cluster shape_tests room_tests in_map all_in_map run_in_map apart second_bitmap map_tests limits put_bytes fat_entry mark_byte marked put_byte set_mark allocated_count free_count is_free is_usable cluster_bytes bytes_of store_at next_of chain_from read_chain number_of run_cause read_run check_chain read_stream stream_of entry_type secondary_count set_checksum is_directory allocation_possible no_fat_chain name_length valid_length first_cluster data_length clusters_for name_entries put_modified put_accessed put_stream archived sealed refreshed head_ok stream_entry_ok names_ok lengths_ok well_formed all_from more_cause in_place longer_run longer extend_in wrap space_cause system_cause mark_run chain_record root_record bitmap_cause directory_cause clusters_in bytes_in entry_count type_at before_end is_file entries_at set_at is_sound file_record entry_cause directory_attribute_cause stream_cause set_in file_cause carried entries_of recorded stored missing length_cause open_cause set_length_cause zero_end longer_file resized set_length_in set_length earlier given trial_set entries file700 after11 after12 T11 T12 result_of same_list same_file_answer same_result said agrees geometry system link_at trial_entry word_bytes fat_bytes padded volume.trial_bytes
opened t = agrees t

pub row_T11 : agrees T11 ≡ true
unfolding opened
row_T11 = refl

pub row_T12 : agrees T12 ≡ true
unfolding opened
row_T12 = refl
