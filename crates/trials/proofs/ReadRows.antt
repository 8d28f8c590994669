-- Every read of the second table agrees with the definitions: computed row by row, the number and the part of each.
use mathlib.Core.Path.{◌≡◌, refl}
use mathlib.Core.Bool.{Bool, true}
use mathlib.Core.List.{List, [], ◌∷◌, map}
use Rattle.primitives.specs.Bits.{bit_of, bit_at}
use Rattle.primitives.specs.Checksum.{add_byte, checksum}
use Rattle.primitives.specs.Splice.{splice}
use Rattle.primitives.specs.Words.{get_le}
use Rattle.tables.specs.Lists.{every, last_or, consec}
use Rattle.boot.specs.Causes.{first_cause, limits_cause, admit_cause}
use Rattle.boot.specs.Geometry.{geometry_of, sector_size, cluster_size, bitmap_clusters}
use Rattle.boot.specs.Layout.{fat_start, cluster_start, bitmap_first, layout_of, cluster_at, in_run, in_heap, is_bitmap_cluster}
use Rattle.boot.specs.Limits.{shape_tests, room_tests, in_map, all_in_map, run_in_map, apart, second_bitmap, map_tests, limits}
use Rattle.metadata.specs.Fat.{fat_entry}
use Rattle.metadata.specs.Marks.{mark_byte, marked}
use Rattle.stream.specs.Bytes.{cluster_bytes, bytes_of, bytes_in}
use Rattle.stream.specs.Chain.{next_of, chain_from, read_chain}
use Rattle.stream.specs.Pieces.{following, leading}
use Rattle.stream.specs.Stream.{number_of, check_chain, read_stream, stream_of, system_cause, clusters_in}
use Rattle.entry_set.specs.Fields.{entry_type, secondary_count, set_checksum, is_directory, allocation_possible, no_fat_chain, name_length, valid_length, first_cluster, data_length, clusters_for, name_entries}
use Rattle.entry_set.specs.Sound.{head_ok, stream_entry_ok, names_ok, lengths_ok, well_formed}
use Rattle.search.specs.Search.{all_from}
use Rattle.directory.specs.Directory.{chain_record, root_record, bitmap_cause, directory_cause}
use Rattle.directory.specs.Entries.{entry_count, type_at, before_end, is_file, entries_at, set_at, is_sound}
use Rattle.directory.specs.Open.{file_record, entry_cause, directory_attribute_cause, stream_cause, set_in, file_cause}
use Rattle.read_file.specs.Part.{stored_part, zero_part, part_in}
use Rattle.read_file.specs.Read.{zero_cause, read_cause, file_part, read_in, read_number, read_part}
use Rattle.trials.specs.File.{earlier, trial_set}
use Rattle.trials.specs.ReadTable.{Read, chained, said_of, wanted_of, same_part, same_read, read_agrees, all_reads_agree, hundred, spoiled, R1, R2, R3, R4, R5, R6, R7, R8, R9, reads}
use Rattle.trials.specs.Trial.{same_flag}
use Rattle.trials.specs.Volume.{geometry, system, link_at, trial_entry, word_bytes, fat_bytes, padded, trial_bytes, linked}
use Rattle.trials.proofs.Same.{all_reads_same}

-- a read with everything open that has to compute
unfoldable opened : Read → Bool
unfolding bit_of bit_at add_byte checksum splice get_le every last_or consec first_cause limits_cause admit_cause geometry_of sector_size cluster_size bitmap_clusters fat_start cluster_start bitmap_first layout_of cluster_at in_run in_heap is_bitmap_cluster shape_tests room_tests in_map all_in_map run_in_map apart second_bitmap map_tests limits fat_entry mark_byte marked cluster_bytes bytes_of bytes_in next_of chain_from read_chain following leading number_of check_chain read_stream stream_of system_cause clusters_in entry_type secondary_count set_checksum is_directory allocation_possible no_fat_chain name_length valid_length first_cluster data_length clusters_for name_entries head_ok stream_entry_ok names_ok lengths_ok well_formed all_from chain_record root_record bitmap_cause directory_cause entry_count type_at before_end is_file entries_at set_at is_sound file_record entry_cause directory_attribute_cause stream_cause set_in file_cause stored_part zero_part part_in zero_cause read_cause file_part read_in read_number read_part earlier trial_set chained said_of same_part same_read read_agrees hundred spoiled R1 R2 R3 R4 R5 R6 R7 R8 R9 same_flag geometry system link_at trial_entry word_bytes fat_bytes padded trial_bytes linked
opened r = read_agrees r

row_R1 : read_agrees R1 ≡ true
unfolding opened
row_R1 = refl

row_R2 : read_agrees R2 ≡ true
unfolding opened
row_R2 = refl

row_R3 : read_agrees R3 ≡ true
unfolding opened
row_R3 = refl

row_R4 : read_agrees R4 ≡ true
unfolding opened
row_R4 = refl

row_R5 : read_agrees R5 ≡ true
unfolding opened
row_R5 = refl

row_R6 : read_agrees R6 ≡ true
unfolding opened
row_R6 = refl

row_R7 : read_agrees R7 ≡ true
unfolding opened
row_R7 = refl

row_R8 : read_agrees R8 ≡ true
unfolding opened
row_R8 = refl

row_R9 : read_agrees R9 ≡ true
unfolding opened
row_R9 = refl

-- one row before others
more : (r : Read) (rs : List Read) → read_agrees r ≡ true → all_reads_agree rs ≡ true → all_reads_agree (r ∷ rs) ≡ true
unfolding all_reads_agree
more r rs e f = rw e f

-- no rows
none : all_reads_agree [] ≡ true
unfolding all_reads_agree
none = refl

-- the test of the whole table is passed
pub reads_agree : all_reads_agree reads ≡ true
unfolding reads
reads_agree =
    more R1 _ row_R1
    (more R2 _ row_R2
    (more R3 _ row_R3
    (more R4 _ row_R4
    (more R5 _ row_R5
    (more R6 _ row_R6
    (more R7 _ row_R7
    (more R8 _ row_R8
    (more R9 _ row_R9
    none))))))))

-- R1 to R9: what the definitions say is what is expected, row by row of the table
pub reads_hold : map said_of reads ≡ map wanted_of reads
reads_hold = all_reads_same reads reads_agree
