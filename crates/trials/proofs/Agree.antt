-- Every trial of the table agrees with the definitions: computed row by row, over all 24,576 bytes of the volume after each call.
use mathlib.Core.Path.{◌≡◌, refl}
use mathlib.Core.Bool.{Bool, true}
use mathlib.Core.List.{List, [], ◌∷◌, map}
use Rattle.primitives.specs.Bits.{bit_of, set_bit, clear_bit, put_bit, bit_at, count_bits}
use Rattle.primitives.specs.Splice.{splice}
use Rattle.primitives.specs.Words.{get_le, put_le}
use Rattle.tables.specs.Count.{count, keep}
use Rattle.tables.specs.Lists.{every, last_or, consec, rising_from, rising}
use Rattle.boot.specs.Causes.{first_cause, limits_cause, admit_cause, heap_cause, wrap, space_cause}
use Rattle.boot.specs.Geometry.{geometry_of, sector_size, cluster_size, bitmap_clusters}
use Rattle.boot.specs.Layout.{fat_start, cluster_start, bitmap_first, layout_of, in_run, in_heap}
use Rattle.boot.specs.Limits.{shape_tests, room_tests, in_map, all_in_map, run_in_map, apart, second_bitmap, map_tests, limits}
use Rattle.metadata.specs.Fat.{fat_entry, set_fat}
use Rattle.metadata.specs.Marks.{mark_byte, marked, put_byte, set_mark, allocated_count, free_count, mark_run}
use Rattle.metadata.specs.Usable.{is_free, is_usable}
use Rattle.stream.specs.Chain.{next_of, chain_from, read_chain}
use Rattle.stream.specs.Listing.{room_cause, listed_number, listed_list, listing_number, listing_list}
use Rattle.stream.specs.Stream.{number_of, run_cause, read_run, check_chain, read_stream, stream_of, system_cause}
use Rattle.write_alloc.specs.Allocate.{near_cause, allocate_cause, new_run, new_chain, new_stream, allocate_in, allocate_clusters}
use Rattle.search.specs.Search.{all_from, first_run, run_from}
use Rattle.choice.specs.Choice.{choose, around, chosen}
use Rattle.write_extend.specs.Extend.{more_cause, in_place, longer_run, link_old, longer_chain, longer, extend_in, extend_clusters}
use Rattle.write_shrink.specs.Shrink.{free_all, kept_record, end_kept, shrink_cause, cut, shrink_in, shrink_clusters}
use Rattle.write_alloc.specs.Take.{link_run, take_single, take_each}
use Rattle.trials.specs.Table.{new, bad6, page, list6, after6, file, after8, after9, loop, old, eight, T1, T2, T3, T4, T5, T6, T6_list, T7, T8, T8_list, T9, T10_list, T10_extend, T10_shrink, T11, T12, old_entries, eight_list, eight_extend, eight_shrink, trials}
use Rattle.trials.specs.Trial.{Trial, wanted, result_of, same_flag, same_list, same_record, same_answer, same_result, said, agrees, all_agree}
use Rattle.trials.specs.Volume.{geometry, system, link_at, trial_entry, word_bytes, fat_bytes, padded, trial_bytes, linked}
use Rattle.trials.proofs.Same.{all_same}
use Rattle.trials.proofs.FileRows.{row_T11, row_T12}

-- a trial with everything open that has to compute
unfoldable opened : Trial → Bool
unfolding bit_of set_bit clear_bit put_bit bit_at count_bits splice get_le put_le count keep every last_or consec first_cause limits_cause admit_cause heap_cause geometry_of sector_size cluster_size bitmap_clusters fat_start cluster_start bitmap_first layout_of in_run in_heap shape_tests room_tests in_map all_in_map run_in_map apart second_bitmap map_tests limits fat_entry set_fat mark_byte marked put_byte set_mark allocated_count free_count is_free is_usable next_of chain_from read_chain room_cause listed_number listed_list listing_number listing_list number_of run_cause read_run check_chain read_stream stream_of near_cause allocate_cause new_run new_chain new_stream allocate_in allocate_clusters all_from first_run run_from choose around chosen more_cause in_place longer_run link_old longer_chain longer extend_in extend_clusters wrap space_cause system_cause free_all rising_from rising kept_record end_kept shrink_cause cut shrink_in shrink_clusters mark_run link_run take_single take_each new bad6 page list6 after6 file after8 after9 loop old eight T1 T2 T3 T4 T5 T6 T6_list T7 T8 T8_list T9 T10_list T10_extend T10_shrink old_entries eight_list eight_extend eight_shrink result_of same_flag same_list same_record same_answer same_result said agrees geometry system link_at trial_entry word_bytes fat_bytes padded trial_bytes linked
opened t = agrees t

row_T1 : agrees T1 ≡ true
unfolding opened
row_T1 = refl

row_T2 : agrees T2 ≡ true
unfolding opened
row_T2 = refl

row_T3 : agrees T3 ≡ true
unfolding opened
row_T3 = refl

row_T4 : agrees T4 ≡ true
unfolding opened
row_T4 = refl

row_T5 : agrees T5 ≡ true
unfolding opened
row_T5 = refl

row_T6 : agrees T6 ≡ true
unfolding opened
row_T6 = refl

row_T6_list : agrees T6_list ≡ true
unfolding opened
row_T6_list = refl

row_T7 : agrees T7 ≡ true
unfolding opened
row_T7 = refl

row_T8 : agrees T8 ≡ true
unfolding opened
row_T8 = refl

row_T8_list : agrees T8_list ≡ true
unfolding opened
row_T8_list = refl

row_T9 : agrees T9 ≡ true
unfolding opened
row_T9 = refl

row_T10_list : agrees T10_list ≡ true
unfolding opened
row_T10_list = refl

row_T10_extend : agrees T10_extend ≡ true
unfolding opened
row_T10_extend = refl

row_T10_shrink : agrees T10_shrink ≡ true
unfolding opened
row_T10_shrink = refl

row_old_entries : agrees old_entries ≡ true
unfolding opened
row_old_entries = refl

row_eight_list : agrees eight_list ≡ true
unfolding opened
row_eight_list = refl

row_eight_extend : agrees eight_extend ≡ true
unfolding opened
row_eight_extend = refl

row_eight_shrink : agrees eight_shrink ≡ true
unfolding opened
row_eight_shrink = refl

-- one row before others
more : (t : Trial) (ts : List Trial) → agrees t ≡ true → all_agree ts ≡ true → all_agree (t ∷ ts) ≡ true
unfolding all_agree
more t ts e f = rw e f

-- no rows
none : all_agree [] ≡ true
unfolding all_agree
none = refl

-- the test of the whole table is passed
pub trials_agree : all_agree trials ≡ true
unfolding trials
trials_agree =
    more T1 _ row_T1
    (more T2 _ row_T2
    (more T3 _ row_T3
    (more T4 _ row_T4
    (more T5 _ row_T5
    (more T6 _ row_T6
    (more T6_list _ row_T6_list
    (more T7 _ row_T7
    (more T8 _ row_T8
    (more T8_list _ row_T8_list
    (more T9 _ row_T9
    (more T10_list _ row_T10_list
    (more T10_extend _ row_T10_extend
    (more T10_shrink _ row_T10_shrink
    (more T11 _ row_T11
    (more T12 _ row_T12
    (more old_entries _ row_old_entries
    (more eight_list _ row_eight_list
    (more eight_extend _ row_eight_extend
    (more eight_shrink _ row_eight_shrink
    none)))))))))))))))))))

-- T1 to T12: what the definitions say is what is expected, row by row of the table
pub trials_hold : map said trials ≡ map wanted trials
trials_hold = all_same trials trials_agree
