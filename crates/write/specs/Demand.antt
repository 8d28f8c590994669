-- What holds over every list of calls on a consistent volume (demand 3), as one record.
use Rattle.std.specs.Prelude.{◌≡◌, ◌≢◌, ◌↔◌, true, false, cond, List, [], ◌∷◌, ◌++◌, ℕ, ◌+◌, ◌*◌, ◌≤◌, ◌<◌, min, max, eqb, ltb, length, get_or, take}
use Rattle.std.proofs.Math.Option.{Option, none, some}
use Rattle.primitives.specs.Splice.{splice}
use Rattle.tables.specs.Lists.{Mem, last_or}
use Rattle.boot.specs.declared.geometry.Geometry.{Geometry}
use Rattle.boot.specs.Geometry.{bitmap_bytes}
use Rattle.boot.specs.Layout.{in_heap, is_bitmap_cluster}
use Rattle.boot.specs.Causes.{first_cause, wrap, space_cause}
use Rattle.metadata.specs.Marks.{marked, allocated_count}
use Rattle.metadata.specs.Usable.{is_usable}
use Rattle.kept.specs.Outer.{Outer}
use Rattle.kept.specs.Copies.{fat0_at, fat1_at, bitmap0_at, bitmap1_at, Twins}
use Rattle.kept.specs.Kept.{RestKept, Intact}
use Rattle.stream.specs.Bytes.{cluster_bytes}
use Rattle.entry_set.specs.Fields.{valid_length, data_length, clusters_for}
use Rattle.entry_set.specs.New.{new_entries, new_set}
use Rattle.entry_set.specs.Put.{cleared}
use Rattle.write_extend.specs.Extend.{extend_in}
use Rattle.write_shrink.specs.Shrink.{kept_record}
use Rattle.directory.specs.Room as room
use Rattle.read_file.specs.Read.{zero_cause}
use Rattle.read_file.specs.ReadBack.{read_file}
use Rattle.file.specs.Outcome.{Outcome, refuse}
use Rattle.file.specs.Refresh.{entries_of, recorded, missing}
use Rattle.write.specs.Calls.{Call, New, Write, SetLength, Remove, step, run, answers}
use Rattle.write.specs.Consistent.{Consistent, lay, root_clusters, root_bytes, file_at, set_of, stream_at, file_clusters, file_bytes}
use Rattle.write.specs.Contents.{contents}
use Rattle.write.specs.Model.{finds, model}
use Rattle.write.specs.Space.{clusters_taken, usable, must_add, other_cause}

-- the slot that a call is about: a new file's is its answer
unfoldable pub call_slot : Call → ℕ → ℕ
call_slot (New name attributes hash t hint) slot = slot
call_slot (Write i offset bs t hint) slot = i
call_slot (SetLength i len t hint) slot = i
call_slot (Remove i hint) slot = i

-- the hint that a call carries
unfoldable pub hint_of : Call → ℕ
hint_of (New name attributes hash t hint) = hint
hint_of (Write i offset bs t hint) = hint
hint_of (SetLength i len t hint) = hint
hint_of (Remove i hint) = hint

-- the set that an accepted call leaves at its slot, none where it removes it
unfoldable pub set_after : Geometry → List ℕ → List ℕ → Call → Option (List ℕ)
set_after g m d (New name attributes hash t hint) = some (new_set name attributes hash t)
set_after g m d (Write i offset bs t hint) =
    let s = set_of g d i in
    let b = stream_at g d i in
    let len = max (data_length s) (offset + length bs) in
    cond (eqb (length bs) 0) (some (recorded s b (valid_length s) (data_length s) t))
    (some (recorded s (extend_in (lay g d) d m b (missing (lay g d) b len) hint).answer.allocation (max (valid_length s) (offset + length bs)) len t))
set_after g m d (SetLength i len t hint) =
    let s = set_of g d i in
    let b = stream_at g d i in
    cond (ltb len (data_length s))
    (some
    (recorded s (kept_record b (take (clusters_for (lay g d).size len) (file_clusters g d i))) (min (valid_length s) len) len t))
    (some (recorded s (extend_in (lay g d) d m b (missing (lay g d) b len) hint).answer.allocation (valid_length s) len t))
set_after g m d (Remove i hint) = none

-- the set at slot i, none where it has no file entry
unfoldable pub entries_at_slot : Geometry → List ℕ → ℕ → Option (List ℕ)
entries_at_slot g d i = cond (file_at g d i) (some (set_of g d i)) none

-- the bytes that an accepted call stores at its slot: the entries of the set that it leaves; where it leaves none, those of the old
-- set with bit 0x80 of each entry cleared and every other byte kept (01, "Remove")
unfoldable pub entries_put : List ℕ → Option (List ℕ) → List ℕ
entries_put old (some s) = take (32 * entries_of s) s
entries_put old none = take (32 * entries_of old) (cleared old (entries_of old))

-- the zeroed clusters that an accepted call adds to the root: a new file what it must add, the others none
unfoldable pub root_adds : Geometry → List ℕ → Call → ℕ
root_adds g d (New name attributes hash t hint) = must_add g d (New name attributes hash t hint)
root_adds g d (Write i offset bs t hint) = 0
root_adds g d (SetLength i len t hint) = 0
root_adds g d (Remove i hint) = 0

-- the root's bytes with these clusters
unfoldable pub root_grown : Geometry → List ℕ → Call → List ℕ
root_grown g d c = room.with_zeros (root_bytes g d) (root_adds g d c * (lay g d).size)

-- the slot that an accepted call answers: a new file's the lowest sequence of enough entries with type bit 0x80 clear; else 0
unfoldable pub slot_answered : Geometry → List ℕ → Call → ℕ
slot_answered g d (New name attributes hash t hint) =
    room.slot_of (room.free_run (root_grown g d (New name attributes hash t hint)) (new_entries (length name)))
slot_answered g d (Write i offset bs t hint) = 0
slot_answered g d (SetLength i len t hint) = 0
slot_answered g d (Remove i hint) = 0

-- the clusters of the stream that a call adds to, on volume d: a new file the root's, write and set length those of the file at the slot
unfoldable pub clusters_grown : Geometry → List ℕ → Call → List ℕ
clusters_grown g d (New name attributes hash t hint) = root_clusters g d
clusters_grown g d (Write i offset bs t hint) = file_clusters g d i
clusters_grown g d (SetLength i len t hint) = file_clusters g d i
clusters_grown g d (Remove i hint) = []

-- the hint that an accepted call from d to d' answers: as given where it must add no cluster, else the cluster after the last one of the
-- stream that grew, 2 after cluster C+1
unfoldable pub hint_answered : (g : Geometry) (d d' : List ℕ) (c : Call) → ℕ
hint_answered g d d' c = cond (eqb (must_add g d c) 0) (hint_of c) (wrap (lay g d).count (last_or 0 (clusters_grown g d' c) + 1))

-- cluster k is none that a call at slot i may change: not usable, and neither the root's nor of the slot's stream
pub record Foreign (g : Geometry) (m d : List ℕ) (i k : ℕ) : Type 0 where
  pub heap : in_heap (lay g d).count k ≡ true
  pub not_usable : is_usable (lay g d) d m k ≡ false
  pub not_root : Mem k (root_clusters g d) → ⊥
  pub not_file : file_at g d i ≡ true → Mem k (file_clusters g d i) → ⊥

-- cluster k is marked and of no stream: neither the root's nor that of an in-use 0x85 entry, directories counted too
pub record Lost (g : Geometry) (d : List ℕ) (k : ℕ) : Type 0 where
  pub heap : in_heap (lay g d).count k ≡ true
  pub mark : marked (lay g d) d k ≡ true
  pub off_root : Mem k (root_clusters g d) → ⊥
  pub off_files : (i : ℕ) → file_at g d i ≡ true → Mem k (file_clusters g d i) → ⊥

-- outcome o is that of call c on the consistent volume d
pub record Done (g : Geometry) (m d : List ℕ) (c : Call) (o : Outcome) : Type 0 where
  -- its number is the first cause that the call meets: the others in their order, then 7 where it must add more clusters than are
  -- usable; else 0
  pub number : o.answer.number ≡ first_cause (other_cause g m d c ∷ space_cause (must_add g d c) (usable g m d) ∷ [])
  -- refused, it has the number, slot 0, the hint as given and every byte as it was ("here nothing is written")
  pub refused_same : o.answer.number ≢ 0 → o ≡ refuse o.answer.number (hint_of c) d
  -- the volume is as long as before
  pub same_length : length o.volume ≡ length d
  -- accepted, it answers the slot of the definitions ..
  pub slot_defined : o.answer.number ≡ 0 → o.answer.slot ≡ slot_answered g d c
  -- .. and the hint ..
  pub hint_defined : o.answer.number ≡ 0 → o.answer.hint ≡ hint_answered g d o.volume c
  -- .. and leaves at its slot the set of the definitions
  pub entries_defined : o.answer.number ≡ 0 → entries_at_slot g o.volume (call_slot c o.answer.slot) ≡ set_after g m d c
  -- the root has the bytes that it had, then the zeros that it got, with the call's own entries stored at its slot: labels, bitmap and
  -- up-case entries and other files' names, attributes and stamps are as they were
  pub root_bytes_are : o.answer.number ≡ 0
      → root_bytes g o.volume
      ≡ splice (root_grown g d c) (32 * call_slot c o.answer.slot) (entries_put (set_of g d (call_slot c o.answer.slot)) (set_after g m d c))
  -- .. in the clusters that it had, and then those that it got
  pub root_clusters_are : o.answer.number ≡ 0 → take (length (root_clusters g d)) (root_clusters g o.volume) ≡ root_clusters g d
  -- every other slot has the set that it had, and none where it had none ..
  pub others_set : (j : ℕ) → j ≢ call_slot c o.answer.slot → entries_at_slot g o.volume j ≡ entries_at_slot g d j
  -- .. and its stream, a directory's too, the clusters ..
  pub others_clusters : (j : ℕ) → j ≢ call_slot c o.answer.slot → file_at g d j ≡ true → file_clusters g o.volume j ≡ file_clusters g d j
  -- .. and the bytes that it had
  pub others_bytes : (j : ℕ) → j ≢ call_slot c o.answer.slot → file_at g d j ≡ true → file_bytes g o.volume j ≡ file_bytes g d j
  -- no byte of no cluster changes: boot sectors, FAT entries 0 and 1, what follows the last entry, what lies behind the heap
  pub outer_kept : (p : ℕ) → Outer (lay g d) p → get_or o.volume p 0 ≡ get_or d p 0
  -- nor does a bit past C "in the bitmap that is read"
  pub bits_kept : (k : ℕ) → (lay g d).count + 2 ≤ k → k < 8 * bitmap_bytes (lay g d).count + 2
      → marked (lay g d) o.volume k ≡ marked (lay g d) d k
  -- nor a byte of a bitmap's clusters behind the bitmap
  pub bitmap_rest_kept : RestKept (lay g d) d o.volume
  -- nor anything of a cluster that was not usable and is neither the root's nor of the stream at the call's slot
  pub foreign_kept : (k : ℕ) → Foreign g m d (call_slot c o.answer.slot) k → Intact (lay g d) d o.volume k
  -- of two FATs, a cluster's entry is as it was in both or alike in both ("FAT stores go to every FAT") ..
  pub fats_alike : (lay g d).two ≡ true → (k : ℕ) → in_heap (lay g d).count k ≡ true
      → Twins (fat0_at (lay g d) d k) (fat1_at (lay g d) d k) (fat0_at (lay g d) o.volume k) (fat1_at (lay g d) o.volume k)
  -- .. and so is each byte of two bitmaps ("its changed byte is written to every bitmap", "another bitmap takes the whole byte")
  pub bitmaps_alike : (lay g d).two ≡ true → (i : ℕ) → i < bitmap_bytes (lay g d).count
      → Twins (bitmap0_at (lay g d) d i) (bitmap1_at (lay g d) d i) (bitmap0_at (lay g d) o.volume i) (bitmap1_at (lay g d) o.volume i)

pub record Demand (g : Geometry) (m d : List ℕ) (cs : List Call) : Type 0 where
  -- the volume stays consistent
  pub consistent : Consistent g m (run g m d cs)
  -- for every slot, the contents are what the model has there, and none where it has none
  pub contents_agree : (i : ℕ) → contents g (run g m d cs) i ≡ model (contents g d) cs (answers g m d cs) i
  -- read back from offset 0 by as many parts as there are bytes or more, with any slice of zeros, each slot gives what the model has
  -- there, and is refused where it has none
  pub reads_back : (z : List ℕ) → zero_cause z ≡ 0 → (i n : ℕ) → data_length (set_of g (run g m d cs) i) ≤ n
      → read_file g (run g m d cs) m z i n ≡ model (contents g d) cs (answers g m d cs) i
  -- at every point of the list, its end included, any call that is accepted finds at its slot what it has to: a new file takes no slot
  -- that the model has just then, any other call changes a list of the model
  pub slots_fit : (before rest : List Call) → cs ≡ before ++ rest → (c : Call) → (step g m (run g m d before) c).answer.number ≡ 0
      → finds c (model (contents g d) before (answers g m d before) (call_slot c (step g m (run g m d before) c).answer.slot)) ≡ true
  -- and there any call does what the definitions say, and no more
  pub each_call : (before rest : List Call) → cs ≡ before ++ rest → (c : Call) → Done g m (run g m d before) c (step g m (run g m d before) c)
  -- marked clusters add up: as many more are marked as lengths and root take more
  pub marks_add_up : allocated_count (lay g d) (run g m d cs) + clusters_taken g d ≡ allocated_count (lay g d) d + clusters_taken g (run g m d cs)
  -- "Marked clusters of no stream stay marked", and of no stream ..
  pub lost_kept : (k : ℕ) → Lost g d k → Lost g (run g m d cs) k
  -- .. with the entry in every FAT and the bytes that they had, but for a bitmap's bytes
  pub lost_entry : (k : ℕ) → Lost g d k
      → (fat0_at (lay g d) (run g m d cs) k ≡ fat0_at (lay g d) d k)
      × ((lay g d).two ≡ true → fat1_at (lay g d) (run g m d cs) k ≡ fat1_at (lay g d) d k)
  pub lost_bytes : (k : ℕ) → Lost g d k → is_bitmap_cluster (lay g d) k ≡ false
      → cluster_bytes (lay g d) (run g m d cs) k ≡ cluster_bytes (lay g d) d k
  -- a further call that meets no other cause gets 7 exactly when it must add more clusters than are usable
  pub seven : (c : Call) → other_cause g m (run g m d cs) c ≡ 0
      → ((step g m (run g m d cs) c).answer.number ≡ 7) ↔ (usable g m (run g m d cs) < must_add g (run g m d cs) c)
  -- .. and else it is carried out
  pub carried_out : (c : Call) → other_cause g m (run g m d cs) c ≡ 0 → must_add g (run g m d cs) c ≤ usable g m (run g m d cs)
      → (step g m (run g m d cs) c).answer.number ≡ 0
