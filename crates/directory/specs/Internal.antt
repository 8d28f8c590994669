-- What only contracts of inner functions, and proofs, speak of: no promise of a public call and no clause of the claim needs it.
use Rattle.std.specs.Prelude.{◌≡◌, Bool, true, cond, ◌&&◌, Option, Some, None, List, [], ◌∷◌, ℕ, zero, suc, ◌+◌, ◌-◌, ◌*◌, ◌/◌, ◌%◌, ◌≤◌, ◌<◌, min, ltb, eqb, leb, length, get_or, drop, replicate, Result, Ok, Err}
use Rattle.std.proofs.Math.Option.{Option as Maybe, none, some}
use Rattle.boot.specs.declared.layout.Layout.{Layout}
use Rattle.boot.specs.Layout.{in_heap}
use Rattle.boot.specs.declared.cause.Cause.{Cause}
use Rattle.boot.specs.Causes.{cause_number, first_cause}
use Rattle.metadata.specs.Fat.{fat_entry}
use Rattle.stream.specs.declared.allocation.Allocation.{Allocation}
use Rattle.stream.specs.declared.bytes.Place.{Place}
use Rattle.stream.specs.Internal.{after, along, reached, place_at}
use Rattle.stream.specs.Bytes.{cluster_bytes, bytes_in}
use Rattle.stream.specs.Stream.{empty, clusters_in}
use Rattle.entry_set.specs.Fields.{valid_length}
use Rattle.directory.specs.declared.directory.OpenDirectory.{OpenDirectory}
use Rattle.directory.specs.declared.entries.Cursor.{Cursor}
use Rattle.directory.specs.declared.entries.Room.{Room}
use Rattle.directory.specs.declared.open_file.OpenStream.{OpenStream}
use Rattle.directory.specs.declared.open_file.OpenFile.{OpenFile}
use Rattle.directory.specs.declared.spot.Spot.{Spot}
use Rattle.directory.specs.Directory.{root_record, directory_cause}
use Rattle.directory.specs.Entries.{in_use, entry_count, before_end, is_file, entries_at, set_at}
use Rattle.directory.specs.Room.{free_run, slot_of, with_zeros, growth}
use Rattle.directory.specs.Open.{file_record, stream_cause, set_in, file_cause}

-- the entry after one: 32 bytes on, in the next cluster where this one ends
unfoldable pub next_entry : Layout → (ℕ → ℕ) → Bool → Cursor → Cursor
next_entry y fat run c =
    cond (ltb (c.at + 32) y.size) (record { cluster = c.cluster; at = c.at + 32 })
    (record { cluster = after fat run c.cluster; at = 0 })

-- entry i of the stream that begins at a cluster
unfoldable pub entry_at : Layout → (ℕ → ℕ) → Bool → ℕ → ℕ → Cursor
entry_at y fat run first zero = record { cluster = first; at = 0 }
entry_at y fat run first (suc i) = next_entry y fat run (entry_at y fat run first i)

-- the entry of a slot by its byte: the cluster that it lies in, and its byte there
abbrev pub entry_place : (y : Layout) (d : List ℕ) (a : Allocation) (slot : ℕ) → Cursor
entry_place y d a slot =
    record { cluster = reached (fat_entry y d) a.no_fat_chain a.first (32 * slot / y.size); at = 32 * slot % y.size }

-- the same, or none where an entry of type 0 stands before it
unfoldable pub slot_entry : (y : Layout) (d : List ℕ) (a : Allocation) (slot : ℕ) → Option Cursor
slot_entry y d a slot = cond (before_end (bytes_in y d a) slot) (Some (entry_place y d a slot)) None

-- of a directory opened: its bytes
abbrev pub bytes : {A W : ℕ} → OpenDirectory A W → List ℕ
bytes d = bytes_in d.sys.now.y d.vol.now d.allocation

-- the volume's FAT
abbrev pub fat_of : {A W : ℕ} → OpenDirectory A W → ℕ → ℕ
fat_of d = fat_entry d.sys.now.y d.vol.now

-- the bytes of cluster k
abbrev pub bytes_at : {A W : ℕ} → OpenDirectory A W → (k : ℕ) → List ℕ
bytes_at d k = cluster_bytes d.sys.now.y d.vol.now k

-- n of its clusters, from cluster k on
abbrev pub clusters_from : {A W : ℕ} → OpenDirectory A W → (k n : ℕ) → List ℕ
clusters_from d k n = along (fat_of d) d.allocation.no_fat_chain k n

-- its entry i
abbrev pub nth_entry : {A W : ℕ} → OpenDirectory A W → (i : ℕ) → Cursor
nth_entry d i = entry_at d.sys.now.y (fat_of d) d.allocation.no_fat_chain d.allocation.first i

-- the entry of a slot by its byte
abbrev pub slot_place : {A W : ℕ} → OpenDirectory A W → (slot : ℕ) → Cursor
slot_place d slot = entry_place d.sys.now.y d.vol.now d.allocation slot

-- the set at a slot
abbrev pub slot_set : {A W : ℕ} → OpenDirectory A W → (slot : ℕ) → List ℕ
slot_set d slot = set_in d.sys.now.y d.vol.now d.allocation slot

-- windows of n entries from entry i on, passed one after the other while the last entry of each is in use, `more` at most: where that stops
unfoldable pub past_windows : List ℕ → ℕ → ℕ → ℕ → ℕ
past_windows bs n zero i = i
past_windows bs n (suc more) i = cond (in_use bs (i + (n - 1))) (past_windows bs n more (i + n)) i

-- the same, however many: fewer than the bytes
unfoldable pub past_used : (bs : List ℕ) (n i : ℕ) → ℕ
past_used bs n i = past_windows bs n (length bs) i

-- what opening a directory tells: its record and number 0, or the number of what refuses it with the empty record
pub record Directory : Type 0 where
  pub number : ℕ
  pub allocation : Allocation

-- by what its function gives
abbrev pub directory_opened : {A W : ℕ} → Result (OpenDirectory A W) Cause → Directory
directory_opened (Ok d) = record { number = 0; allocation = d.allocation }
directory_opened (Err c) = record { number = cause_number c; allocation = empty }

-- the root opened
unfoldable pub open_root : Layout → List ℕ → ℕ → Directory
open_root y d root =
    let a = root_record y d root in
    let n = directory_cause y d a in
    cond (eqb n 0) (record { number = 0; allocation = a }) (record { number = n; allocation = empty })

-- where a set of n entries goes: its slot, and the clusters that the directory grows by for it
unfoldable pub room_for : (size : ℕ) (bs : List ℕ) (n : ℕ) → Room
room_for size bs n =
    let g = growth size bs n in
    record { slot = slot_of (free_run (with_zeros bs (g * size)) n); clusters = g }

-- slot i has a file entry, and its set has at most 19 entries and fits the directory
unfoldable pub set_fits : List ℕ → ℕ → Bool
set_fits bs i = is_file bs i && (leb (entries_at bs i) 19 && leb (i + entries_at bs i) (entry_count bs))

-- the entries of the set at slot i where that fits
unfoldable pub whole_set : List ℕ → ℕ → Option ℕ
whole_set bs i = cond (set_fits bs i) (Some (entries_at bs i)) None

-- the 608 bytes that opening fills: the set where there is one, else zeros
unfoldable pub set_read : List ℕ → ℕ → List ℕ
set_read bs i = cond (set_fits bs i) (set_at bs i) (replicate 608 0)

-- the set at each slot that has a file entry
unfoldable pub sets : List ℕ → ℕ → Maybe (List ℕ)
sets bs i = cond (is_file bs i) (some (set_at bs i)) none

-- no place
abbrev pub no_place : Place
no_place = record { cluster = 0; steps = 0 }

-- what opening a stream tells: its record and the place where a call begins in it with number 0, or the number of what refuses it with the
-- empty record and no place
pub record OpenedStream : Type 0 where
  pub number : ℕ
  pub allocation : Allocation
  pub place : Place

-- by what its function gives
abbrev pub stream_opened : Result OpenStream Cause → OpenedStream
stream_opened (Ok o) = record { number = 0; allocation = o.allocation; place = o.place }
stream_opened (Err c) = record { number = cause_number c; allocation = empty; place = no_place }

-- a number with a record and a place, which are empty and none beside a refusal
unfoldable pub opened : ℕ → Allocation → Place → OpenedStream
opened n a p =
    cond (eqb n 0) (record { number = 0; allocation = a; place = p }) (record { number = n; allocation = empty; place = no_place })

-- a stream's record and the place `goal` steps along it; or the number of what refuses it
abbrev pub opened_stream : (y : Layout) (d m : List ℕ) (a : Allocation) (goal : ℕ) → OpenedStream
opened_stream y d m a goal = opened (stream_cause y d m a) a (place_at y d a goal)

-- how many steps lead to where a call on the bytes from an offset on begins, in a stream of so many clusters: to the cluster of the lesser
-- of valid length and offset, or to the last one
unfoldable pub start_steps : (size valid offset count : ℕ) → ℕ
start_steps size valid offset count = min (min valid offset / size) (count - 1)

-- the clusters from that of a slot on, three of them, 0 where the directory ends, and the slot's byte in the first
unfoldable pub spot_of : Layout → List ℕ → Allocation → ℕ → Spot
spot_of y d a slot =
    let ks = drop (32 * slot / y.size) (clusters_in y d a) in
    record { first = get_or ks 0 0; second = get_or ks 1 0; third = get_or ks 2 0; at = 32 * slot % y.size }

unfoldable pub spot_clusters : Spot → List ℕ
spot_clusters s = s.first ∷ s.second ∷ s.third ∷ []

-- n entries from a spot on, at most 19, lie in clusters of the heap
pub record Reaches (y : Layout) (s : Spot) (n : ℕ) : Type 0 where
  pub inside : s.at < y.size
  pub few : n ≤ 19
  pub one : 0 < n → in_heap y.count s.first ≡ true
  pub two : y.size < s.at + 32 * n → in_heap y.count s.second ≡ true
  pub three : 2 * y.size < s.at + 32 * n → in_heap y.count s.third ≡ true

-- what opening a file tells: where its set stands, its stream's record and the place where a call begins in it with number 0, or the number
-- of what refuses it with no spot, the empty record and no place
pub record OpenedFile : Type 0 where
  pub number : ℕ
  pub spot : Spot
  pub stream : Allocation
  pub place : Place

-- no file: a number with no spot and the empty record
abbrev pub no_file : ℕ → OpenedFile
no_file n = record { number = n; spot = record { first = 0; second = 0; third = 0; at = 0 }; stream = empty; place = no_place }

-- by what its function gives
abbrev pub file_opened : Result OpenFile Cause → OpenedFile
file_opened (Ok f) = record { number = 0; spot = f.spot; stream = f.stream; place = f.place }
file_opened (Err c) = no_file (cause_number c)

-- where a call on the bytes from an offset on begins in stream b of the file of set s
abbrev pub start_place : (y : Layout) (d : List ℕ) (b : Allocation) (s : List ℕ) (offset : ℕ) → Place
start_place y d b s offset = place_at y d b (start_steps y.size (valid_length s) offset b.count)

-- the file at a slot of directory a: where its set stands, its stream's record, and where a call on the bytes from an offset on begins
unfoldable pub found_file : (y : Layout) (d : List ℕ) (a : Allocation) (slot offset : ℕ) → OpenedFile
found_file y d a slot offset =
    let s = set_in y d a slot in
    let b = file_record y d s in
    record { number = 0; spot = spot_of y d a slot; stream = b; place = start_place y d b s offset }

-- the same opened, or the number of what refuses it
unfoldable pub open_file : (y : Layout) (d m : List ℕ) (a : Allocation) (slot offset : ℕ) → OpenedFile
open_file y d m a slot offset = let n = file_cause y d m a slot in cond (eqb n 0) (found_file y d a slot offset) (no_file n)

-- the file at a slot of the root a, or the number of what refuses it: the root, then the file
unfoldable pub root_file : (y : Layout) (d m : List ℕ) (a : Allocation) (slot offset : ℕ) → OpenedFile
root_file y d m a slot offset =
    let n = first_cause (directory_cause y d a ∷ file_cause y d m a slot ∷ []) in
    cond (eqb n 0) (found_file y d a slot offset) (no_file n)

-- the 608 bytes that this fills: the set where the root is not refused and there is one, else zeros
unfoldable pub root_file_set : (y : Layout) (d : List ℕ) (a : Allocation) (slot : ℕ) → List ℕ
root_file_set y d a slot = cond (eqb (directory_cause y d a) 0) (set_read (bytes_in y d a) slot) (replicate 608 0)
