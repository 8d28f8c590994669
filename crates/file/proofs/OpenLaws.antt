-- What is known of a file that opens, and what refuses one. Assumes nothing.
use Rattle.std.proofs.Common.{◌≡◌, ℕ, ◌+◌, ◌*◌, ◌/◌, ◌<◌, ◌≤◌, min, Bool, true, false, cond, not, eqb, List, [], ◌∷◌, length, take, drop, replicate, sym, refl, ap, ◌∙◌, subst, mul-le-mul_right, arith, ne_eqb, eqb-true}
use Rattle.tables.specs.Lists.{every}
use Rattle.boot.specs.declared.layout.Layout.{Layout}
use Rattle.boot.specs.declared.system.Places.{Places}
use Rattle.boot.specs.Limits.{in_map}
use Rattle.boot.specs.Internal.{Laid}
use Rattle.boot.specs.Layout.{in_heap}
use Rattle.boot.specs.Causes.{first_cause, heap_cause}
use Rattle.boot.proofs.CauseLaws.{cause_skip, cause_met, cause_last, heap_met, heap_kept, cause_none}
use Rattle.boot.proofs.Apart.{in_heap_lem}
use Rattle.metadata.specs.Fat.{fat_entry}
use Rattle.metadata.proofs.Frame.{Fits, fits}
use Rattle.stream.specs.Bytes.{store_at, bytes_in}
use Rattle.stream.specs.declared.allocation.Allocation.{Allocation}
use Rattle.stream.specs.Internal.{Known}
use Rattle.stream.specs.Stream.{number_of, stream_of, clusters_of, system_cause, clusters_in}
use Rattle.stream.proofs.ListingLaws.{stream_read}
use Rattle.stream.proofs.BytesSteps.{every_drop}
use Rattle.stream.proofs.BytesLaws.{take_short, fat_store}
use Rattle.stream.proofs.KeepLaws.{stream_store}
use Rattle.entry_set.specs.declared.stamp.Stamp.{Stamp}
use Rattle.entry_set.specs.Fields.{valid_length, data_length, clusters_for}
use Rattle.entry_set.proofs.LengthLaws.{clusters_hold}
use Rattle.entry_set.proofs.SetLaws.{formed_lengths}
use Rattle.file.specs.Outcome.{FileAnswer, Outcome, refuse, carried}
use Rattle.directory.specs.Directory.{bitmap_cause, directory_cause, root_record}
use Rattle.directory.specs.Internal.{OpenedFile, spot_of, spot_clusters, Reaches, no_file, start_place, found_file, root_file, root_file_set}
use Rattle.directory.proofs.DirectoryLaws.{clusters_length}
use Rattle.directory.specs.Entries.{entry_count, entries_at, set_at, is_sound}
use Rattle.directory.proofs.EntryLaws.{sound_few, sound_room, sound_formed, set-count}
use Rattle.directory.proofs.RootFileLaws.{root_opens}
use Rattle.directory.proofs.FileLaws.{record_count, file_sound, file-read}
use Rattle.directory.proofs.StartLaws.{start_known}
use Rattle.directory.proofs.CursorLaws.{length_in, count_few}
use Rattle.directory.specs.declared.spot.Spot.{Spot}
use Rattle.directory.proofs.SpotLaws.{spot_reaches, spot_store}
use Rattle.directory.specs.Open.{file_record, entry_cause, directory_attribute_cause, stream_cause, set_in, file_cause}
use Rattle.file.specs.Refresh.{entries_of, recorded, stored, open_cause}
use Rattle.file.proofs.CallLaws.{directory_plain}
use Rattle.file.specs.Internal.{Opens, Stands, target, target_set}

-- ---- none of a list is a system cluster, so none of a part is

system-every : (m ks : List ℕ) → system_cause m ks ≡ 0 → every (λ k. not (in_map m k)) ks ≡ true
system-every m ks e = by (every (λ k. not (in_map m k)) ks) refl
  where
    by : (t : Bool) → every (λ k. not (in_map m k)) ks ≡ t → every (λ k. not (in_map m k)) ks ≡ true
    by true q = q
    by false q = absurd (let z : system_cause m ks ≡ 9 = unfold system_cause in (rw q refl) in omega arith)

system-drop : (m : List ℕ) (n : ℕ) (ks : List ℕ) → system_cause m ks ≡ 0 → system_cause m (drop n ks) ≡ 0
unfolding system_cause
system-drop m n ks e = rw (every_drop (λ k. not (in_map m k)) n ks (system-every m ks e)) refl

-- ---- a file that opens

module _ (y : Layout) (d m : List ℕ) (a : Allocation) (slot : ℕ) (s : List ℕ) (f : OpenedFile) (hint : ℕ) (o : Opens y d m a slot s f hint) where
  abbrev b : Allocation
  b = f.stream

  pub open_fits : Fits y d
  open_fits = record { laid = o.laid; apart = o.apart; long = o.long }

  -- the directory reads
  pub open_directory : number_of (stream_of y d a) ≡ 0
  open_directory =
      (cause_none (number_of (stream_of y d a)) (bitmap_cause y (clusters_of (stream_of y d a)) ∷ []) (unfold directory_cause in o.directory)).0

  causes : first_cause (entry_cause y (bytes_in y d a) slot ∷ directory_attribute_cause (set_in y d a slot) ∷ stream_cause y d m (file_record y d (set_in y d a slot)) ∷ []) ≡ 0
  causes = unfold file_cause in o.file

  open_sound : is_sound y.count y.size (bytes_in y d a) slot ≡ true
  open_sound = file_sound y d m a slot o.file

  stream_none : stream_cause y d m f.stream ≡ 0
  stream_none =
      ap (stream_cause y d m) (o.stream ∙ ap (file_record y d) o.set)
      ∙ (cause_none (stream_cause y d m (file_record y d (set_in y d a slot))) [] (cause_none _ _ (cause_none _ _ causes).1).1).0

  stream_causes : (number_of (stream_of y d f.stream) ≡ 0) × (first_cause (system_cause m (clusters_in y d f.stream) ∷ []) ≡ 0)
  stream_causes = cause_none (number_of (stream_of y d f.stream)) (system_cause m (clusters_in y d f.stream) ∷ []) (unfold stream_cause in stream_none)

  -- the stream reads
  pub open_stream : number_of (stream_of y d f.stream) ≡ 0
  open_stream = stream_causes.0

  -- and has no system cluster
  pub open_system : system_cause m (clusters_in y d f.stream) ≡ 0
  open_system = sym (cause_last (system_cause m (clusters_in y d f.stream))) ∙ stream_causes.1

  entries_are : entries_of s ≡ entries_at (bytes_in y d a) slot
  entries_are =
      ap entries_of o.set
      ∙ (unfold entries_of in (unfold set_in in
      (set-count (bytes_in y d a) slot (sound_few y.count y.size (bytes_in y d a) slot open_sound) (sound_room y.count y.size (bytes_in y d a) slot open_sound))))

  pub open_entries : entries_of s ≤ 19
  open_entries = omega (arith, entries_are, sound_few y.count y.size (bytes_in y d a) slot open_sound)

  -- the set lies in the directory
  pub open_room : 32 * (slot + entries_of s) ≤ a.count * y.size
  open_room =
      let r = sound_room y.count y.size (bytes_in y d a) slot open_sound in
      let l = length_in y d open_fits a open_directory in
      let q : entry_count (bytes_in y d a) ≡ length (bytes_in y d a) / 32 = unfold entry_count in refl in
      omega (arith, entries_are, r, l, q)

  pub open_valid : valid_length s ≤ data_length s
  open_valid =
      let q : s ≡ set_at (bytes_in y d a) slot = unfold set_in in o.set in
      subst (λ (x : List ℕ). valid_length x ≤ data_length x) (sym q)
      (formed_lengths y.count y.size (set_at (bytes_in y d a) slot) (sound_formed y.count y.size (bytes_in y d a) slot open_sound)).valid

  pub open_count : f.stream.count ≡ clusters_for y.size (data_length s)
  open_count = ap (λ (x : Allocation). x.count) o.stream ∙ record_count y d s

  pub open_few : f.stream.count ≤ y.count
  open_few = count_few y d open_fits b open_stream

  pub open_stands : Stands y d a slot (entries_of s)
  open_stands = record { reads = open_directory; few = open_entries; room = open_room }

  -- its bytes are no more than the heap's
  pub open_small : valid_length s ≤ 16777216
  open_small =
      let l = o.laid in
      omega (
        arith,
        open_valid,
        ap (λ (x : ℕ). x * y.size) open_count,
        clusters_hold y.size (omega (arith, l.size_low)) (data_length s),
        mul-le-mul_right {m = b.count} {n = y.count} y.size open_few,
        l.heap_in,
        l.len_high,
      )

-- ---- a set that stands in a directory, stored at its spot

module _ (y : Layout) (d : List ℕ) (a : Allocation) (slot : ℕ) (l : Laid y) where
  pub stands_inside : (n : ℕ) → Stands y d a slot n → 1 ≤ n → 32 * slot < a.count * y.size
  stands_inside n h f = omega (arith, h.room)

  pub stands_reaches : (n : ℕ) (p : Spot) → Stands y d a slot n → p ≡ spot_of y d a slot → Reaches y p n
  stands_reaches n p h e = subst (λ (x : Spot). Reaches y x n) (sym e) (spot_reaches y d a slot n l h.reads h.room h.few)

  pub stored_spot : (s e e' : List ℕ) (b : Allocation) (valid len : ℕ) (t : Stamp) (p : Spot) → Stands y d a slot (entries_of s) → p ≡ spot_of y d a slot
      → e' ≡ store_at y e (spot_clusters p) p.at (take (32 * entries_of s) (recorded s b valid len t))
      → e' ≡ stored y e (clusters_in y d a) slot s b valid len t
  unfolding stored
  stored_spot s e e' b valid len t p h q r =
      let bs = take (32 * entries_of s) (recorded s b valid len t) in
      let n = clusters_length y d a h.reads in
      let k : length bs ≤ 32 * entries_of s = take_short (32 * entries_of s) (recorded s b valid len t) in
      r ∙ ap (λ (x : Spot). store_at y e (spot_clusters x) x.at bs) q
      ∙ spot_store y d a slot l e bs (omega (arith, h.few)) (omega (arith, h.room, ap (λ (x : ℕ). x * y.size) n))

-- ---- what refuses one

module _ (y : Layout) (d m : List ℕ) (a : Allocation) (slot hint : ℕ) where
  pub open_hint : in_heap y.count hint ≡ false → open_cause y d m a slot hint ≡ 2
  unfolding open_cause
  open_hint e =
      let h = heap_met y.count hint e in
      cause_met (heap_cause y.count hint) (directory_cause y d a ∷ file_cause y d m a slot ∷ []) (λ z. omega arith) ∙ h

  module _ (h : in_heap y.count hint ≡ true) where
    past_hint : open_cause y d m a slot hint ≡ first_cause (directory_cause y d a ∷ file_cause y d m a slot ∷ [])
    unfolding open_cause
    past_hint = cause_skip (heap_cause y.count hint) (directory_cause y d a ∷ file_cause y d m a slot ∷ []) (heap_kept y.count hint h)

    pub open_is : directory_cause y d a ≡ 0 → open_cause y d m a slot hint ≡ file_cause y d m a slot
    open_is e = past_hint ∙ cause_skip (directory_cause y d a) (file_cause y d m a slot ∷ []) e ∙ cause_last (file_cause y d m a slot)

-- ---- the set of a file that opens, stored at its spot

module _ (y : Layout) (d m : List ℕ) (a : Allocation) (slot : ℕ) (s : List ℕ) (f : OpenedFile) (hint : ℕ) (o : Opens y d m a slot s f hint) where
  pub open_reaches : Reaches y f.spot (entries_of s)
  open_reaches = stands_reaches y d a slot o.laid (entries_of s) f.spot (open_stands y d m a slot s f hint o) o.spot

  pub open_stored : (e e' : List ℕ) (b : Allocation) (valid len : ℕ) (t : Stamp)
      → e' ≡ store_at y e (spot_clusters f.spot) f.spot.at (take (32 * entries_of s) (recorded s b valid len t))
      → e' ≡ stored y e (clusters_in y d a) slot s b valid len t
  open_stored e e' b valid len t q = stored_spot y d a slot o.laid s e e' b valid len t f.spot (open_stands y d m a slot s f hint o) o.spot q

  -- nothing refuses it
  pub opens_none : open_cause y d m a slot hint ≡ 0
  opens_none = open_is y d m a slot hint o.hint_in o.directory ∙ o.file

-- ---- bytes stored in the directory leave the stream of a file that opens as it was

module _ (y : Layout) (d m : List ℕ) (a : Allocation) (slot : ℕ) (s : List ℕ) (f : OpenedFile) (hint : ℕ) (o : Opens y d m a slot s f hint) (at : ℕ) (bs e : List ℕ)
    (q : e ≡ store_at y d (clusters_in y d a) at bs) where
  heap_in : every (in_heap y.count) (clusters_in y d a) ≡ true
  heap_in = unfold clusters_in in (stream_read y d a (open_directory y d m a slot s f hint o)).heap

  same_stream : stream_of y e f.stream ≡ stream_of y d f.stream
  same_stream =
      ap (λ (l : List ℕ). stream_of y l f.stream) q
      ∙ stream_store y d (open_fits y d m a slot s f hint o) (clusters_in y d a) (directory_plain y d a o.directory) at bs f.stream (open_stream y d m a slot s f hint o)

  pub same_reads : number_of (stream_of y e f.stream) ≡ 0
  same_reads = ap number_of same_stream ∙ open_stream y d m a slot s f hint o

  pub same_fat : (k : ℕ) → in_heap y.count k ≡ true → fat_entry y e k ≡ fat_entry y d k
  same_fat k h =
      ap (λ (l : List ℕ). fat_entry y l k) q ∙ fat_store y d (open_fits y d m a slot s f hint o) (clusters_in y d a) heap_in at bs k (in_heap_lem y.count k h).1

  -- none of its clusters is a system cluster
  pub same_system : (keep : ℕ) → system_cause m (drop keep (clusters_in y e f.stream)) ≡ 0
  same_system keep =
      let ks : clusters_in y e f.stream ≡ clusters_in y d f.stream = unfold clusters_in in (ap clusters_of same_stream) in
      ap (λ (l : List ℕ). system_cause m (drop keep l)) ks ∙ system-drop m keep (clusters_in y d f.stream) (open_system y d m a slot s f hint o)

-- ---- outcomes

-- shown of one outcome, shown of an equal one
pub shown_as : {o o' : Outcome} {r : FileAnswer} {d : List ℕ} → o ≡ o' → (r ≡ o'.answer) × (d ≡ o'.volume) → (r ≡ o.answer) × (d ≡ o.volume)
shown_as e s = (s.0 ∙ ap (λ (o : Outcome). o.answer) (sym e), s.1 ∙ ap (λ (o : Outcome). o.volume) (sym e))

pub carried-shown : (slot hint : ℕ) (d d' : List ℕ) → d' ≡ d
    → (record { number = 0; slot = slot; hint = hint } ≡ (carried slot hint d).answer) × (d' ≡ (carried slot hint d).volume)
unfolding carried
carried-shown slot hint d d' e = (refl, e)

pub refuse-shown : (n hint : ℕ) (d : List ℕ) (r : FileAnswer) → r ≡ record { number = n; slot = 0; hint = hint }
    → (r ≡ (refuse n hint d).answer) × (d ≡ (refuse n hint d).volume)
unfolding refuse
refuse-shown n hint d r e = (e, refl)

-- ---- the target of a call

module _ (y : Layout) (d m : List ℕ) (a : Allocation) (slot offset hint : ℕ) where
  target_refused : (n : ℕ) → n ≡ open_cause y d m a slot hint → (n ≡ 0 → ⊥) → no_file n ≡ target y d m a slot offset hint
  unfolding target
  target_refused n e z = rw (← e, ne_eqb n 0 z) refl

  set_refused : (first_cause (heap_cause y.count hint ∷ directory_cause y d a ∷ []) ≡ 0 → ⊥) → replicate 608 0 ≡ target_set y d a slot hint
  unfolding target_set
  set_refused z = rw (ne_eqb (first_cause (heap_cause y.count hint ∷ directory_cause y d a ∷ [])) 0 z) refl

  pub target_hint : in_heap y.count hint ≡ false → (no_file 2 ≡ target y d m a slot offset hint) × (replicate 608 0 ≡ target_set y d a slot hint)
  target_hint h =
      let q = heap_met y.count hint h in (
        target_refused 2 (sym (open_hint y d m a slot hint h)) (λ z. omega arith),
        set_refused (λ z. omega (arith, z, q, cause_met (heap_cause y.count hint) (directory_cause y d a ∷ []) (λ t. omega arith))),
      )

  module _ (h : in_heap y.count hint ≡ true) where
    set_cause : first_cause (heap_cause y.count hint ∷ directory_cause y d a ∷ []) ≡ directory_cause y d a
    set_cause = cause_skip (heap_cause y.count hint) (directory_cause y d a ∷ []) (heap_kept y.count hint h) ∙ cause_last (directory_cause y d a)

    -- past the hint it is the file at a slot of the root
    pub target_root : (root_file y d m a slot offset ≡ target y d m a slot offset hint) × (root_file_set y d a slot ≡ target_set y d a slot hint)
    unfolding target target_set root_file root_file_set
    target_root = (rw (past_hint y d m a slot hint h) refl, rw set_cause refl)

  -- its number, and the file where that is 0
  pub target_number : (target y d m a slot offset hint).number ≡ open_cause y d m a slot hint
  unfolding target
  target_number = by (eqb (open_cause y d m a slot hint) 0) refl
    where
      by : (t : Bool) → eqb (open_cause y d m a slot hint) 0 ≡ t
          → (cond t (found_file y d a slot offset) (no_file (open_cause y d m a slot hint))).number ≡ open_cause y d m a slot hint
      by true e = unfold found_file in (sym (eqb-true (open_cause y d m a slot hint) 0 e))
      by false e = refl

  found_spot : (found_file y d a slot offset).spot ≡ spot_of y d a slot
  unfolding found_file
  found_spot = refl

  found_stream : (found_file y d a slot offset).stream ≡ file_record y d (set_in y d a slot)
  unfolding found_file
  found_stream = refl

  found_place : (found_file y d a slot offset).place ≡ start_place y d (file_record y d (set_in y d a slot)) (set_in y d a slot) offset
  unfolding found_file
  found_place = refl

  target_is : open_cause y d m a slot hint ≡ 0 → target y d m a slot offset hint ≡ found_file y d a slot offset
  unfolding target
  target_is e = rw e refl

  hint_of_lem : heap_cause y.count hint ≡ 0 → in_heap y.count hint ≡ true
  hint_of_lem e = by (in_heap y.count hint) refl
    where
      by : (t : Bool) → in_heap y.count hint ≡ t → in_heap y.count hint ≡ true
      by true q = q
      by false q = absurd (let z = heap_met y.count hint q in omega arith)

  module _ (w : Fits y d) (k : y.count ≤ 8 * length m) (f : OpenedFile) (e : f ≡ target y d m a slot offset hint) (s : List ℕ) (q : s ≡ target_set y d a slot hint)
      (z : f.number ≡ 0) where
    open_none : open_cause y d m a slot hint ≡ 0
    open_none = sym target_number ∙ ap (λ (x : OpenedFile). x.number) (sym e) ∙ z

    pub found_opens : Opens y d m a slot s f hint
    found_opens =
        let c = cause_none (heap_cause y.count hint) (directory_cause y d a ∷ file_cause y d m a slot ∷ []) (unfold open_cause in open_none) in
        let u = cause_none (directory_cause y d a) (file_cause y d m a slot ∷ []) c.1 in
        let v = cause_none (file_cause y d m a slot) [] u.1 in
        let i : s ≡ set_in y d a slot = q ∙ sym ((root_opens y d m a slot offset u.0).1 ∙ (target_root (hint_of_lem c.0)).1) ∙ file-read y d m a slot v.0 in
        record {
          laid = w.laid;
          apart = w.apart;
          long = w.long;
          map = k;
          directory = u.0;
          file = v.0;
          set = i;
          spot = ap (λ (x : OpenedFile). x.spot) (e ∙ target_is open_none) ∙ found_spot;
          stream = ap (λ (x : OpenedFile). x.stream) (e ∙ target_is open_none) ∙ found_stream ∙ ap (file_record y d) (sym i);
          hint_in = hint_of_lem c.0;
        }

    -- and where the call begins in its stream
    pub found_known : Known y d f.stream f.place (min (valid_length s) offset)
    found_known =
        let o = found_opens in
        let i : f.place ≡ start_place y d f.stream s offset =
        ap (λ (x : OpenedFile). x.place) (e ∙ target_is open_none) ∙ found_place ∙ ap (λ (x : List ℕ). start_place y d (file_record y d x) x offset) (sym o.set)
        ∙ ap (λ (x : Allocation). start_place y d x s offset) (sym o.stream) in
        rw i (start_known y d f.stream s offset)

-- ---- a file of the root, as opening it on a system gives it

module _ (s : Places 1 1) (d : List ℕ) (long : length d ≡ s.y.len) (root slot offset hint : ℕ) (f : OpenedFile) (bs : List ℕ)
    (e : (f ≡ target s.y d s.map.now (root_record s.y d root) slot offset hint) × (bs ≡ target_set s.y d (root_record s.y d root) slot hint)) (z : f.number ≡ 0) where
  pub opened : Opens s.y d s.map.now (root_record s.y d root) slot bs f hint
  opened = found_opens s.y d s.map.now (root_record s.y d root) slot offset hint (fits s d long) (s.wide (omega arith)) f e.0 bs e.1 z

  pub opened_known : Known s.y d f.stream f.place (min (valid_length bs) offset)
  opened_known = found_known s.y d s.map.now (root_record s.y d root) slot offset hint (fits s d long) (s.wide (omega arith)) f e.0 bs e.1 z
