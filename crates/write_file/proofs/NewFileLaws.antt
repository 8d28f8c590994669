-- A new file: its set where the directory has room after growth, and what refuses it. Assumes nothing.
use Rattle.std.proofs.Common.{◌≡◌, ℕ, ◌+◌, ◌*◌, ◌/◌, ◌≤◌, true, false, not, leb, ◌≢◌, List, [], ◌∷◌, length, take, sym, refl, ap, ◌∙◌, subst, ap₂, arith, ne_eqb, leb-true}
use native.Mathlib.Decide.{dec_lt}
use Rattle.tables.specs.Count.{count}
use Rattle.boot.specs.declared.geometry.Geometry.{Geometry}
use Rattle.boot.specs.declared.layout.Layout.{Layout}
use Rattle.boot.specs.Geometry.{root_cluster}
use Rattle.boot.specs.Layout.{in_heap}
use Rattle.boot.specs.Causes.{first_cause, admit_cause, heap_cause, space_cause}
use Rattle.tables.proofs.Cases.{and_left, and_right}
use Rattle.boot.proofs.Admission.{Admits}
use Rattle.boot.proofs.CauseLaws.{cause_skip, cause_met, cause_last, heap_met, heap_kept}
use Rattle.std.specs.Prelude.{Some}
use Rattle.metadata.specs.Usable.{is_usable}
use Rattle.metadata.proofs.Frame.{Fits, fits_kept}
use Rattle.stream.specs.declared.allocation.Allocation.{Allocation}
use Rattle.stream.specs.Chain.{listed}
use Rattle.stream.specs.Stream.{number_of, stream_of, clusters_in}
use Rattle.stream.specs.Bytes.{store_at, bytes_in}
use Rattle.stream.proofs.BytesLaws.{take_short}
use Rattle.entry_set.specs.declared.stamp.Stamps.{Stamps}
use Rattle.entry_set.specs.Name.{name_ok, name_cause, attributes_ok, attribute_cause}
use Rattle.entry_set.specs.Fields.{name_entries}
use Rattle.entry_set.specs.New.{new_entries, new_set}
use Rattle.write_alloc.proofs.AllocateLaws.{space_met}
use Rattle.search.proofs.Lowest.{run_at}
use Rattle.directory.specs.declared.entries.Room.{Room}
use Rattle.directory.specs.Directory.{root_record, directory_cause}
use Rattle.directory.specs.Internal.{Directory, open_root, room_for, spot_of, spot_clusters}
use Rattle.directory.specs.Entries.{entry_count, in_use}
use Rattle.directory.specs.Room.{free_run, slot_of, with_zeros, growth}
use Rattle.directory.proofs.CursorLaws.{length-entries, entries_is, slot_bytes}
use Rattle.directory.proofs.GrowthLaws.{place_at_lem, grown_at}
use Rattle.directory.proofs.DirectoryLaws.{clusters_length}
use Rattle.directory.specs.declared.spot.Spot.{Spot}
use Rattle.write_alloc.specs.declared.answer.Updated.{Updated}
use Rattle.file.specs.Outcome.{refuse, carried}
use Rattle.write_dir.specs.Place.{GrownDirectory, grow_by}
use Rattle.write_dir.specs.Internal.{Growable, standing, added_of}
use Rattle.write_dir.proofs.AddedLaws.{Zeroed, grow_many}
use Rattle.write_dir.proofs.GrownLaws.{zeroed_in}
use Rattle.directory.proofs.SpotLaws.{spot_store}
use Rattle.file.specs.Internal.{Stands}
use Rattle.write_file.specs.Internal.{Ready}
use Rattle.write_file.specs.NewFile.{new_growth, new_file_cause, placed, new_file_in, new_file}
use Rattle.file.proofs.RefreshLaws.{stream_is}
use Rattle.directory.proofs.DirectoryLaws.{root_number, root_record_lem}
use Rattle.file.proofs.CallLaws.{directory_reads, directory_plain}

-- ---- a directory that is ready

module _ (y : Layout) (d m : List ℕ) (a : Allocation) (hint : ℕ) (r : Ready y d m a hint) where
  pub ready_fits : Fits y d
  ready_fits = record { laid = r.laid; apart = r.apart; long = r.long }

  pub ready_reads : number_of (stream_of y d a) ≡ 0
  ready_reads = directory_reads y d a r.directory

  ready_listed : stream_of y d a ≡ listed (clusters_in y d a)
  unfolding clusters_in
  ready_listed = stream_is y d a ready_reads

  pub ready_grows : (n : ℕ) → n ≤ count (is_usable y d m) 2 y.count → Growable y d m a n hint
  ready_grows n h = record { reads = ready_reads; mapped = r.mapped; enough = h; hint_in = r.hint_in }

  -- ---- a set of n entries in the directory that grew

  module _ (n : ℕ) (few : n ≤ 19) (room : Room) (at : room ≡ room_for y.size (bytes_in y d a) n)
      (enough : room.clusters ≤ count (is_usable y d m) 2 y.count) where
    abbrev bs : List ℕ
    bs = bytes_in y d a

    abbrev w : GrownDirectory
    w = grow_by y m room.clusters (standing d a hint)

    grown : (new : List ℕ) × (length new ≡ room.clusters) × Zeroed y d m w (clusters_in y d a) new
    grown = grow_many y m r.mapped room.clusters (standing d a hint) ready_fits (clusters_in y d a) ready_listed r.hint_in enough

    clusters_are : room.clusters ≡ growth y.size bs n
    unfolding room_for
    clusters_are = ap (λ (x : Room). x.clusters) at

    slot_is : room.slot ≡ slot_of (free_run (with_zeros bs (growth y.size bs n * y.size)) n)
    unfolding room_for
    slot_is = ap (λ (x : Room). x.slot) at

    bytes_are : bytes_in y w.volume w.directory ≡ with_zeros bs (growth y.size bs n * y.size)
    bytes_are =
        let g = grown in
        zeroed_in y d m w (clusters_in y d a) g.0 ready_fits g.2 a ready_listed (directory_plain y d a r.directory)
        ∙ ap (λ (x : ℕ). with_zeros bs (x * y.size)) (g.1 ∙ clusters_are)

    whole : length bs ≡ 32 * entry_count bs
    whole = length-entries y d ready_fits a ready_reads ∙ ap (λ (x : ℕ). 32 * x) (entries_is y d ready_fits a ready_reads)

    wide_found : free_run (with_zeros bs (growth y.size bs n * y.size)) n ≡ Some (slot_of (free_run (with_zeros bs (growth y.size bs n * y.size)) n))
    unfolding slot_of
    wide_found =
        let l = r.laid in
        let q = grown_at bs n whole _ (place_at_lem bs n whole) y.size (y.size / 32) (sym l.whole) (let b = l.size_low in omega arith) in
        q ∙ ap Some (ap slot_of (sym q))

    found : free_run (bytes_in y w.volume w.directory) n ≡ Some room.slot
    found = ap (λ (x : List ℕ). free_run x n) bytes_are ∙ wide_found ∙ ap Some (sym slot_is)

    slot_there : slot_of (free_run (bytes_in y w.volume w.directory) n) ≡ room.slot
    unfolding slot_of
    slot_there = ap slot_of found

    grown_fits : Fits y w.volume
    grown_fits = fits_kept y d w.volume grown.2.long ready_fits

    grown_reads : number_of (stream_of y w.volume w.directory) ≡ 0
    grown_reads = ap number_of grown.2.reads ∙ (unfold number_of in refl)

    grown_room : room.slot + n ≤ entry_count (bytes_in y w.volume w.directory)
    grown_room =
        let bs = bytes_in y w.volume w.directory in
        (run_at (λ i. not (in_use bs i)) (entry_count bs) n 0 room.slot (unfold free_run in found)).inside

    grown_stands : Stands y w.volume w.directory room.slot n
    grown_stands = record {
      reads = grown_reads;
      few = few;
      room = omega (arith, slot_bytes y w.volume grown_fits w.directory grown_reads room.slot n grown_room);
    }

    module _ (v : Updated) (e : List ℕ) (p : v ≡ added_of (grow_by y m room.clusters (standing d a hint)))
        (q : e ≡ (grow_by y m room.clusters (standing d a hint)).volume) where
      same : standing e v.allocation v.hint ≡ w
      same = λ z. record { volume = q z; directory = (p z).allocation; hint = (p z).hint }

      pub insert_stands : Stands y e v.allocation room.slot n
      insert_stands = subst (λ (x : GrownDirectory). Stands y x.volume x.directory room.slot n) (sym same) grown_stands

      pub insert_shown : (o : Spot) (s e' : List ℕ) → o ≡ spot_of y e v.allocation room.slot
          → e' ≡ store_at y e (spot_clusters o) o.at (take (32 * n) s)
          → (record { number = 0; slot = room.slot; hint = v.hint } ≡ (placed y (grow_by y m room.clusters (standing d a hint)) n s).answer)
          × (e' ≡ (placed y (grow_by y m room.clusters (standing d a hint)) n s).volume)
      unfolding placed carried
      insert_shown o s e' f h =
          let h₁ = insert_stands in
          let bs = take (32 * n) s in
          let k : length bs ≤ 32 * n = take_short (32 * n) s in
          let c = clusters_length y e v.allocation h₁.reads in
          let b : store_at y e (spot_clusters o) o.at bs ≡ store_at y e (clusters_in y e v.allocation) (32 * room.slot) bs =
          ap (λ (x : Spot). store_at y e (spot_clusters x) x.at bs) f
          ∙ spot_store y e v.allocation room.slot r.laid e bs (omega arith) (omega (arith, h₁.room, ap (λ (x : ℕ). x * y.size) c)) in
          let t : store_at y e (clusters_in y e v.allocation) (32 * room.slot) bs ≡ store_at y w.volume (clusters_in y w.volume w.directory) (32 * room.slot) bs =
          ap (λ (x : GrownDirectory). store_at y x.volume (clusters_in y x.volume x.directory) (32 * room.slot) bs) same in (
            ap₂ (λ (i k : ℕ). record { number = 0; slot = i; hint = k }) (sym slot_there) (ap (λ (x : GrownDirectory). x.hint) same),
            h ∙ b ∙ t ∙ ap (λ (i : ℕ). store_at y w.volume (clusters_in y w.volume w.directory) (32 * i) bs) (sym slot_there),
          )

-- ---- names

pub name_few : (name : List ℕ) → name_ok name ≡ true → length name ≤ 255
unfolding name_ok
name_few name e = leb-true (length name) 255 (and_left (leb (length name) 255) _ (and_right (leb 1 (length name)) _ e))

pub entries_are : (n k : ℕ) → k ≡ name_entries n → 2 + k ≡ new_entries n
unfolding new_entries
entries_are n k e = ap (λ (x : ℕ). 2 + x) e

-- ---- space

pub space_enough : (n k : ℕ) → space_cause n k ≡ 0 → n ≤ k
space_enough n k e = elim (dec_lt k n) [ yes h ↦ absurd (let q = space_met n k h in omega arith) | no h ↦ omega arith ]

-- ---- what refuses a new file

module _ (y : Layout) (d m : List ℕ) (a : Allocation) (name : List ℕ) (attributes hash : ℕ) (t : Stamps) (hint : ℕ) where
  refused_is : (n : ℕ) → new_file_cause y d m a name attributes hint ≡ n → n ≢ 0 → new_file_in y d m a name attributes hash t hint ≡ refuse n hint d
  unfolding new_file_in
  refused_is n e z = rw (e, ne_eqb n 0 z) refl

  done_is : new_file_cause y d m a name attributes hint ≡ 0
      → new_file_in y d m a name attributes hash t hint
      ≡ placed y (grow_by y m (new_growth y d a (length name)) (standing d a hint)) (new_entries (length name)) (new_set name attributes hash t)
  unfolding new_file_in
  done_is e = rw e refl

  abbrev later : List ℕ
  later =
      name_cause name ∷ attribute_cause attributes ∷ space_cause (new_growth y d a (length name)) (count (is_usable y d m) 2 y.count) ∷ []

  pub new_hint : in_heap y.count hint ≡ false → new_file_in y d m a name attributes hash t hint ≡ refuse 2 hint d
  new_hint e =
      let h = heap_met y.count hint e in
      refused_is 2 (unfold new_file_cause in (cause_met (heap_cause y.count hint) (directory_cause y d a ∷ later) (λ z. omega arith) ∙ h)) (λ z. omega arith)

  module _ (h : in_heap y.count hint ≡ true) where
    past_hint : new_file_cause y d m a name attributes hint ≡ first_cause (directory_cause y d a ∷ later)
    unfolding new_file_cause
    past_hint = cause_skip (heap_cause y.count hint) (directory_cause y d a ∷ later) (heap_kept y.count hint h)

    pub new_directory : (n : ℕ) → n ≡ directory_cause y d a → n ≢ 0 → new_file_in y d m a name attributes hash t hint ≡ refuse n hint d
    new_directory n e z = refused_is n (past_hint ∙ cause_met (directory_cause y d a) later (λ q. z (e ∙ q)) ∙ sym e) z

  module _ (r : Ready y d m a hint) where
    cause_is : new_file_cause y d m a name attributes hint ≡ first_cause later
    cause_is = past_hint r.hint_in ∙ cause_skip (directory_cause y d a) later r.directory

    pub new_name : name_ok name ≡ false → new_file_in y d m a name attributes hash t hint ≡ refuse 12 hint d
    new_name e =
        let q : name_cause name ≡ 12 = unfold name_cause in (rw e refl) in
        refused_is 12 (cause_is ∙ cause_met (name_cause name) _ (λ z. omega arith) ∙ q) (λ z. omega arith)

    module _ (n : name_ok name ≡ true) where
      past_name : new_file_cause y d m a name attributes hint
          ≡ first_cause (attribute_cause attributes ∷ space_cause (new_growth y d a (length name)) (count (is_usable y d m) 2 y.count) ∷ [])
      past_name = cause_is ∙ cause_skip (name_cause name) _ (unfold name_cause in (rw n refl))

      pub new_attributes : attributes_ok attributes ≡ false → new_file_in y d m a name attributes hash t hint ≡ refuse 13 hint d
      new_attributes e =
          let q : attribute_cause attributes ≡ 13 = unfold attribute_cause in (rw e refl) in
          refused_is 13 (past_name ∙ cause_met (attribute_cause attributes) _ (λ z. omega arith) ∙ q) (λ z. omega arith)

      module _ (b : attributes_ok attributes ≡ true) (k : ℕ) (room : Room) (en : k ≡ new_entries (length name)) (at : room ≡ room_for y.size (bytes_in y d a) k) where
        growth_is : room.clusters ≡ new_growth y d a (length name)
        unfolding new_growth room_for
        growth_is = ap (λ (x : Room). x.clusters) at ∙ ap (growth y.size (bytes_in y d a)) en

        last_cause : new_file_cause y d m a name attributes hint ≡ space_cause room.clusters (count (is_usable y d m) 2 y.count)
        last_cause =
            past_name ∙ cause_skip (attribute_cause attributes) _ (unfold attribute_cause in (rw b refl)) ∙ cause_last _
            ∙ ap (λ (x : ℕ). space_cause x (count (is_usable y d m) 2 y.count)) (sym growth_is)

        pub new_space : (c : ℕ) → c ≡ space_cause room.clusters (count (is_usable y d m) 2 y.count) → c ≢ 0
            → new_file_in y d m a name attributes hash t hint ≡ refuse c hint d
        new_space c e z = refused_is c (last_cause ∙ sym e) z

        pub new-done : (c : ℕ) → c ≡ space_cause room.clusters (count (is_usable y d m) 2 y.count) → c ≡ 0 → (s : List ℕ) → s ≡ new_set name attributes hash t
            → new_file_in y d m a name attributes hash t hint ≡ placed y (grow_by y m room.clusters (standing d a hint)) k s
        new-done c e z s f =
            let q : new_file_cause y d m a name attributes hint ≡ 0 = last_cause ∙ sym e ∙ z in
            done_is q ∙ ap (λ (x : ℕ). placed y (grow_by y m x (standing d a hint)) (new_entries (length name)) (new_set name attributes hash t)) (sym growth_is)
            ∙ ap₂ (λ (x : ℕ) (l : List ℕ). placed y (grow_by y m room.clusters (standing d a hint)) x l) (sym en) (sym f)

-- ---- the public call

module _ (g : Geometry) (d m name : List ℕ) (attributes hash : ℕ) (t : Stamps) (hint : ℕ) where
  pub call_not-admitted : (k : ℕ) → k ≡ admit_cause g d m → k ≢ 0 → new_file g d m name attributes hash t hint ≡ refuse k hint d
  unfolding new_file
  call_not-admitted k e z = rw (← e, ne_eqb k 0 z) refl

  module _ (y : Layout) (w : Admits g d m y) where
    call_is : new_file g d m name attributes hash t hint ≡ new_file_in y d m (root_record y d (root_cluster g)) name attributes hash t hint
    unfolding new_file
    call_is = (rw w.cause refl) ∙ ap (λ (x : Layout). new_file_in x d m (root_record x d (root_cluster g)) name attributes hash t hint) (sym w.is)

    pub call_hint : in_heap y.count hint ≡ false → new_file g d m name attributes hash t hint ≡ refuse 2 hint d
    call_hint h = call_is ∙ new_hint y d m (root_record y d (root_cluster g)) name attributes hash t hint h

    module _ (h : in_heap y.count hint ≡ true) (r : Directory) (o : r ≡ open_root y d (root_cluster g)) where
      pub call_root : r.number ≢ 0 → new_file g d m name attributes hash t hint ≡ refuse r.number hint d
      call_root z =
          call_is
          ∙ new_directory y d m (root_record y d (root_cluster g)) name attributes hash t hint h r.number (root_number y d (root_cluster g) r o) z

      pub call_opens : r.number ≡ 0 → new_file g d m name attributes hash t hint ≡ new_file_in y d m r.allocation name attributes hash t hint
      call_opens z =
          call_is ∙ ap (λ (x : Allocation). new_file_in y d m x name attributes hash t hint) (sym (root_record_lem y d (root_cluster g) r o z))

module _ (g : Geometry) (d m : List ℕ) (hint : ℕ) (y : Layout) (w : Admits g d m y)
    (h : in_heap y.count hint ≡ true) (r : Directory) (o : r ≡ open_root y d (root_cluster g)) where
  pub call_ready : r.number ≡ 0 → Ready y d m r.allocation hint
  call_ready z =
      let c : directory_cause y d r.allocation ≡ 0 =
      ap (directory_cause y d) (root_record_lem y d (root_cluster g) r o z) ∙ sym (root_number y d (root_cluster g) r o) ∙ z in
      record { laid = w.laid; apart = w.apart; long = w.long; map = w.wide; mapped = w.mapped; directory = c; hint_in = h }
