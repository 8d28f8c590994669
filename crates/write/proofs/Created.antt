-- A new file, as a step: the root grows where it must, and the set is stored in it. Assumes nothing.
use mathlib.Core.Path.{◌≡◌, refl, sym, ◌∙◌, ap, ap₂}
use mathlib.Core.Bool.{Bool, true, not, cond}
use mathlib.Core.List.{[], List}
use mathlib.Core.Option.{Option, none, some, some-injective}
use Prim.Native.Nat.{ℕ, suc, ◌+◌, ◌*◌, ◌/◌, ◌≤◌}
use native.Mathlib.Decide.{ℕ_discrete}
use native.Mathlib.Omega.{arith}
use lib.ListN.{length, take}
use lib.Seq.{length-take-le}
use Rattle.primitives.specs.Splice.{splice}
use Rattle.tables.specs.Table.{upd}
use Rattle.tables.specs.Count.{count}
use Rattle.tables.proofs.TableLaws.{upd_same, upd_other}
use Rattle.boot.specs.declared.geometry.Geometry.{Geometry}
use Rattle.boot.specs.declared.layout.Layout.{Layout}
use Rattle.boot.specs.Geometry.{root_cluster}
use Rattle.boot.specs.Layout.{in_heap}
use Rattle.boot.specs.Causes.{heap_cause, wrap, space_cause}
use Rattle.boot.proofs.CauseLaws.{cause_none}
use Rattle.metadata.specs.Usable.{is_usable}
use Rattle.metadata.proofs.Frame.{Fits, fits_kept}
use Rattle.stream.specs.declared.allocation.Allocation.{Allocation}
use Rattle.stream.specs.Stream.{number_of, stream_of, empty, clusters_in}
use Rattle.stream.specs.Bytes.{store_at, bytes_in}
use Rattle.entry_set.specs.declared.stamp.Stamps.{Stamps}
use Rattle.entry_set.specs.Fields.{valid_length, data_length}
use Rattle.entry_set.specs.Name.{name_ok, name_cause, attributes_ok, attribute_cause}
use Rattle.entry_set.specs.New.{new_entries, new_set}
use Rattle.entry_set.proofs.SetLaws.{new-length, new-zero, new-entries, new_valid, new_data, new_directory, new_few, new_formed}
use Rattle.entry_set.proofs.LengthLaws.{clusters_none}
use Rattle.directory.specs.Directory.{root_record}
use Rattle.directory.specs.Entries.{entry_count}
use Rattle.directory.specs.Internal.{sets}
use Rattle.directory.specs.Room.{free_run, slot_of, with_zeros, growth}
use Rattle.directory.proofs.FitLaws.{Fit}
use Rattle.directory.proofs.DirectoryLaws.{clusters_length}
use Rattle.file.specs.Outcome.{carried}
use Rattle.directory.specs.Open.{file_record, shown}
use Rattle.write_dir.specs.Place.{GrownDirectory, grow_by}
use Rattle.write_dir.proofs.InsertLaws.{insert_room, insert_free, insert_ordered, insert_sets}
use Rattle.file.specs.Refresh.{entries_of}
use Rattle.write_file.specs.NewFile.{new_growth, new_file_cause, placed}
use Rattle.write_file.proofs.NewFileLaws.{space_enough}
use Rattle.write.specs.Calls.{New, step}
use Rattle.write.specs.Consistent.{Consistent, lay, root, root_clusters, root_bytes, set_of}
use Rattle.write.specs.Contents.{contents}
use Rattle.write.specs.Model.{accepted, has_list, finds}
use Rattle.write.specs.Space.{must_add}
use Rattle.write.specs.Demand as demand
use Rattle.write.proofs.Shown.{shown-empty}
use Rattle.write.proofs.Reading.{reads_as, bytes_length, root_back, record_empty}
use Rattle.write.proofs.Family.{Moved, Stored, same_clusters, out_of_empty, empty_clusters, empty_bytes, family_add, outside_add, moved_again, store_member}
use Rattle.write.proofs.Zeroed.{Wider, grow_member}
use Rattle.write.proofs.Scene.{both_clear, if_clear, mapped, root_first, root-chain, root-some, members, member-root, fits, size_per, per_low, root-count, ordered, family}
use Rattle.write.proofs.Change.{Change, takes, contents_of, contents_is}
use Rattle.write.proofs.Steps.{Step, refused_step, carried_step}
use Rattle.write.proofs.Hints.{hint_none, hint_some, grow_same, grow_next, root_last}
use Rattle.write.proofs.Moves.{moves_none, moves_root, moves_file, change_of}
use Rattle.write.proofs.Answers.{decided-number, decided-carried, new-decided}

module _ (g : Geometry) (m d : List ℕ) (c : Consistent g m d) (name : List ℕ) (attributes hash : ℕ) (t : Stamps) (hint : ℕ) where
  abbrev y : Layout
  y = lay g d

  abbrev S : ℕ → Option Allocation
  S = members g d

  abbrev R : List ℕ
  R = root_bytes g d

  -- the set and its entries
  abbrev x : List ℕ
  x = new_set name attributes hash t

  abbrev n : ℕ
  n = new_entries (length name)

  -- the root grown
  abbrev more : ℕ
  more = new_growth (lay g d) d (root g d) (length name)

  abbrev w : GrownDirectory
  w = grow_by y m more (record { volume = d; directory = root g d; hint = hint })

  -- its bytes and the slot
  abbrev wide : List ℕ
  wide = with_zeros R (growth y.size R n * y.size)

  abbrev at : ℕ
  at = slot_of (free_run wide n)

  -- the volume
  abbrev d₂ : List ℕ
  d₂ = store_at y w.volume (clusters_in y w.volume w.directory) (32 * at) (take (32 * n) x)

  big : 1 ≤ y.size
  big = let l = (fits g m d c).laid.size_low in omega arith

  module _ (e : new_file_cause (lay g d) d m (root g d) name attributes hint ≡ 0) where
    causes : (heap_cause y.count hint ≡ 0) × (name_cause name ≡ 0) × (attribute_cause attributes ≡ 0)
        × (space_cause more (count (is_usable y d m) 2 y.count) ≡ 0)
    unfolding new_file_cause
    causes =
        let p = cause_none _ _ e in
        let q = cause_none _ _ p.1 in
        let r = cause_none _ _ q.1 in
        let s = both_clear _ _ r.1 in
        (p.0, r.0, s.0, s.1)

    hint_in : in_heap y.count hint ≡ true
    unfolding heap_cause
    hint_in = if_clear _ 2 (λ z. omega arith) causes.0

    named : name_ok name ≡ true
    unfolding name_cause
    named = if_clear _ 12 (λ z. omega arith) causes.1

    allowed : attributes_ok attributes ≡ true
    unfolding attribute_cause
    allowed = if_clear _ 13 (λ z. omega arith) causes.2

    enough : more ≤ count (is_usable y d m) 2 y.count
    enough = space_enough _ _ causes.3

    -- the root grown
    wider : Wider y d S 0 (root g d) more w
    wider =
        grow_member y m (mapped g m d c.limits_hold) 0 more (record { volume = d; directory = root g d; hint = hint }) (fits g m d c) S
        (family g m d c) (member-root g d) (root-some g d) hint_in enough

    bytes_wide : bytes_in y w.volume w.directory ≡ wide
    unfolding new_growth root_bytes
    bytes_wide = wider.bytes

    placed_at : placed y w n x ≡ carried at w.hint d₂
    unfolding placed
    placed_at =
        ap
        (λ (bs : List ℕ). carried (slot_of (free_run bs n)) w.hint
        (store_at y w.volume (clusters_in y w.volume w.directory) (32 * slot_of (free_run bs n)) (take (32 * n) x)))
        bytes_wide

    -- the set
    fit : Fit y.count y.size n x
    fit = record {
      full = new-length name attributes hash t;
      formed = new_formed name attributes hash t y.count y.size named;
      count = new-entries name attributes hash t;
      rest = new-zero name attributes hash t;
    }

    per : 1 ≤ y.size / 32
    per = omega (arith, per_low g m d c)

    own : upd S 0 (some w.directory) 0 ≡ some w.directory
    own = upd_same S 0 (some w.directory)

    reads : number_of (stream_of y w.volume w.directory) ≡ 0
    reads = wider.moved.family.reads 0 w.directory own

    fits₁ : Fits y w.volume
    fits₁ = fits_kept y d w.volume wider.moved.long (fits g m d c)

    room : 32 * at + length (take (32 * n) x) ≤ length (clusters_in y w.volume w.directory) * y.size
    room =
        let h : 32 * entry_count wide ≤ length wide = unfold entry_count in (omega arith) in
        omega (
          arith,
          length-take-le (32 * n) x (omega (arith, fit.full, (new_few name attributes hash t named).1)),
          insert_room y.count y.size (y.size / 32) (size_per g m d c) per R n x (ordered g m d c) fit,
          ap length bytes_wide,
          bytes_length y w.volume w.directory reads fits₁,
        )

    stored : Stored y w.volume d₂ (upd S 0 (some w.directory)) 0 w.directory (32 * at) (take (32 * n) x)
    stored =
        store_member y w.volume fits₁ (upd S 0 (some w.directory)) wider.moved.family 0 w.directory own (32 * at) (take (32 * n) x) room

    moved₂ : Moved y d d₂ S 0 (some w.directory)
    moved₂ = moved_again y d w.volume d₂ S 0 (some w.directory) (some w.directory) wider.moved stored.moved

    bytes₂ : bytes_in y d₂ w.directory ≡ splice wide (32 * at) (take (32 * n) x)
    bytes₂ = stored.bytes ∙ ap (λ (bs : List ℕ). splice bs (32 * at) (take (32 * n) x)) bytes_wide

    free : sets R at ≡ none
    free = insert_free y.count y.size (y.size / 32) (size_per g m d c) per R n x (ordered g m d c) fit

    -- its record is empty
    back : file_record y d₂ x ≡ empty
    back = record_empty y d₂ x (clusters_none y.size big (data_length x) (new_data name attributes hash t))

    back_of : (s : List ℕ) → some x ≡ some s → empty ≡ file_record y d₂ s
    back_of s q = sym back ∙ ap (file_record y d₂) (some-injective x s q)

    abbrev T : ℕ → Option Allocation
    T = upd S 0 (some w.directory)

    -- its empty stream joins
    joined : Moved y d₂ d₂ T (suc at) (some empty)
    joined = record {
      long = refl;
      family = family_add y d₂ T (suc at) empty refl moved₂.family;
      streams = λ _ _ _ _. refl;
      bytes = λ _ _ _ _. refl;
      outside = outside_add y d₂ T (suc at) empty refl;
    }

    growth_is : growth y.size R n ≡ more
    growth_is = unfold new_growth in (unfold root_bytes in refl)

    -- the root's bytes, and its clusters
    root_now : bytes_in y d₂ w.directory ≡ splice (with_zeros R (more * y.size)) (32 * at) (demand.entries_put (set_of g d at) (some x))
    unfolding demand.entries_put entries_of
    root_now =
        bytes₂
        ∙ ap₂ (λ (k l : ℕ). splice (with_zeros R (k * y.size)) (32 * at) (take (32 * l) x)) growth_is (sym (new-entries name attributes hash t))

    root_kept : take (length (root_clusters g d)) (clusters_in y d₂ w.directory) ≡ root_clusters g d
    unfolding root_clusters
    root_kept = ap (take (length (clusters_in y d (root g d)))) (same_clusters y w.volume d₂ w.directory stored.stream) ∙ wider.kept

    root_is : root_record y d₂ (root_cluster g) ≡ w.directory
    root_is =
        ap (root_record y d₂) (sym (wider.led.first ∙ root_first g d))
        ∙ root_back y d₂ w.directory (clusters_in y w.volume w.directory) (stored.stream ∙ reads_as y w.volume w.directory reads)
        (wider.led.flag (root-chain g d)) (λ z. root-some g d (omega (arith, wider.counts)))

    change : Change g m d d₂ more at (some x)
    change =
        change_of g m d d₂ more at (some x) w.directory (upd T (suc at) (some empty))
        (moves_file y d d₂ d₂ S T at (moves_root y d d d₂ S S at (moves_none y d S at (family g m d c)) (some w.directory) moved₂) (some empty) joined)
        root_is
        (upd_other T (suc at) (some empty) 0 (λ q. omega arith) ∙ own)
        (insert_ordered y.count y.size (y.size / 32) (size_per g m d c) per R n x (ordered g m d c) fit (bytes_in y d₂ w.directory) bytes₂)
        (insert_sets y.count y.size (y.size / 32) (size_per g m d c) per R n x (ordered g m d c) fit (bytes_in y d₂ w.directory) bytes₂)
        root_now
        root_kept
        (λ s q. upd_same T (suc at) (some empty) ∙ ap some (back_of s q))
        (λ s q k r.
        absurd
        (out_of_empty (clusters_in y d₂ (file_record y d₂ s))
        (empty_clusters y d₂ (file_record y d₂ s) (ap (λ (a : Allocation). a.count) (sym (back_of s q)))) r))
        (omega (
          arith,
          stored.marks,
          wider.marks,
          wider.counts,
          root-count g m d c,
          ap length (same_clusters y w.volume d₂ w.directory stored.stream),
          clusters_length y w.volume w.directory reads,
          takes_before,
          takes_now,
        ))
      where
        takes_before : takes y (sets R at) ≡ 0
        takes_before = ap (takes y) free ∙ (unfold takes in refl)

        takes_now : takes y (some x) ≡ 0
        takes_now = unfold takes in (clusters_none y.size big (data_length x) (new_data name attributes hash t))

    -- it shows nothing
    shows : contents_of y d₂ (some x) ≡ some []
    unfolding contents_of
    shows =
        ap (λ (b : Bool). cond b none (some (shown (bytes_in y d₂ (file_record y d₂ x)) (valid_length x) (data_length x)))) (new_directory name attributes hash t allowed)
        ∙ ap some
        (ap₂ (λ (v l : ℕ). shown (bytes_in y d₂ (file_record y d₂ x)) v l) (new_valid name attributes hash t) (new_data name attributes hash t)
        ∙ ap (λ (bs : List ℕ). shown bs 0 0) (empty_bytes y d₂ (file_record y d₂ x) (ap (λ (a : Allocation). a.count) back))
        ∙ shown-empty)

    none_before : contents g d at ≡ none
    none_before = contents_is g d (ordered g m d c) at ∙ ap (contents_of y d) free ∙ (unfold contents_of in refl)

    -- the hint is as given, or after the root's last cluster
    hinted : w.hint ≡ demand.hint_answered g d d₂ (New name attributes hash t hint)
    unfolding must_add demand.hint_of demand.clusters_grown
    hinted =
        elim (ℕ_discrete more 0) [
          | yes z ↦ grow_same y m more (record { volume = d; directory = root g d; hint = hint }) z
              ∙ hint_none g d d₂ (New name attributes hash t hint) z
          | no z ↦ grow_next y m (mapped g m d c.limits_hold) more (record { volume = d; directory = root g d; hint = hint }) (fits g m d c)
              (clusters_in y d (root g d)) (reads_as y d (root g d) ((family g m d c).reads 0 (root g d) (member-root g d))) hint_in enough (omega arith)
              ∙ ap (λ (k : ℕ). wrap y.count (k + 1))
              (sym (root_last g d d₂ w.directory change.long root_is (ap number_of stored.stream ∙ reads) (λ q. root-some g d (omega (arith, wider.counts)))))
              ∙ hint_some g d d₂ (New name attributes hash t hint) z
        ]

    created : step g m d (New name attributes hash t hint) ≡ placed y w n x → Step g m d (New name attributes hash t hint)
    unfolding demand.call_slot demand.set_after accepted finds has_list demand.root_adds must_add demand.slot_answered demand.root_grown new_growth root_bytes
    created q =
        carried_step g m d (New name attributes hash t hint) at w.hint d₂ more (some x) c (q ∙ placed_at) refl refl refl hinted change
        (shows ∙ sym (upd_same (contents g d) at (some []))) (ap (λ (o : Option (List ℕ)). not (has_list o)) none_before)

  pub new-step : Step g m d (New name attributes hash t hint)
  new-step =
      let r = new-decided g m d c.limits_hold name attributes hash t hint in
      elim (ℕ_discrete (step g m d (New name attributes hash t hint)).answer.number 0) [
        | yes z ↦ created (sym (decided-number r) ∙ z) (decided-carried r z)
        | no z ↦ refused_step g m d (New name attributes hash t hint) c z
      ]
