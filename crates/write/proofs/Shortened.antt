-- A shorter length, as a step: the set is stored for the kept clusters, and the others are freed. Assumes nothing.
use mathlib.Core.Path.{◌≡◌, refl, sym, ◌∙◌, ap, ap₂, subst}
use mathlib.Core.Bool.{Bool, false, cond}
use mathlib.Core.List.{[], List, ◌∷◌}
use mathlib.Core.Option.{none, some, some-injective}
use Prim.Native.Nat.{ℕ, suc, ◌*◌, ◌≤◌, ◌<◌, min}
use native.Mathlib.Omega.{arith}
use lib.ListN.{length, take}
use lib.Seq.{length-take-le}
use borrow.Author.Tests.{lt-ltb}
use Rattle.tables.specs.Table.{upd}
use Rattle.tables.specs.Lists.{Mem}
use Rattle.tables.proofs.TableLaws.{upd_same}
use Rattle.tables.proofs.ListLaws.{mem_take}
use Rattle.boot.specs.declared.geometry.Geometry.{Geometry}
use Rattle.boot.specs.declared.layout.Layout.{Layout}
use Rattle.stream.specs.declared.allocation.Allocation.{Allocation}
use Rattle.stream.specs.Chain.{listed}
use Rattle.stream.specs.Stream.{number_of, stream_of, empty, clusters_in}
use Rattle.stream.specs.Bytes.{store_at, bytes_in}
use Rattle.entry_set.specs.declared.stamp.Stamp.{Stamp}
use Rattle.entry_set.specs.Fields.{is_directory, valid_length, data_length, clusters_for}
use Rattle.entry_set.proofs.SetLaws.{formed_lengths}
use Rattle.entry_set.proofs.LengthLaws.{clusters_hold, clusters_mono}
use Rattle.write_shrink.specs.Shrink.{kept_record, shrink_in}
use Rattle.directory.specs.Entries.{entries_at}
use Rattle.directory.specs.Internal.{sets}
use Rattle.directory.proofs.FitLaws.{Fit}
use Rattle.directory.proofs.StoreLaws.{sets-some, replaced_ordered, replaced_sets}
use Rattle.directory.proofs.DirectoryLaws.{clusters_length}
use Rattle.file.specs.Outcome.{carried}
use Rattle.directory.specs.Open.{file_record, set_in, shown}
use Rattle.file.specs.Refresh.{entries_of, recorded, stored, open_cause}
use Rattle.write_length.specs.SetLength.{set_length_cause, shorter, resized}
use Rattle.write.specs.Calls.{SetLength, step}
use Rattle.write.specs.Consistent.{Consistent, lay, root, root_bytes, set_of, stream_at, file_clusters}
use Rattle.write.specs.Contents.{contents}
use Rattle.write.specs.Model.{resize, onto, accepted, has_list, finds}
use Rattle.write.specs.Space.{beyond, must_add}
use Rattle.write.specs.Demand.{call_slot, hint_of, set_after, entries_put, root_adds, slot_answered, hint_answered}
use Rattle.write.proofs.Shown.{shown-shorter}
use Rattle.write.proofs.Reading.{reads_as, bytes_length}
use Rattle.write.proofs.Scene.{both_clear, members, fits, ordered, slot_number, slot_off, slot_takes, slot_fit}
use Rattle.write.proofs.Change.{Change, takes, contents_of, contents_is}
use Rattle.write.proofs.Steps.{Step, carried_step}
use Rattle.write.proofs.Hints.{hint_none}
use Rattle.write.proofs.Answers.{decided-number, decided-carried, set_decided}
use Rattle.write.proofs.Open.{open_set, open_file_lem}
use Rattle.write.proofs.Recorded.{recorded-length, recorded-entries, recorded_fit, recorded_directory, recorded_valid, recorded_data, recorded_back}
use Rattle.write.proofs.Cut.{open_entries, cut-shorter, cut_clusters, cut_bytes, cut_marks, cut_fits, cut_change}

-- no kept clusters, an empty record
kept_bare : (a : Allocation) (ks : List ℕ) → (kept_record a ks).count ≡ 0 → kept_record a ks ≡ empty
unfolding kept_record
kept_bare a [] z = refl
kept_bare a (k ∷ ks) z = absurd (omega arith)

module _ (g : Geometry) (m d : List ℕ) (c : Consistent g m d) (i len : ℕ) (t : Stamp) (hint : ℕ)
    (less : len < data_length (set_of g d i)) (z : (step g m d (SetLength i len t hint)).answer.number ≡ 0) where
  abbrev y : Layout
  y = lay g d

  -- the file's set and stream
  abbrev s : List ℕ
  s = set_of g d i

  abbrev b : Allocation
  b = file_record (lay g d) d (set_of g d i)

  abbrev ks : List ℕ
  ks = clusters_in y d b

  -- what is kept
  abbrev keep : ℕ
  keep = clusters_for (lay g d).size len

  abbrev b' : Allocation
  b' = kept_record b (take keep ks)

  abbrev valid' : ℕ
  valid' = min (valid_length s) len

  abbrev x : List ℕ
  x = recorded s b' valid' len t

  abbrev n : ℕ
  n = entries_of (set_of g d i)

  abbrev d₁ : List ℕ
  d₁ = store_at y d (clusters_in y d (root g d)) (32 * i) (take (32 * n) x)

  abbrev d₂ : List ℕ
  d₂ = (shrink_in y d₁ m b keep hint).volume

  opened : open_cause y d m (root g d) i hint ≡ 0
  unfolding set_length_cause
  opened = (both_clear _ _ (sym (decided-number (set_decided g m d c.limits_hold i len t hint)) ∙ z)).0

  done : step g m d (SetLength i len t hint) ≡ carried 0 hint d₂
  done = decided-carried (set_decided g m d c.limits_hold i len t hint) z ∙ out
    where
      out : resized y d m (root g d) i (set_in y d (root g d) i) len t hint ≡ carried 0 hint d₂
      out =
          unfold resized in (unfold shorter in (unfold stored in (unfold set_in in (unfold set_of in (unfold root_bytes in
          (rw (lt-ltb len (data_length s) less) refl))))))

  own : sets (root_bytes g d) i ≡ some s
  own = open_set g m d i hint opened

  fit : Fit y.count y.size (entries_at (root_bytes g d) i) s
  fit = slot_fit g m d c i s own

  full : length x ≡ 608
  full = recorded-length s b' valid' len t ∙ fit.full

  entries : n ≡ entries_at (root_bytes g d) i
  entries = open_entries g m d c i hint opened x full keep

  big : 1 ≤ y.size
  big = let l = (fits g m d c).laid.size_low in omega arith

  fewer : keep ≤ clusters_for y.size (data_length s)
  fewer = clusters_mono y.size big len (data_length s) (omega arith)

  -- the kept stream
  reads : number_of (stream_of y d₂ b') ≡ 0
  reads = (cut-shorter g m d c i hint opened x full keep).moved.family.reads (suc i) b' (upd_same (upd (members g d) 0 (some (root g d))) (suc i) (some b'))

  listed_now : stream_of y d₂ b' ≡ listed (clusters_in y d₂ b')
  listed_now = reads_as y d₂ b' reads

  all : clusters_for y.size len ≡ b'.count
  all =
      omega (
        arith,
        clusters_length y d₂ b' reads,
        ap length (cut_clusters g m d c i hint opened x full keep),
        length-take-le keep ks (omega (arith, fewer, slot_takes g m d c i s own)),
      )

  bare : b'.count ≡ 0 → b' ≡ empty
  bare = kept_bare b (take keep ks)

  valid_le : valid' ≤ len
  valid_le = omega arith

  fit' : Fit y.count y.size n x
  fit' =
      subst (λ (k : ℕ). Fit y.count y.size k x) (sym entries)
      (recorded_fit y d₂ (cut_fits g m d c i hint opened x full keep) b' (clusters_in y d₂ b') listed_now len all bare valid' valid_le
      (entries_at (root_bytes g d) i) s fit t)

  data_now : data_length x ≡ len
  data_now =
      recorded_data y d₂ (cut_fits g m d c i hint opened x full keep) b' (clusters_in y d₂ b') listed_now len all bare valid' valid_le
      (entries_at (root_bytes g d) i) s fit t

  valid_now : valid_length x ≡ valid'
  valid_now =
      recorded_valid y d₂ (cut_fits g m d c i hint opened x full keep) b' (clusters_in y d₂ b') listed_now len all bare valid' valid_le
      (entries_at (root_bytes g d) i) s fit t

  kind_now : is_directory x ≡ false
  kind_now =
      recorded_directory y d₂ (cut_fits g m d c i hint opened x full keep) b' (clusters_in y d₂ b') listed_now len all bare valid' valid_le
      (entries_at (root_bytes g d) i) s fit t
      ∙ open_file_lem g m d i hint opened

  back : file_record y d₂ x ≡ b'
  back =
      recorded_back y d₂ (cut_fits g m d c i hint opened x full keep) b' (clusters_in y d₂ b') listed_now len all bare valid' valid_le
      (entries_at (root_bytes g d) i) s fit t

  back_of : (s' : List ℕ) → some x ≡ some s' → file_record y d₂ s' ≡ b'
  back_of s' q = ap (file_record y d₂) (sym (some-injective x s' q)) ∙ back

  change : Change g m d d₂ 0 i (some x)
  change =
      let f = (sets-some (root_bytes g d) i s own).0 in
      cut_change g m d c i hint opened x full keep (some x) (some b') (cut-shorter g m d c i hint opened x full keep).moved
      (replaced_ordered y.count y.size (root_bytes g d) i n x (ordered g m d c) f entries fit')
      (replaced_sets y.count y.size (root_bytes g d) i n x (ordered g m d c) f entries fit')
      (unfold entries_put in (ap (λ (k : ℕ). take (32 * k) x) (recorded-entries s b' valid' len t)))
      (λ s' q. ap some (sym (back_of s' q)))
      (λ s' q k r.
      slot_off g m d c i s own k
      (mem_take keep ks
      (subst (Mem k) (ap (clusters_in y d₂) (back_of s' q) ∙ cut_clusters g m d c i hint opened x full keep) r)))
      (omega (arith, cut_marks g m d c i hint opened x full keep, taken_before, taken_now, fewer))
    where
      taken_before : takes y (sets (root_bytes g d) i) ≡ clusters_for y.size (data_length s)
      taken_before = ap (takes y) own ∙ (unfold takes in refl)

      taken_now : takes y (some x) ≡ clusters_for y.size len
      taken_now = unfold takes in (ap (clusters_for y.size) data_now)

  -- what it showed, and shows
  before : contents g d i ≡ some (shown (bytes_in y d b) (valid_length s) (data_length s))
  before =
      contents_is g d (ordered g m d c) i ∙ ap (contents_of y d) own
      ∙ (unfold contents_of in
      (ap (λ (k : Bool). cond k none (some (shown (bytes_in y d b) (valid_length s) (data_length s)))) (open_file_lem g m d i hint opened)))

  room : data_length s ≤ length (bytes_in y d b)
  room =
      omega (
        arith,
        bytes_length y d b (slot_number g m d c i s own) (fits g m d c),
        clusters_hold y.size big (data_length s),
        ap (λ (k : ℕ). k * y.size) (slot_takes g m d c i s own),
      )

  after : contents_of y d₂ (some x) ≡ some (resize (shown (bytes_in y d b) (valid_length s) (data_length s)) len)
  unfolding contents_of
  after =
      ap (λ (k : Bool). cond k none (some (shown (bytes_in y d₂ (file_record y d₂ x)) (valid_length x) (data_length x)))) kind_now
      ∙ ap some
      (ap₂ (λ (v l : ℕ). shown (bytes_in y d₂ (file_record y d₂ x)) v l) valid_now data_now
      ∙ ap (λ (bs : List ℕ). shown bs valid' len) (ap (bytes_in y d₂) back ∙ cut_bytes g m d c i hint opened x full keep)
      ∙ shown-shorter (bytes_in y d b) (valid_length s) (data_length s) (formed_lengths y.count y.size s fit.formed).valid room
      (keep * y.size) len (omega arith) (clusters_hold y.size big len))

  same : contents_of y d₂ (some x) ≡ onto (λ l. resize l len) (contents g d i)
  same = after ∙ sym (ap (onto (λ l. resize l len)) before ∙ (unfold onto in refl))

  set_after_lem : set_after g m d (SetLength i len t hint) ≡ some x
  unfolding set_after stream_at file_clusters
  set_after_lem = rw (lt-ltb len (data_length s) less) refl

  hinted : hint ≡ hint_answered g d d₂ (SetLength i len t hint)
  unfolding hint_of must_add beyond
  hinted = hint_none g d d₂ (SetLength i len t hint) (omega (arith, fewer))

  pub shorter-step : Step g m d (SetLength i len t hint)
  unfolding call_slot accepted finds has_list root_adds slot_answered
  shorter-step =
      carried_step g m d (SetLength i len t hint) 0 hint d₂ 0 (some x) c done set_after_lem refl refl hinted change
      (same ∙ sym (upd_same (contents g d) i (onto (λ l. resize l len) (contents g d i)))) (ap has_list before)
