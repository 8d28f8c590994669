-- What is known of a file at a slot of a directory that nothing refuses, and which one nothing refuses. Assumes nothing.
use mathlib.Core.Path.{◌≡◌, refl, sym, ◌∙◌, ap}
use mathlib.Core.Bool.{Bool, true, false}
use mathlib.Core.List.{List, [], ◌∷◌}
use Prim.Native.Nat.{ℕ, ◌*◌, ◌≤◌}
use native.Mathlib.Omega.{arith}
use lib.Dec.{eqb}
use lib.ListN.{length}
use borrow.Author.Tests.{eqb-true}
use Rattle.boot.specs.declared.layout.Layout.{Layout}
use Rattle.boot.specs.Internal.{Laid}
use Rattle.boot.specs.Causes.{first_cause}
use Rattle.boot.proofs.CauseLaws.{cause_skip, cause_none}
use Rattle.stream.specs.declared.allocation.Allocation.{Allocation}
use Rattle.stream.specs.Stream.{number_of, stream_of, system_cause, clusters_in}
use Rattle.stream.specs.Bytes.{bytes_in}
use Rattle.entry_set.specs.Fields.{is_directory, valid_length, data_length, clusters_for}
use Rattle.entry_set.proofs.LengthLaws.{clusters_hold}
use Rattle.entry_set.proofs.SetLaws.{formed_lengths}
use Rattle.directory.specs.Entries.{is_sound}
use Rattle.directory.specs.Open.{file_record, entry_cause, directory_attribute_cause, stream_cause, set_in, file_cause}
use Rattle.directory.proofs.DirectoryLaws.{clusters_length}
use Rattle.directory.specs.Internal.{set_read}
use Rattle.directory.proofs.EntryLaws.{sound_file, sound_few, sound_room, sound_formed}
use Rattle.directory.proofs.OpenLaws.{fits_yes, read_some, cause_is}

-- the record of a set's stream has the clusters that its length takes
pub record_count : (y : Layout) (d s : List ℕ) → (file_record y d s).count ≡ clusters_for y.size (data_length s)
record_count y d s = by (eqb n 0) refl
  where
    n : ℕ
    n = clusters_for y.size (data_length s)

    by : (t : Bool) → eqb n 0 ≡ t → (file_record y d s).count ≡ n
    by true e = unfold file_record in (rw e (sym (eqb-true n 0 e)))
    by false e = unfold file_record in (rw e refl)

module _ (y : Layout) (d m : List ℕ) (a : Allocation) (slot : ℕ) where
  abbrev bs : List ℕ
  bs = bytes_in y d a

  abbrev s : List ℕ
  s = set_in y d a slot

  abbrev b : Allocation
  b = file_record y d s

  -- a sound entry that is no directory's, with a stream that nothing refuses
  pub file_opens : is_sound y.count y.size (bytes_in y d a) slot ≡ true → is_directory (set_in y d a slot) ≡ false
      → stream_cause y d m (file_record y d (set_in y d a slot)) ≡ 0 → file_cause y d m a slot ≡ 0
  file_opens e f r =
      cause_is y d m a slot ∙ cause_skip (entry_cause y bs slot) (directory_attribute_cause s ∷ stream_cause y d m b ∷ []) (unfold entry_cause in (rw e refl))
      ∙ cause_skip (directory_attribute_cause s) (stream_cause y d m b ∷ []) (unfold directory_attribute_cause in (rw f refl))
      ∙ cause_skip (stream_cause y d m b) [] r ∙ (unfold first_cause in refl)

  module _ (z : file_cause y d m a slot ≡ 0) where
    after_entry : (entry_cause y bs slot ≡ 0) × (first_cause (directory_attribute_cause s ∷ stream_cause y d m b ∷ []) ≡ 0)
    after_entry = cause_none (entry_cause y bs slot) (directory_attribute_cause s ∷ stream_cause y d m b ∷ []) (sym (cause_is y d m a slot) ∙ z)

    after_attribute : (directory_attribute_cause s ≡ 0) × (first_cause (stream_cause y d m b ∷ []) ≡ 0)
    after_attribute = cause_none (directory_attribute_cause s) (stream_cause y d m b ∷ []) after_entry.1

    pub file_sound : is_sound y.count y.size (bytes_in y d a) slot ≡ true
    file_sound = by (is_sound y.count y.size bs slot) refl
      where
        by : (t : Bool) → is_sound y.count y.size bs slot ≡ t → t ≡ true
        by true e = refl
        by false e =
            let q : entry_cause y bs slot ≡ 10 = unfold entry_cause in (rw e refl) in
            absurd (omega (arith, q, after_entry.0))

    pub file_plain : is_directory (set_in y d a slot) ≡ false
    file_plain = by (is_directory s) refl
      where
        by : (t : Bool) → is_directory s ≡ t → t ≡ false
        by true e =
            let q : directory_attribute_cause s ≡ 11 = unfold directory_attribute_cause in (rw e refl) in
            absurd (omega (arith, q, after_attribute.0))
        by false e = refl

    -- its stream reads
    pub file-reads : number_of (stream_of y d (file_record y d (set_in y d a slot))) ≡ 0
    file-reads =
        (cause_none (number_of (stream_of y d b)) (system_cause m (clusters_in y d b) ∷ [])
        (unfold stream_cause in (cause_none (stream_cause y d m b) [] after_attribute.1).0)).0

    pub file_valid : valid_length (set_in y d a slot) ≤ data_length (set_in y d a slot)
    unfolding set_in
    file_valid = (formed_lengths y.count y.size s (sound_formed y.count y.size bs slot file_sound)).valid

    -- and holds its length
    pub file_holds : Laid y → data_length (set_in y d a slot) ≤ length (clusters_in y d (file_record y d (set_in y d a slot))) * y.size
    file_holds l =
        omega (
          arith,
          clusters_hold y.size (omega (arith, l.size_low)) (data_length s),
          ap (λ (x : ℕ). x * y.size) (clusters_length y d b file-reads ∙ record_count y d s),
        )

    -- its set is what opening reads
    pub file-read : set_read (bytes_in y d a) slot ≡ set_in y d a slot
    file-read =
        sym
        (read_some y d a slot
        (fits_yes bs slot (sound_file y.count y.size bs slot file_sound) (sound_few y.count y.size bs slot file_sound) (sound_room y.count y.size bs slot file_sound)))
