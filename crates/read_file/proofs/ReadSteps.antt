-- A read as the code meets its causes, and the file that it opens. Assumes nothing.
use mathlib.Core.Path.{◌≡◌, refl, sym, ◌∙◌, ap}
use mathlib.Core.Bool.{Bool, true, cond}
use mathlib.Core.List.{List, [], ◌∷◌}
use Prim.Native.Nat.{ℕ, ◌*◌, ◌/◌, ◌≤◌, ◌<◌}
use native.Mathlib.Nat.{div-lt_iff_lt-mul}
use native.Mathlib.Omega.{arith}
use lib.Dec.{eqb}
use lib.ListN.{length, get_or}
use borrow.Author.Tests.{eq-eqb, ne_eqb}
use Rattle.tables.specs.Lists.{every}
use Rattle.boot.specs.declared.geometry.Geometry.{Geometry}
use Rattle.boot.specs.declared.layout.Layout.{Layout}
use Rattle.boot.specs.Geometry.{root_cluster}
use Rattle.boot.specs.Causes.{first_cause, admit_cause}
use Rattle.boot.proofs.CauseLaws.{cause_skip, cause_met, cause_last, cause_none}
use Rattle.boot.proofs.Admission.{Admits}
use Rattle.metadata.specs.Fat.{fat_entry}
use Rattle.metadata.proofs.Frame.{Fits}
use Rattle.stream.specs.declared.allocation.Allocation.{Allocation}
use Rattle.stream.specs.declared.bytes.Place.{Place}
use Rattle.stream.specs.Internal.{reached}
use Rattle.stream.specs.Stream.{number_of, stream_of, clusters_in}
use Rattle.stream.specs.Bytes.{bytes_in}
use Rattle.entry_set.specs.Fields.{valid_length}
use Rattle.entry_set.specs.Sound.{well_formed}
use Rattle.directory.specs.Directory.{root_record, directory_cause}
use Rattle.directory.specs.Open.{file_record, set_in, file_cause}
use Rattle.directory.specs.Internal.{OpenedFile, start_place, found_file, root_file, root_file_set}
use Rattle.directory.proofs.DirectoryLaws.{clusters_along, clusters_length}
use Rattle.directory.proofs.CursorLaws.{along_at}
use Rattle.directory.proofs.EntryLaws.{sound_formed}
use Rattle.directory.proofs.StartLaws.{start_read}
use Rattle.directory.proofs.RootFileLaws.{root_opens, root-file_number, root-file_found}
use Rattle.directory.proofs.FileLaws.{file_sound, file-reads, file_valid, file_holds, file-read}
use Rattle.read_file.specs.declared.part.Part.{Part}
use Rattle.read_file.specs.Part.{no_part}
use Rattle.read_file.specs.Read.{zero_cause, read_cause, file_part, read_in, read_number, read_part}
use Rattle.read_file.specs.Internal.{Readable}

-- ---- the zeros

pub zero-empty : (z : List ℕ) → length z ≡ 0 → 15 ≡ zero_cause z
unfolding zero_cause
zero-empty z e = rw (eq-eqb (length z) 0 e) refl

pub zero_tested : (z : List ℕ) (t : Bool) → (length z ≡ 0 → ⊥) → every (λ b. eqb b 0) z ≡ t → cond t 0 15 ≡ zero_cause z
unfolding zero_cause
zero_tested z t n e = rw (ne_eqb (length z) 0 n, e) refl

-- ---- the file at a slot of the root, where nothing refuses it

module _ (y : Layout) (d m : List ℕ) (a : Allocation) (slot offset : ℕ) where
  abbrev causes : ℕ
  causes = first_cause (directory_cause y d a ∷ file_cause y d m a slot ∷ [])

  module _ (w : Fits y d) (f : OpenedFile) (e : f ≡ root_file y d m a slot offset) (s : List ℕ) (q : s ≡ root_file_set y d a slot) (z : f.number ≡ 0) where
    none : causes ≡ 0
    none = sym (root-file_number y d m a slot offset f e) ∙ z

    directory_none : directory_cause y d a ≡ 0
    directory_none = (cause_none (directory_cause y d a) (file_cause y d m a slot ∷ []) none).0

    file-none : file_cause y d m a slot ≡ 0
    file-none = (cause_none (file_cause y d m a slot) [] (cause_none (directory_cause y d a) (file_cause y d m a slot ∷ []) none).1).0

    pub found_set : s ≡ set_in y d a slot
    found_set = q ∙ sym (root_opens y d m a slot offset directory_none).1 ∙ file-read y d m a slot file-none

    stream_is : f.stream ≡ file_record y d (set_in y d a slot)
    stream_is = ap (λ (x : OpenedFile). x.stream) (e ∙ root-file_found y d m a slot offset none) ∙ (unfold found_file in refl)

    place_is : f.place ≡ start_place y d (file_record y d (set_in y d a slot)) (set_in y d a slot) offset
    place_is = ap (λ (x : OpenedFile). x.place) (e ∙ root-file_found y d m a slot offset none) ∙ (unfold found_file in refl)

    formed : well_formed y.count y.size s ≡ true
    formed =
        ap (well_formed y.count y.size) found_set
        ∙ (unfold set_in in (sound_formed y.count y.size (bytes_in y d a) slot (file_sound y d m a slot file-none)))

    -- its cluster at an offset that is read
    seen_is : offset < valid_length s → f.place.cluster ≡ get_or (clusters_in y d f.stream) (offset / y.size) 0
    seen_is h =
        let b = file_record y d (set_in y d a slot) in
        let r = file-reads y d m a slot file-none in
        let v : offset < valid_length (set_in y d a slot) = omega (arith, h, ap valid_length found_set) in
        let c : valid_length (set_in y d a slot) ≤ b.count * y.size =
        omega (arith, file_valid y d m a slot file-none, file_holds y d m a slot file-none w.laid, ap (λ (n : ℕ). n * y.size) (clusters_length y d b r)) in
        let l : 1 ≤ y.size = omega (arith, w.laid.size_low) in
        ap (λ (p : Place). p.cluster) place_is
        ∙ ap (reached (fat_entry y d) b.no_fat_chain b.first) (start_read y.size (valid_length (set_in y d a slot)) offset b.count v c l)
        ∙ sym
        (ap (λ (x : Allocation). get_or (clusters_in y d x) (offset / y.size) 0) stream_is ∙ ap (λ (ks : List ℕ). get_or ks (offset / y.size) 0) (clusters_along y d b r)
        ∙ along_at (fat_entry y d) b.no_fat_chain b.first b.count (offset / y.size) ((div-lt_iff_lt-mul {k = y.size} {x = offset} {y = b.count} l).1 (omega (arith, v, c))))

    pub found_readable : Readable y d s f.stream f.place.cluster offset
    found_readable = record {
      long = w.long;
      formed = formed;
      stream = stream_is ∙ ap (file_record y d) (sym found_set);
      reads = ap (λ (x : Allocation). number_of (stream_of y d x)) stream_is ∙ file-reads y d m a slot file-none;
      seen = seen_is;
    }

-- ---- number and part in the root

module _ (y : Layout) (d m : List ℕ) (a : Allocation) (z : List ℕ) (slot : ℕ) where
  cause_is : read_cause y d m a z slot ≡ first_cause (zero_cause z ∷ directory_cause y d a ∷ file_cause y d m a slot ∷ [])
  unfolding read_cause
  cause_is = refl

  pub cause_zeros : (n : ℕ) → n ≡ zero_cause z → (n ≡ 0 → ⊥) → n ≡ read_cause y d m a z slot
  cause_zeros n e q = e ∙ sym (cause_is ∙ cause_met (zero_cause z) (directory_cause y d a ∷ file_cause y d m a slot ∷ []) (λ t. q (e ∙ t)))

  pub cause_file : zero_cause z ≡ 0 → first_cause (directory_cause y d a ∷ file_cause y d m a slot ∷ []) ≡ read_cause y d m a z slot
  cause_file e = sym (cause_is ∙ cause_skip (zero_cause z) (directory_cause y d a ∷ file_cause y d m a slot ∷ []) e)

  pub part_not : (offset : ℕ) → (read_cause y d m a z slot ≡ 0 → ⊥) → no_part ≡ read_in y d m a z slot offset
  unfolding read_in
  part_not offset n = rw (ne_eqb (read_cause y d m a z slot) 0 n) refl

  pub part_done : (offset : ℕ) (s : List ℕ) → s ≡ set_in y d a slot → read_cause y d m a z slot ≡ 0
      → file_part y d s (length z) offset ≡ read_in y d m a z slot offset
  unfolding read_in
  part_done offset s q e = rw (q, eq-eqb (read_cause y d m a z slot) 0 e) refl

-- ---- and behind the limits

module _ (g : Geometry) (d m z : List ℕ) (slot : ℕ) where
  pub number_not-admitted : (n : ℕ) → n ≡ admit_cause g d m → (n ≡ 0 → ⊥) → n ≡ read_number g d m z slot
  unfolding read_number
  number_not-admitted n e q = e ∙ sym (cause_met (admit_cause g d m) _ (λ t. q (e ∙ t)))

  pub part_not-admitted : (offset : ℕ) → (admit_cause g d m ≡ 0 → ⊥) → no_part ≡ read_part g d m z slot offset
  unfolding read_part
  part_not-admitted offset n = rw (ne_eqb (admit_cause g d m) 0 n) refl

  module _ (y : Layout) (w : Admits g d m y) where
    pub number_admitted : (n : ℕ) → n ≡ read_cause y d m (root_record y d (root_cluster g)) z slot → n ≡ read_number g d m z slot
    unfolding read_number
    number_admitted n e =
        e ∙ ap (λ (x : Layout). read_cause x d m (root_record x d (root_cluster g)) z slot) w.is
        ∙ sym (cause_skip (admit_cause g d m) _ w.cause ∙ cause_last _)

    pub part_admitted : (offset : ℕ) (p : Part) → p ≡ read_in y d m (root_record y d (root_cluster g)) z slot offset → p ≡ read_part g d m z slot offset
    unfolding read_part
    part_admitted offset p e =
        e ∙ ap (λ (x : Layout). read_in x d m (root_record x d (root_cluster g)) z slot offset) w.is ∙ (rw (eq-eqb (admit_cause g d m) 0 w.cause) refl)
