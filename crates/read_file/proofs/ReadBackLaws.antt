-- A read that is not refused gives what the file holds, part by part, on any volume. Assumes nothing.
use mathlib.Core.Path.{◌≡◌, refl, sym, ◌∙◌, subst}
use mathlib.Core.Logic.{◌≢◌, ⊎_elim}
use mathlib.Core.Bool.{Bool, true, false, not, ◌&&◌}
use mathlib.Core.List.{List, [], ◌∷◌}
use Prim.Native.Nat.{ℕ, ◌*◌, ◌≤◌}
use native.Mathlib.Decide.{dec_lt, ℕ_discrete}
use native.Mathlib.Omega.{arith}
use lib.Dec.{eqb}
use lib.ListN.{length, replicate}
use borrow.Author.Tests.{eq-eqb, ne_eqb, eqb-false, not-true}
use Rattle.tables.specs.Lists.{every}
use Rattle.tables.proofs.Cases.{and_left, and_right}
use Rattle.boot.specs.declared.geometry.Geometry.{Geometry}
use Rattle.boot.specs.declared.layout.Layout.{Layout}
use Rattle.boot.specs.Geometry.{root_cluster}
use Rattle.boot.specs.Layout.{layout_of, in_heap}
use Rattle.boot.specs.Causes.{first_cause, admit_cause}
use Rattle.boot.proofs.CauseLaws.{cause_skip, cause_none, cause_last}
use Rattle.boot.proofs.Admission.{Admits, admitted-limits, limits_admits}
use Rattle.metadata.proofs.Frame.{Fits}
use Rattle.stream.specs.declared.allocation.Allocation.{Allocation}
use Rattle.stream.specs.Stream.{clusters_in}
use Rattle.stream.specs.Bytes.{bytes_in, bytes_of}
use Rattle.entry_set.specs.Fields.{valid_length, data_length}
use Rattle.directory.specs.Directory.{root_record, directory_cause}
use Rattle.directory.specs.Open.{file_record, set_in, file_cause, shown}
use Rattle.directory.proofs.DirectoryLaws.{clusters_heap}
use Rattle.directory.proofs.FileLaws.{file-reads, file_valid, file_holds}
use Rattle.read_file.specs.Part.{no_part, part_in, part_bytes, Inside}
use Rattle.read_file.specs.Read.{zero_cause, read_cause, file_part, read_in, read_number, read_part}
use Rattle.read_file.specs.ReadBack.{root_set, set_clusters, set_contents, read_bytes, Longest, ReadBack}
use Rattle.read_file.proofs.FetchedLaws.{Piece, fetched_is}
use Rattle.read_file.proofs.PartLaws.{zeros_are, part_stored, part_zeros, part_none, stored_longest, none_inside, tape_length, part_piece, part_inside}

-- ---- the zeros

module _ (z : List ℕ) (e : zero_cause z ≡ 0) where
  zero_tests : not (eqb (length z) 0) && every (λ b. eqb b 0) z ≡ true
  zero_tests = by (not (eqb (length z) 0) && every (λ b. eqb b 0) z) refl
    where
      by : (t : Bool) → not (eqb (length z) 0) && every (λ b. eqb b 0) z ≡ t → t ≡ true
      by true q = refl
      by false q =
          let f : zero_cause z ≡ 15 = unfold zero_cause in (rw q refl) in
          absurd (omega (arith, e, f))

  -- there are some, and they are all 0
  pub zeros_some : 1 ≤ length z
  zeros_some =
      let n = eqb-false (length z) 0 (not-true (eqb (length z) 0) (and_left (not (eqb (length z) 0)) (every (λ b. eqb b 0) z) zero_tests)) in
      pos (length z) n
    where
      pos : (n : ℕ) → (n ≡ 0 → ⊥) → 1 ≤ n
      pos n h = elim (dec_lt 0 n) [ yes l ↦ l | no l ↦ absurd (h (omega arith)) ]

  pub zeros_all : z ≡ replicate (length z) 0
  zeros_all = zeros_are z (and_right (not (eqb (length z) 0)) (every (λ b. eqb b 0) z) zero_tests)

-- ---- the causes of a read

module _ (g : Geometry) (d m z : List ℕ) (slot : ℕ) where
  abbrev y : Layout
  y = layout_of g (length d)

  abbrev a : Allocation
  a = root_record (layout_of g (length d)) d (root_cluster g)

  abbrev s : List ℕ
  s = set_in (layout_of g (length d)) d (root_record (layout_of g (length d)) d (root_cluster g)) slot

  abbrev ks : List ℕ
  ks = clusters_in y d (file_record y d s)

  number_is : read_number g d m z slot ≡ first_cause (admit_cause g d m ∷ read_cause y d m a z slot ∷ [])
  unfolding read_number
  number_is = refl

  cause_is : read_cause y d m a z slot ≡ first_cause (zero_cause z ∷ directory_cause y d a ∷ file_cause y d m a slot ∷ [])
  unfolding read_cause
  cause_is = refl

  -- nothing refuses it where none of its causes is met
  pub read_number_lem : admit_cause g d m ≡ 0 → zero_cause z ≡ 0 → directory_cause y d a ≡ 0 → file_cause y d m a slot ≡ 0 → read_number g d m z slot ≡ 0
  read_number_lem p q r f =
      number_is ∙ cause_skip (admit_cause g d m) (read_cause y d m a z slot ∷ []) p ∙ cause_last (read_cause y d m a z slot)
      ∙ cause_is ∙ cause_skip (zero_cause z) (directory_cause y d a ∷ file_cause y d m a slot ∷ []) q
      ∙ cause_skip (directory_cause y d a) (file_cause y d m a slot ∷ []) r ∙ cause_last (file_cause y d m a slot) ∙ f

  module _ (e : read_number g d m z slot ≡ 0) where
    outer : (admit_cause g d m ≡ 0) × (first_cause (read_cause y d m a z slot ∷ []) ≡ 0)
    outer = cause_none (admit_cause g d m) (read_cause y d m a z slot ∷ []) (sym number_is ∙ e)

    cause : read_cause y d m a z slot ≡ 0
    cause = (cause_none (read_cause y d m a z slot) [] outer.1).0

    after_zeros : (zero_cause z ≡ 0) × (first_cause (directory_cause y d a ∷ file_cause y d m a slot ∷ []) ≡ 0)
    after_zeros = cause_none (zero_cause z) (directory_cause y d a ∷ file_cause y d m a slot ∷ []) (sym cause_is ∙ cause)

    pub read-file_cause : file_cause y d m a slot ≡ 0
    read-file_cause =
        (cause_none (file_cause y d m a slot) [] (cause_none (directory_cause y d a) (file_cause y d m a slot ∷ []) after_zeros.1).1).0

    admits : Admits g d m (layout_of g (length d))
    admits = limits_admits g d m (admitted-limits g d m outer.0)

    fits : Fits (layout_of g (length d)) d
    fits = record { laid = admits.laid; apart = admits.apart; long = admits.long }

    heap : every (in_heap (layout_of g (length d)).count) ks ≡ true
    heap = clusters_heap y d (file_record y d s) (file-reads y d m a slot read-file_cause)

    valid_low : valid_length s ≤ data_length s
    valid_low = file_valid y d m a slot read-file_cause

    room : valid_length s ≤ length ks * (layout_of g (length d)).size
    room = omega (arith, valid_low, file_holds y d m a slot read-file_cause fits.laid)

    part_is : (offset : ℕ) → read_part g d m z slot offset ≡ part_in y ks (valid_length s) (data_length s) (length z) offset
    unfolding read_part read_in file_part
    part_is offset = rw (eq-eqb (admit_cause g d m) 0 outer.0, eq-eqb (read_cause y d m a z slot) 0 cause) refl

    piece_is : (offset : ℕ) → Piece (shown (bytes_of y d ks) (valid_length s) (data_length s)) (read_bytes g d m z slot offset) offset
    unfolding read_bytes
    piece_is offset =
        rw (part_is offset)
        (part_piece y d z fits (zeros_some z after_zeros.0) (zeros_all z after_zeros.0) ks heap (valid_length s) (data_length s) valid_low room offset)

    tape_long : length (shown (bytes_of y d ks) (valid_length s) (data_length s)) ≡ data_length s
    tape_long =
        tape_length y d z fits (zeros_some z after_zeros.0) (zeros_all z after_zeros.0) ks heap (valid_length s) (data_length s) valid_low room

    read-empty : (offset : ℕ) → data_length s ≤ offset → length (read_bytes g d m z slot offset) ≡ 0
    unfolding read_bytes
    read-empty offset h =
        rw (part_is offset ∙ part_none y ks (valid_length s) (data_length s) (length z) offset (omega (arith, valid_low)) h) (unfold part_bytes in refl)

    read_past : (offset : ℕ) → length (read_bytes g d m z slot offset) ≡ 0 → data_length s ≤ offset
    read_past offset h = ⊎_elim (λ x. omega (arith, tape_long)) (λ x. absurd (omega (arith, h))) (piece_is offset).some

    pub read_back : ReadBack g d m z slot
    unfolding root_set set_clusters set_contents bytes_in
    read_back = record {
      whole = λ n h. let k : data_length s ≤ n = h in
          fetched_is (shown (bytes_of y d ks) (valid_length s) (data_length s)) (read_bytes g d m z slot) piece_is n 0 (omega (arith, tape_long));
      empty_only = λ offset. (read_past offset, read-empty offset);
      longest = λ offset h. subst (Longest y ks (valid_length s) offset)
          (sym (part_is offset ∙ part_stored y ks (valid_length s) (data_length s) (length z) offset h))
          (stored_longest y d fits ks heap (valid_length s) room offset h);
      zeros = λ offset v h. part_is offset ∙ part_zeros y ks (valid_length s) (data_length s) (length z) offset v h;
    }

  -- refused, the part is empty
  pub part_refused : read_number g d m z slot ≢ 0 → (offset : ℕ) → read_part g d m z slot offset ≡ no_part
  unfolding read_part read_in
  part_refused n offset =
      elim (ℕ_discrete (admit_cause g d m) 0) [
        | yes p ↦ (elim (ℕ_discrete (read_cause y d m a z slot) 0) [
          | yes q ↦
              absurd (n (number_is ∙ cause_skip (admit_cause g d m) (read_cause y d m a z slot ∷ []) p ∙ cause_last (read_cause y d m a z slot) ∙ q))
          | no q ↦ rw (eq-eqb (admit_cause g d m) 0 p, ne_eqb (read_cause y d m a z slot) 0 q) refl
        ])
        | no p ↦ rw (ne_eqb (admit_cause g d m) 0 p) refl
      ]

  -- every part lies inside the slice that it is of
  pub read_inside : (offset : ℕ) → Inside (length d) (length z) (read_part g d m z slot offset)
  read_inside offset =
      elim (ℕ_discrete (read_number g d m z slot) 0) [
        | yes e ↦
            rw (part_is e offset) (part_inside y d (fits e) ks (heap e) (valid_length s) (data_length s) (length z) (room e) offset)
        | no n ↦ rw (part_refused n offset) none_inside
      ]
