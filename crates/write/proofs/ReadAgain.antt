-- On a consistent volume a file is read back as its contents, and is refused where there is none. Assumes nothing.
use mathlib.Core.Path.{◌≡◌, refl, sym, ◌∙◌, ap}
use mathlib.Core.Bool.{Bool, true, false, not, false≢true}
use mathlib.Core.List.{List}
use mathlib.Core.Option.{some}
use Prim.Native.Nat.{ℕ, ◌≤◌}
use borrow.Author.Tests.{eq-eqb, ne_eqb, not-true}
use Rattle.tables.proofs.Cases.{and_left, and_right, and_both}
use Rattle.boot.specs.declared.geometry.Geometry.{Geometry}
use Rattle.boot.proofs.Admission.{limits-admitted}
use Rattle.entry_set.specs.Fields.{is_directory, data_length}
use Rattle.directory.specs.Entries.{is_sound}
use Rattle.directory.specs.Open.{set_in}
use Rattle.directory.proofs.EntryLaws.{sound_file}
use Rattle.directory.proofs.FileLaws.{file_opens, file_sound, file_plain}
use Rattle.read_file.specs.Read.{zero_cause, read_number}
use Rattle.read_file.specs.ReadBack.{root_set, set_contents, read_file}
use Rattle.read_file.proofs.ReadBackLaws.{read_number_lem, read-file_cause, read_back}
use Rattle.write.specs.Consistent.{Consistent, lay, root, root_bytes, file_at, set_of, stream_at}
use Rattle.write.specs.Contents.{has_file, contents}

module _ (g : Geometry) (m d : List ℕ) (w : Consistent g m d) (z : List ℕ) (zs : zero_cause z ≡ 0) (i : ℕ) where
  -- nothing refuses a file
  read-file : has_file g d i ≡ true → read_number g d m z i ≡ 0
  unfolding has_file lay root root_bytes file_at set_of stream_at set_in
  read-file e =
      let sound = and_left (is_sound (lay g d).count (lay g d).size (root_bytes g d) i) (not (is_directory (set_of g d i))) e in
      let plain = and_right (is_sound (lay g d).count (lay g d).size (root_bytes g d) i) (not (is_directory (set_of g d i))) e in
      read_number_lem g d m z i (limits-admitted g d m w.limits_hold) zs w.root_reads
      (file_opens (lay g d) d m (root g d) i sound (not-true (is_directory (set_of g d i)) plain)
      (w.streams_read i (sound_file (lay g d).count (lay g d).size (root_bytes g d) i sound)))

  -- and nothing else is read
  file-read : read_number g d m z i ≡ 0 → has_file g d i ≡ true
  unfolding has_file lay root root_bytes set_of set_in
  file-read e =
      let f = read-file_cause g d m z i e in
      and_both (is_sound (lay g d).count (lay g d).size (root_bytes g d) i) (not (is_directory (set_of g d i)))
      (file_sound (lay g d) d m (root g d) i f) (ap not (file_plain (lay g d) d m (root g d) i f))

  pub read-contents : (n : ℕ) → data_length (set_of g d i) ≤ n → read_file g d m z i n ≡ contents g d i
  read-contents n h = by (has_file g d i) refl
    where
      by : (b : Bool) → has_file g d i ≡ b → read_file g d m z i n ≡ contents g d i
      by true e =
          let q = read-file e in
          unfold read_file contents in
          (rw (e, eq-eqb (read_number g d m z i) 0 q)
          (ap some (unfold root_set set_contents lay root root_bytes set_of stream_at set_in in ((read_back g d m z i q).whole n h))))
      by false e =
          unfold read_file contents in (rw (e, ne_eqb (read_number g d m z i) 0 (λ q. false≢true (sym e ∙ file-read q))) refl)
