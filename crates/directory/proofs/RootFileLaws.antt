-- The file at a slot of the root, as the code meets its causes. Assumes nothing.
use mathlib.Core.Path.{◌≡◌, refl, sym, ◌∙◌, ap}
use mathlib.Core.Bool.{Bool, true, false}
use mathlib.Core.List.{List, [], ◌∷◌}
use Prim.Native.Nat.{ℕ}
use lib.Dec.{eqb}
use lib.ListN.{replicate}
use borrow.Author.Tests.{eq-eqb, ne_eqb, eqb-true}
use Rattle.boot.specs.declared.layout.Layout.{Layout}
use Rattle.boot.specs.Causes.{first_cause}
use Rattle.boot.proofs.CauseLaws.{cause_skip, cause_met, cause_last}
use Rattle.stream.specs.declared.allocation.Allocation.{Allocation}
use Rattle.stream.specs.Bytes.{bytes_in}
use Rattle.directory.specs.Directory.{directory_cause}
use Rattle.directory.specs.Open.{file_cause}
use Rattle.directory.specs.Internal.{OpenedFile, set_read, no_file, found_file, open_file, root_file, root_file_set}

module _ (y : Layout) (d m : List ℕ) (a : Allocation) (slot offset : ℕ) where
  abbrev causes : ℕ
  causes = first_cause (directory_cause y d a ∷ file_cause y d m a slot ∷ [])

  refused_is : (n : ℕ) → n ≡ causes → (n ≡ 0 → ⊥) → no_file n ≡ root_file y d m a slot offset
  unfolding root_file
  refused_is n e z = rw (← e, ne_eqb n 0 z) refl

  pub root_refused : (n : ℕ) → n ≡ directory_cause y d a → (n ≡ 0 → ⊥)
      → (no_file n ≡ root_file y d m a slot offset) × (replicate 608 0 ≡ root_file_set y d a slot)
  root_refused n e z = (
    refused_is n (e ∙ sym (cause_met (directory_cause y d a) (file_cause y d m a slot ∷ []) (λ q. z (e ∙ q)))) z,
    unfold root_file_set in (rw (ne_eqb (directory_cause y d a) 0 (λ q. z (e ∙ q))) refl),
  )

  pub root_opens : directory_cause y d a ≡ 0
      → (open_file y d m a slot offset ≡ root_file y d m a slot offset) × (set_read (bytes_in y d a) slot ≡ root_file_set y d a slot)
  root_opens e = (
    unfold open_file root_file in
        (rw (cause_skip (directory_cause y d a) (file_cause y d m a slot ∷ []) e ∙ cause_last (file_cause y d m a slot)) refl),
    unfold root_file_set in (rw (eq-eqb (directory_cause y d a) 0 e) refl),
  )

  -- its number
  pub root-file_number : (f : OpenedFile) → f ≡ root_file y d m a slot offset → f.number ≡ first_cause (directory_cause y d a ∷ file_cause y d m a slot ∷ [])
  root-file_number f e = ap (λ (x : OpenedFile). x.number) e ∙ by (eqb causes 0) refl
    where
      by : (t : Bool) → eqb causes 0 ≡ t → (root_file y d m a slot offset).number ≡ causes
      by true q = unfold root_file found_file in (rw q (sym (eqb-true causes 0 q)))
      by false q = unfold root_file in (rw q refl)

  -- what it is where nothing refuses it
  pub root-file_found : first_cause (directory_cause y d a ∷ file_cause y d m a slot ∷ []) ≡ 0 → root_file y d m a slot offset ≡ found_file y d a slot offset
  unfolding root_file
  root-file_found e = rw (eq-eqb causes 0 e) refl
