-- What a call on a file of the root has where nothing refuses it. Assumes nothing.
use mathlib.Core.Path.{◌≡◌, refl}
use mathlib.Core.Bool.{Bool, true, false, cond}
use mathlib.Core.List.{List}
use mathlib.Core.Option.{some}
use Prim.Native.Nat.{ℕ}
use native.Mathlib.Omega.{arith}
use Rattle.boot.specs.declared.geometry.Geometry.{Geometry}
use Rattle.boot.specs.Layout.{in_heap}
use Rattle.boot.specs.Causes.{heap_cause}
use Rattle.boot.proofs.CauseLaws.{cause_none}
use Rattle.entry_set.specs.Fields.{is_directory}
use Rattle.directory.specs.Entries.{is_sound}
use Rattle.directory.specs.Internal.{sets}
use Rattle.directory.proofs.EntryLaws.{sound_file}
use Rattle.directory.proofs.StoreLaws.{sets-file}
use Rattle.directory.specs.Open.{entry_cause, directory_attribute_cause, set_in, file_cause}
use Rattle.file.specs.Refresh.{open_cause}
use Rattle.write.specs.Consistent.{lay, root, root_bytes, file_at, set_of}
use Rattle.write.proofs.Scene.{both_clear, if_clear}

-- a test that decides a number that is not 0
pub unless_clear : (b : Bool) (n : ℕ) → (n ≡ 0 → ⊥) → cond b n 0 ≡ 0 → b ≡ false
unless_clear true n h e = absurd (h e)
unless_clear false n h e = refl

module _ (g : Geometry) (m d : List ℕ) (i hint : ℕ) (e : open_cause (lay g d) d m (root g d) i hint ≡ 0) where
  clear : (heap_cause (lay g d).count hint ≡ 0) × (file_cause (lay g d) d m (root g d) i ≡ 0)
  unfolding open_cause
  clear = let r = cause_none _ _ e in (r.0, (both_clear _ _ r.1).1)

  -- the hint is in the heap
  pub open_hint : in_heap (lay g d).count hint ≡ true
  unfolding heap_cause
  open_hint = if_clear _ 2 (λ z. omega arith) clear.0

  file_clear : (is_sound (lay g d).count (lay g d).size (root_bytes g d) i ≡ true) × (is_directory (set_of g d i) ≡ false)
  unfolding file_cause entry_cause directory_attribute_cause set_in root_bytes set_of
  file_clear =
      let a = cause_none _ _ clear.1 in
      (if_clear _ 10 (λ z. omega arith) a.0, unless_clear _ 11 (λ z. omega arith) (cause_none _ _ a.1).0)

  -- a file stands at the slot
  pub open_at : file_at g d i ≡ true
  unfolding file_at
  open_at = sound_file (lay g d).count (lay g d).size (root_bytes g d) i file_clear.0

  pub open_set : sets (root_bytes g d) i ≡ some (set_of g d i)
  unfolding set_of
  open_set = sets-file (root_bytes g d) i (unfold file_at in open_at)

  -- that is no directory
  pub open_file_lem : is_directory (set_of g d i) ≡ false
  open_file_lem = file_clear.1
