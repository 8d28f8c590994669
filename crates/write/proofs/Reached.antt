-- What every call keeps that each of its stores keeps, on any volume: a call stores only in clusters that were usable, in the root's and in
-- those of the stream at its slot. Assumes nothing.
use mathlib.Core.Path.{◌≡◌, refl, sym, ◌∙◌, ap, subst}
use mathlib.Core.Bool.{Bool, true, false, cond, false≢true}
use mathlib.Core.List.{List}
use Prim.Native.Nat.{ℕ, ◌+◌, ◌≤◌, max}
use native.Mathlib.Decide.{ℕ_discrete}
use native.Mathlib.Omega.{arith}
use lib.Dec.{eqb}
use lib.ListN.{length}
use Rattle.tables.specs.Count.{count}
use Rattle.tables.proofs.Cases.{cond_case}
use Rattle.boot.specs.declared.geometry.Geometry.{Geometry}
use Rattle.boot.specs.Limits.{limits}
use Rattle.boot.specs.Layout.{in_heap}
use Rattle.boot.specs.Causes.{heap_cause}
use Rattle.boot.proofs.CauseLaws.{cause_none}
use Rattle.metadata.specs.Usable.{is_usable}
use Rattle.metadata.proofs.Keeps.{Keeps, Went}
use Rattle.entry_set.specs.Fields.{data_length}
use Rattle.entry_set.specs.New.{new_entries, new_set}
use Rattle.directory.specs.Directory.{directory_cause}
use Rattle.file.specs.Outcome.{Outcome}
use Rattle.directory.specs.Open.{file_record, set_in, file_cause, stream_cause}
use Rattle.write_file.specs.NewFile.{new_growth, new_file_cause}
use Rattle.file.specs.Refresh.{missing, length_cause, open_cause, refreshed_only}
use Rattle.write_file.specs.Write.{data_cause, write_cause, written}
use Rattle.write_file.proofs.NewFileLaws.{space_enough}
use Rattle.file.proofs.KeepLaws.{DirectoryOwn, StreamOwn, refreshed_on}
use Rattle.write_file.proofs.KeepLaws.{placed_on, written_on}
use Rattle.write_length.specs.SetLength.{set_length_cause}
use Rattle.write_length.proofs.KeepLaws.{resized_on}
use Rattle.write_remove.proofs.KeepLaws.{removed_on}
use Rattle.write.specs.Calls.{Call, New, Write, SetLength, Remove, step}
use Rattle.write.specs.Consistent.{lay, root, root_clusters, root_bytes, set_of, stream_at, file_clusters}
use Rattle.write.specs.Demand.{call_slot, Foreign}
use Rattle.write.proofs.Scene.{both_clear, if_clear, stream_clear_lem, fits_of, mapped}
use Rattle.write.proofs.Answers.{decided-number, decided-carried, new-decided, write-decided, set_decided, remove-decided, broken-number, refused_volume}
use Rattle.write.proofs.Open.{open_hint, open_at}

-- a call at slot i may change cluster k
abbrev pub Reach : Geometry → List ℕ → List ℕ → ℕ → ℕ → Type 0
Reach g m d i k = Foreign g m d i k → ⊥

-- ---- what its causes say

module _ (g : Geometry) (m d : List ℕ) (l : limits g (length d) m ≡ true) (i : ℕ) where
  -- the root, where it opens
  root_own : directory_cause (lay g d) d (root g d) ≡ 0 → DirectoryOwn (lay g d) (Reach g m d i) d m (root g d)
  root_own e = record {
    fits = fits_of g m d l;
    mapped = mapped g m d l;
    usable = λ k h u f. false≢true (sym f.not_usable ∙ u);
    opens = e;
    own = λ k q f. f.not_root (unfold root_clusters in q);
  }

  module _ (hint : ℕ) (e : open_cause (lay g d) d m (root g d) i hint ≡ 0) where
    parts : (directory_cause (lay g d) d (root g d) ≡ 0) × (stream_cause (lay g d) d m (file_record (lay g d) d (set_in (lay g d) d (root g d) i)) ≡ 0)
    unfolding open_cause file_cause
    parts =
        let p = both_clear _ _ (cause_none _ _ e).1 in
        (p.0, (both_clear _ _ (cause_none _ _ p.1).1).1)

    -- the stream at the slot
    file_own : StreamOwn (lay g d) (Reach g m d i) d m (file_record (lay g d) d (set_in (lay g d) d (root g d) i))
    unfolding file_clusters stream_at set_of root_bytes set_in
    file_own =
        let r = stream_clear_lem (lay g d) d m (file_record (lay g d) d (set_in (lay g d) d (root g d) i)) parts.1 in
        record { reads = r.0; off = r.1; own = λ k q f. f.not_file (open_at g m d i hint e) q }

new_parts : (g : Geometry) (m d : List ℕ) (name : List ℕ) (attributes hint : ℕ) → new_file_cause (lay g d) d m (root g d) name attributes hint ≡ 0
    → (in_heap (lay g d).count hint ≡ true) × (directory_cause (lay g d) d (root g d) ≡ 0)
    × (new_growth (lay g d) d (root g d) (length name) ≤ count (is_usable (lay g d) d m) 2 (lay g d).count)
unfolding new_file_cause heap_cause
new_parts g m d name attributes hint e = (
  if_clear _ 2 (λ z. omega arith) (cause_none _ _ e).0,
  (cause_none _ _ (cause_none _ _ e).1).0,
  space_enough _ _ (both_clear _ _ (cause_none _ _ (cause_none _ _ (cause_none _ _ e).1).1).1).1,
)

module _ (g : Geometry) (m d : List ℕ) (i hint : ℕ) where
  write_parts : (offset n : ℕ) → write_cause (lay g d) d m (root g d) i offset n hint ≡ 0
      → (open_cause (lay g d) d m (root g d) i hint ≡ 0) × (cond (eqb n 0) 0 (data_cause (lay g d) d m (set_in (lay g d) d (root g d) i) offset n) ≡ 0)
  unfolding write_cause
  write_parts offset n e = both_clear _ _ e

  data_enough : (s : List ℕ) (offset n : ℕ) → data_cause (lay g d) d m s offset n ≡ 0
      → missing (lay g d) (file_record (lay g d) d s) (max (data_length s) (offset + n)) ≤ count (is_usable (lay g d) d m) 2 (lay g d).count
  unfolding data_cause length_cause
  data_enough s offset n e = space_enough _ _ (both_clear _ _ e).1

  length_parts : (len : ℕ) → set_length_cause (lay g d) d m (root g d) i len hint ≡ 0
      → (open_cause (lay g d) d m (root g d) i hint ≡ 0)
      × (missing (lay g d) (file_record (lay g d) d (set_in (lay g d) d (root g d) i)) len ≤ count (is_usable (lay g d) d m) 2 (lay g d).count)
  unfolding set_length_cause length_cause
  length_parts len e = let r = both_clear _ _ e in (r.0, space_enough _ _ r.1)

-- ---- a call that is carried out

went : (g : Geometry) (m d : List ℕ) → limits g (length d) m ≡ true → (c : Call) (slot : ℕ) (K : List ℕ → List ℕ → Type 0)
    → Keeps (lay g d) (Reach g m d (call_slot c slot)) K → (step g m d c).answer.number ≡ 0 → Went (lay g d) K d (step g m d c).volume
unfolding call_slot
went g m d l (New name attributes hash t hint) slot K s z =
    let r = new-decided g m d l name attributes hash t hint in
    let e = new_parts g m d name attributes hint (sym (decided-number r) ∙ z) in
    subst (λ (o : Outcome). Went (lay g d) K d o.volume) (sym (decided-carried r z))
    (placed_on (lay g d) (Reach g m d slot) K s d m (root g d) (root_own g m d l slot e.1) hint e.0 (new_growth (lay g d) d (root g d) (length name)) e.2
    (new_entries (length name)) (new_set name attributes hash t))
went g m d l (Write i offset bs t hint) slot K s z =
    let r = write-decided g m d l i offset bs t hint in
    let x = set_in (lay g d) d (root g d) i in
    let e = write_parts g m d i hint offset (length bs) (sym (decided-number r) ∙ z) in
    let dir = root_own g m d l i (parts g m d l i hint e.0).0 in
    subst (λ (o : Outcome). Went (lay g d) K d o.volume) (sym (decided-carried r z))
    (cond_case (λ (o : Outcome). Went (lay g d) K d o.volume) (eqb (length bs) 0) (refreshed_only (lay g d) d (root g d) i x t hint)
    (written (lay g d) d m (root g d) i x offset bs t hint)
    (λ _. refreshed_on (lay g d) (Reach g m d i) K s d m (root g d) dir i x t hint)
    (λ q. written_on (lay g d) (Reach g m d i) K s d m (root g d) dir i x (file_own g m d l i hint e.0) offset bs t hint (open_hint g m d i hint e.0)
    (data_enough g m d i hint x offset (length bs) (sym (ap (λ (b : Bool). cond b 0 (data_cause (lay g d) d m x offset (length bs))) q) ∙ e.1))))
went g m d l (SetLength i len t hint) slot K s z =
    let r = set_decided g m d l i len t hint in
    let e = length_parts g m d i hint len (sym (decided-number r) ∙ z) in
    subst (λ (o : Outcome). Went (lay g d) K d o.volume) (sym (decided-carried r z))
    (resized_on (lay g d) (Reach g m d i) K s d m (root g d) (root_own g m d l i (parts g m d l i hint e.0).0) i (set_in (lay g d) d (root g d) i)
    (file_own g m d l i hint e.0) len t hint (open_hint g m d i hint e.0) e.1)
went g m d l (Remove i hint) slot K s z =
    let r = remove-decided g m d l i hint in
    let e : open_cause (lay g d) d m (root g d) i hint ≡ 0 = sym (decided-number r) ∙ z in
    subst (λ (o : Outcome). Went (lay g d) K d o.volume) (sym (decided-carried r z))
    (removed_on (lay g d) (Reach g m d i) K s d m (root g d) (root_own g m d l i (parts g m d l i hint e).0) i (set_in (lay g d) d (root g d) i)
    (file_own g m d l i hint e) hint)

-- ---- any call on any volume

pub step_keeps : (g : Geometry) (m d : List ℕ) (c : Call) (K : List ℕ → List ℕ → Type 0)
    → Keeps (lay g d) (Reach g m d (call_slot c (step g m d c).answer.slot)) K → K d (step g m d c).volume
step_keeps g m d c K s =
    elim (ℕ_discrete (step g m d c).answer.number 0) [
      | yes z ↦ by (limits g (length d) m) refl z
      | no z ↦ subst (K d) (sym (refused_volume g m d c z)) (s.same d)
    ]
  where
    by : (b : Bool) → limits g (length d) m ≡ b → (step g m d c).answer.number ≡ 0 → K d (step g m d c).volume
    by true l z = (went g m d l c (step g m d c).answer.slot K s z).kept
    by false l z = absurd (omega (arith, broken-number g m d l c))
