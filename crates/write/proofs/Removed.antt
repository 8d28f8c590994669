-- Remove, as a step. Assumes nothing.
use mathlib.Core.Path.{◌≡◌, refl, sym, ◌∙◌, ap}
use mathlib.Core.Logic.{◌≢◌}
use mathlib.Core.List.{List}
use mathlib.Core.Option.{none, some}
use Prim.Native.Nat.{ℕ, suc, ◌+◌, ◌*◌, ◌≤◌, ◌<◌}
use native.Mathlib.Decide.{ℕ_discrete}
use native.Mathlib.Omega.{arith}
use lib.ListN.{length, take}
use Rattle.primitives.specs.Bits.{bit_of}
use Rattle.tables.specs.Table.{upd}
use Rattle.tables.proofs.Cases.{clash}
use Rattle.tables.proofs.TableLaws.{upd_same}
use Rattle.boot.specs.declared.geometry.Geometry.{Geometry}
use Rattle.boot.specs.declared.layout.Layout.{Layout}
use Rattle.stream.specs.Bytes.{store_at}
use Rattle.entry_set.specs.Fields.{entry_type, secondary_count}
use Rattle.entry_set.specs.Put.{cleared}
use Rattle.entry_set.proofs.SetLaws.{cleared-length, cleared_unused, cleared-not_end}
use Rattle.write_shrink.specs.Shrink.{shrink_in}
use Rattle.stream.specs.Stream.{clusters_in}
use Rattle.directory.specs.Entries.{entries_at}
use Rattle.directory.specs.Internal.{sets}
use Rattle.directory.proofs.FitLaws.{Fit, fit_high}
use Rattle.directory.proofs.StoreLaws.{sets-some, removed_ordered, removed_sets}
use Rattle.file.specs.Outcome.{carried}
use Rattle.directory.specs.Open.{file_record, set_in}
use Rattle.file.specs.Refresh.{entries_of, open_cause}
use Rattle.write_remove.specs.Remove.{unlinked}
use Rattle.write.specs.Calls.{Remove, step}
use Rattle.write.specs.Consistent.{Consistent, lay, root, root_bytes, set_of}
use Rattle.write.specs.Contents.{contents}
use Rattle.write.specs.Model.{accepted, has_list, finds}
use Rattle.write.specs.Space.{must_add}
use Rattle.write.specs.Demand.{call_slot, hint_of, set_after, entries_put, root_adds, slot_answered, hint_answered}
use Rattle.write.proofs.Family.{moved_drop}
use Rattle.write.proofs.Scene.{members, ordered, slot_fit}
use Rattle.write.proofs.Change.{Change, takes, contents_of}
use Rattle.write.proofs.Steps.{Step, refused_step, carried_step}
use Rattle.write.proofs.Hints.{hint_none}
use Rattle.write.proofs.Answers.{decided-number, decided-carried, remove-decided}
use Rattle.write.proofs.Open.{open_set, open_file_lem}
use Rattle.write.proofs.Rewritten.{shows_before}
use Rattle.write.proofs.Cut.{open_entries, cut-shorter, cut_marks, cut_change}

module _ (g : Geometry) (m d : List ℕ) (c : Consistent g m d) (i hint : ℕ) where
  abbrev y : Layout
  y = lay g d

  abbrev s : List ℕ
  s = set_of g d i

  abbrev n : ℕ
  n = entries_of (set_of g d i)

  -- the set with bit 0x80 of each entry cleared
  abbrev x : List ℕ
  x = cleared (set_of g d i) (entries_of (set_of g d i))

  abbrev d₁ : List ℕ
  d₁ = store_at y d (clusters_in y d (root g d)) (32 * i) (take (32 * n) x)

  abbrev d₂ : List ℕ
  d₂ = (shrink_in y d₁ m (file_record y d s) 0 hint).volume

  module _ (e : open_cause (lay g d) d m (root g d) i hint ≡ 0) where
    own : sets (root_bytes g d) i ≡ some s
    own = open_set g m d i hint e

    fit : Fit y.count y.size (entries_at (root_bytes g d) i) s
    fit = slot_fit g m d c i s own

    full : length x ≡ 608
    full = cleared-length s n ∙ fit.full

    long : 32 * n ≤ length x
    long =
        omega (
          arith,
          full,
          open_entries g m d c i hint e x full 0,
          fit_high y.count y.size (entries_at (root_bytes g d) i) s fit,
        )

    clear : (k : ℕ) → k < n → (bit_of (entry_type x k) 7 ≡ 0) × (entry_type x k ≢ 0)
    clear k h =
        let q : n ≡ 1 + secondary_count s = unfold entries_of in refl in
        (cleared_unused y.count y.size s n fit.formed q fit.full k h, cleared-not_end y.count y.size s n fit.formed q fit.full k h)

    change : Change g m d d₂ 0 i none
    change =
        let f = (sets-some (root_bytes g d) i s own).0 in
        let q = open_entries g m d c i hint e x full 0 in
        cut_change g m d c i hint e x full 0 none none
        (moved_drop y d₁ d₂ (upd (members g d) 0 (some (root g d))) (suc i) _ (cut-shorter g m d c i hint e x full 0).moved)
        (removed_ordered y.count y.size (root_bytes g d) i n x (ordered g m d c) f q long clear)
        (removed_sets y.count y.size (root_bytes g d) i n x (ordered g m d c) f q long clear)
        (unfold entries_put in refl)
        (λ s' z. clash (cc))
        (λ s' z. clash (cc))
        (let t : takes y none ≡ 0 = unfold takes in refl in omega (arith, cut_marks g m d c i hint e x full 0))

  hinted : hint ≡ hint_answered g d d₂ (Remove i hint)
  unfolding hint_of must_add
  hinted = hint_none g d d₂ (Remove i hint) refl

  removed : open_cause (lay g d) d m (root g d) i hint ≡ 0
      → step g m d (Remove i hint)
      ≡ carried 0 hint
      (shrink_in y (unlinked y d (clusters_in y d (root g d)) i (set_in y d (root g d) i)) m (file_record y d (set_in y d (root g d) i)) 0 hint).volume
      → Step g m d (Remove i hint)
  unfolding unlinked set_in set_of root_bytes call_slot set_after accepted contents_of finds has_list root_adds slot_answered
  removed e q =
      carried_step g m d (Remove i hint) 0 hint d₂ 0 none c q refl refl refl hinted (change e) (sym (upd_same (contents g d) i none))
      (ap has_list (shows_before g m d c i s (own e) (open_file_lem g m d i hint e)))

  pub remove-step : Step g m d (Remove i hint)
  remove-step =
      elim (ℕ_discrete (step g m d (Remove i hint)).answer.number 0) [
        | yes z ↦ removed (sym (decided-number (remove-decided g m d c.limits_hold i hint)) ∙ z)
            (decided-carried (remove-decided g m d c.limits_hold i hint) z)
        | no z ↦ refused_step g m d (Remove i hint) c z
      ]
