-- From one call to every list of calls. Assumes nothing.
use mathlib.Core.Path.{◌≡◌, refl, sym, ◌∙◌, ap, subst, fun_ext}
use mathlib.Core.Logic.{◌≢◌}
use mathlib.Core.Bool.{true}
use mathlib.Core.List.{[], List, ◌∷◌}
use mathlib.Core.Option.{Option, none, some}
use Prim.Native.Nat.{ℕ, ◌+◌}
use native.Mathlib.Omega.{arith}
use lib.Dec.{eqb}
use lib.ListN.{length}
use borrow.Author.Tests.{eq-eqb, ne_eqb}
use Rattle.tables.specs.Table.{upd}
use Rattle.tables.proofs.Cases.{cond_case}
use Rattle.tables.proofs.TableLaws.{upd_same, upd_other, upd_case}
use Rattle.boot.specs.declared.geometry.Geometry.{Geometry}
use Rattle.boot.specs.declared.layout.Layout.{Layout}
use Rattle.metadata.specs.Marks.{allocated_count}
use Rattle.kept.specs.Kept.{Intact}
use Rattle.kept.proofs.IntactKeeps.{intact_same, intact_again}
use Rattle.stream.proofs.BytesLaws.{cluster_cong}
use Rattle.directory.specs.Internal.{sets}
use Rattle.file.specs.Outcome.{Outcome, carried}
use Rattle.write.specs.Calls.{Call, New, Write, SetLength, Remove, step, run, answers}
use Rattle.write.specs.Consistent.{Consistent, lay, root_bytes, file_at, set_of, file_clusters, file_bytes}
use Rattle.write.specs.Contents.{contents}
use Rattle.write.specs.Model.{overwrite, resize, onto, accepted, finds, fed, model}
use Rattle.write.specs.Space.{clusters_taken}
use Rattle.write.specs.Demand.{call_slot, set_after, entries_at_slot, root_adds, root_grown, slot_answered, hint_answered, Lost, Done, Demand}
use Rattle.write.proofs.Scene.{lay_same}
use Rattle.write.proofs.Change.{contents_of, Change, change_consistent, change_lost, change_sets, change_root_bytes, change_root_clusters, change_other_clusters, change_other_bytes, change_contents, change_marks}
use Rattle.write.proofs.Kept.{outer_kept, bits_kept, bitmap_rest_kept, foreign_kept, fats_alike, bitmaps_alike, lost_foreign}
use Rattle.write.proofs.ReadAgain.{read-contents}
use Rattle.write.proofs.Answers.{refused_same, refused_volume, numbered, seven, carried_out}

-- ---- one call

-- what a call on a consistent volume keeps and does
pub record Step (g : Geometry) (m d : List ℕ) (c : Call) : Type 0 where
  pub consistent : Consistent g m (step g m d c).volume
  pub agree : (j : ℕ) → contents g (step g m d c).volume j ≡ fed (contents g d) c (step g m d c).answer j
  -- what it finds at its slot
  pub found : (step g m d c).answer.number ≡ 0 → finds c (contents g d (call_slot c (step g m d c).answer.slot)) ≡ true
  pub done : Done g m d c (step g m d c)
  pub marks : allocated_count (lay g d) (step g m d c).volume + clusters_taken g d ≡ allocated_count (lay g d) d + clusters_taken g (step g m d c).volume
  -- marked clusters of no stream
  pub lost : (k : ℕ) → Lost g d k → Lost g (step g m d c).volume k

-- a refused call keeps everything
pub refused_step : (g : Geometry) (m d : List ℕ) (c : Call) → Consistent g m d → (step g m d c).answer.number ≢ 0 → Step g m d c
refused_step g m d c w n =
    let e = refused_volume g m d c n in
    record {
      consistent = subst (Consistent g m) (sym e) w;
      agree = λ j. ap (λ (v : List ℕ). contents g v j) e ∙ sym (kept j);
      found = λ z. absurd (n z);
      done = record {
        number = numbered g m d c;
        outer_kept = outer_kept g m d c;
        bits_kept = bits_kept g m d c;
        bitmap_rest_kept = bitmap_rest_kept g m d c;
        foreign_kept = foreign_kept g m d c;
        fats_alike = fats_alike g m d c;
        bitmaps_alike = bitmaps_alike g m d c;
        refused_same = refused_same g m d c;
        same_length = ap length e;
        slot_defined = λ z. absurd (n z);
        hint_defined = λ z. absurd (n z);
        entries_defined = λ z. absurd (n z);
        root_bytes_are = λ z. absurd (n z);
        root_clusters_are = λ z. absurd (n z);
        others_set = λ j _. ap (λ (v : List ℕ). entries_at_slot g v j) e;
        others_clusters = λ j _ _. ap (λ (v : List ℕ). file_clusters g v j) e;
        others_bytes = λ j _ _. ap (λ (v : List ℕ). file_bytes g v j) e;
      };
      marks = ap (λ (v : List ℕ). allocated_count (lay g d) v + clusters_taken g d) e ∙ ap (λ (v : List ℕ). allocated_count (lay g d) d + clusters_taken g v) (sym e);
      lost = λ k l. subst (λ (v : List ℕ). Lost g v k) (sym e) l;
    }
  where
    kept : (j : ℕ) → fed (contents g d) c (step g m d c).answer j ≡ contents g d j
    kept j = unfold fed in (rw (ne_eqb (step g m d c).answer.number 0 n) refl)

-- an accepted one changes the model at its slot alone
accepted_other : (p : ℕ → Option (List ℕ)) (c : Call) (slot j : ℕ) → j ≢ call_slot c slot → accepted p c slot j ≡ p j
unfolding accepted call_slot
accepted_other p (New name attributes hash t hint) slot j n = upd_other p slot (some []) j n
accepted_other p (Write i offset bs t hint) slot j n =
    cond_case (λ (q : ℕ → Option (List ℕ)). q j ≡ p j) (eqb (length bs) 0) p (upd p i (onto (λ l. overwrite l offset bs) (p i))) (λ _. refl)
    (λ _. upd_other p i (onto (λ l. overwrite l offset bs) (p i)) j n)
accepted_other p (SetLength i len t hint) slot j n = upd_other p i (onto (λ l. resize l len) (p i)) j n
accepted_other p (Remove i hint) slot j n = upd_other p i none j n

-- the set at a slot, as the table has it
slot_entries : (g : Geometry) (d : List ℕ) (i : ℕ) → entries_at_slot g d i ≡ sets (root_bytes g d) i
unfolding entries_at_slot file_at set_of sets
slot_entries g d i = refl

-- an accepted call whose volume is changed at its slot alone, where the set that it leaves shows what the model has there
accepted-step : (g : Geometry) (m d : List ℕ) (c : Call) → Consistent g m d → (step g m d c).answer.number ≡ 0
    → Change g m d (step g m d c).volume (root_adds g d c) (call_slot c (step g m d c).answer.slot) (set_after g m d c)
    → contents_of (lay g d) (step g m d c).volume (set_after g m d c)
    ≡ accepted (contents g d) c (step g m d c).answer.slot (call_slot c (step g m d c).answer.slot)
    → finds c (contents g d (call_slot c (step g m d c).answer.slot)) ≡ true → (step g m d c).answer.slot ≡ slot_answered g d c
    → (step g m d c).answer.hint ≡ hint_answered g d (step g m d c).volume c
    → Step g m d c
accepted-step g m d c w z h v f slot hinted = record {
  consistent = change_consistent g m d (step g m d c).volume _ _ _ w h;
  agree = λ j. change_contents g m d (step g m d c).volume _ _ _ w h j ∙ at j ∙ sym (fed_is j);
  found = λ _. f;
  done = record {
    number = numbered g m d c;
    outer_kept = outer_kept g m d c;
    bits_kept = bits_kept g m d c;
    bitmap_rest_kept = bitmap_rest_kept g m d c;
    foreign_kept = foreign_kept g m d c;
    fats_alike = fats_alike g m d c;
    bitmaps_alike = bitmaps_alike g m d c;
    refused_same = λ n. absurd (n z);
    same_length = h.long;
    slot_defined = λ _. slot;
    hint_defined = λ _. hinted;
    entries_defined = λ _. entry;
    root_bytes_are = λ _. unfold root_grown in (change_root_bytes g m d (step g m d c).volume _ _ _ w h);
    root_clusters_are = λ _. change_root_clusters g m d (step g m d c).volume _ _ _ w h;
    others_set = other_set;
    others_clusters = change_other_clusters g m d (step g m d c).volume _ _ _ w h;
    others_bytes = change_other_bytes g m d (step g m d c).volume _ _ _ w h;
  };
  marks = change_marks g m d (step g m d c).volume _ _ _ w h;
  lost = change_lost g m d (step g m d c).volume _ _ _ w h;
}
  where
    fed_is : (j : ℕ) → fed (contents g d) c (step g m d c).answer j ≡ accepted (contents g d) c (step g m d c).answer.slot j
    fed_is j = unfold fed in (rw (eq-eqb (step g m d c).answer.number 0 z) refl)

    at : (j : ℕ)
        → upd (contents g d) (call_slot c (step g m d c).answer.slot) (contents_of (lay g d) (step g m d c).volume (set_after g m d c)) j
        ≡ accepted (contents g d) c (step g m d c).answer.slot j
    at j =
        upd_case (λ (x : Option (List ℕ)). x ≡ accepted (contents g d) c (step g m d c).answer.slot j) (contents g d)
        (call_slot c (step g m d c).answer.slot) (contents_of (lay g d) (step g m d c).volume (set_after g m d c)) j
        (λ q. v ∙ ap (accepted (contents g d) c (step g m d c).answer.slot) (sym q))
        (λ q. sym (accepted_other (contents g d) c (step g m d c).answer.slot j q))

    entry : entries_at_slot g (step g m d c).volume (call_slot c (step g m d c).answer.slot) ≡ set_after g m d c
    entry =
        slot_entries g (step g m d c).volume (call_slot c (step g m d c).answer.slot)
        ∙ change_sets g m d (step g m d c).volume _ _ _ w h (call_slot c (step g m d c).answer.slot)
        ∙ upd_same (sets (root_bytes g d)) (call_slot c (step g m d c).answer.slot) (set_after g m d c)

    other_set : (j : ℕ) → j ≢ call_slot c (step g m d c).answer.slot → entries_at_slot g (step g m d c).volume j ≡ entries_at_slot g d j
    other_set j n =
        slot_entries g (step g m d c).volume j ∙ change_sets g m d (step g m d c).volume _ _ _ w h j
        ∙ upd_other (sets (root_bytes g d)) (call_slot c (step g m d c).answer.slot) (set_after g m d c) j n ∙ sym (slot_entries g d j)

-- the same by its outcome and the set that it leaves
pub carried_step : (g : Geometry) (m d : List ℕ) (c : Call) (slot hint : ℕ) (d' : List ℕ) (more : ℕ) (o : Option (List ℕ)) → Consistent g m d
    → step g m d c ≡ carried slot hint d' → set_after g m d c ≡ o → root_adds g d c ≡ more → slot ≡ slot_answered g d c → hint ≡ hint_answered g d d' c
    → Change g m d d' more (call_slot c slot) o
    → contents_of (lay g d) d' o ≡ accepted (contents g d) c slot (call_slot c slot)
    → finds c (contents g d (call_slot c slot)) ≡ true
    → Step g m d c
unfolding carried
carried_step g m d c slot hint d' more o w e after adds place hinted h shows found =
    accepted-step g m d c w (ap (λ (x : Outcome). x.answer.number) e)
    (subst (λ (x : Outcome). Change g m d x.volume (root_adds g d c) (call_slot c x.answer.slot) (set_after g m d c)) (sym e)
    (subst (Change g m d d' (root_adds g d c) (call_slot c slot)) (sym after) (subst (λ (k : ℕ). Change g m d d' k (call_slot c slot) o) (sym adds) h)))
    (subst
    (λ (x : Outcome). contents_of (lay g d) x.volume (set_after g m d c) ≡ accepted (contents g d) c x.answer.slot (call_slot c x.answer.slot))
    (sym e) (ap (contents_of (lay g d) d') after ∙ shows))
    (ap (λ (x : Outcome). finds c (contents g d (call_slot c x.answer.slot))) e ∙ found)
    (ap (λ (x : Outcome). x.answer.slot) e ∙ place)
    (ap (λ (x : Outcome). x.answer.hint) e ∙ hinted ∙ ap (λ (x : Outcome). hint_answered g d x.volume c) (sym e))

-- ---- every list of calls

module _ (g : Geometry) (m : List ℕ) (one : (d : List ℕ) (c : Call) → Consistent g m d → Step g m d c) where
  run_consistent : (d : List ℕ) (cs : List Call) → Consistent g m d → Consistent g m (run g m d cs)
  unfolding run
  run_consistent d [] w = w
  run_consistent d (c ∷ cs) w = run_consistent (step g m d c).volume cs (one d c w).consistent

  run-contents : (d : List ℕ) (cs : List Call) → Consistent g m d → (i : ℕ)
      → contents g (run g m d cs) i ≡ model (contents g d) cs (answers g m d cs) i
  unfolding run answers model
  run-contents d [] w i = refl
  run-contents d (c ∷ cs) w i =
      run-contents (step g m d c).volume cs (one d c w).consistent i
      ∙ ap (λ (p : ℕ → Option (List ℕ)). model p cs (answers g m (step g m d c).volume cs) i) (fun_ext (one d c w).agree)

  run_marks : (d : List ℕ) (cs : List Call) → Consistent g m d
      → allocated_count (lay g d) (run g m d cs) + clusters_taken g d ≡ allocated_count (lay g d) d + clusters_taken g (run g m d cs)
  unfolding run
  run_marks d [] w = refl
  run_marks d (c ∷ cs) w =
      let s = one d c w in
      let e = lay_same g d (step g m d c).volume s.done.same_length in
      omega (
        arith,
        s.marks,
        run_marks (step g m d c).volume cs s.consistent,
        ap (λ (y : Layout). allocated_count y (step g m d c).volume) e,
        ap (λ (y : Layout). allocated_count y (run g m (step g m d c).volume cs)) e,
      )

  run_lost : (d : List ℕ) (cs : List Call) → Consistent g m d → (k : ℕ) → Lost g d k → Lost g (run g m d cs) k
  unfolding run
  run_lost d [] w k l = l
  run_lost d (c ∷ cs) w k l = run_lost (step g m d c).volume cs (one d c w).consistent k ((one d c w).lost k l)

  run_length : (d : List ℕ) (cs : List Call) → Consistent g m d → length (run g m d cs) ≡ length d
  unfolding run
  run_length d [] w = refl
  run_length d (c ∷ cs) w = let s = one d c w in run_length (step g m d c).volume cs s.consistent ∙ s.done.same_length

  run_intact : (d : List ℕ) (cs : List Call) → Consistent g m d → (k : ℕ) → Lost g d k → Intact (lay g d) d (run g m d cs) k
  unfolding run
  run_intact d [] w k l = intact_same (lay g d) d k
  run_intact d (c ∷ cs) w k l =
      let s = one d c w in
      let v = (step g m d c).volume in
      intact_again (lay g d) d v (run g m v cs) k (s.done.foreign_kept k (lost_foreign g m d (call_slot c (step g m d c).answer.slot) k l))
      (subst (λ (y : Layout). Intact y v (run g m v cs) k) (lay_same g d v s.done.same_length) (run_intact v cs s.consistent k (s.lost k l)))

  pub every : (d : List ℕ) (cs : List Call) → Consistent g m d → Demand g m d cs
  every d cs w = record {
    consistent = run_consistent d cs w;
    contents_agree = run-contents d cs w;
    reads_back = λ z e i n h. read-contents g m (run g m d cs) (run_consistent d cs w) z e i n h ∙ run-contents d cs w i;
    slots_fit = λ before rest e c z.
        let v = run g m d before in
        ap (finds c) (sym (run-contents d before w (call_slot c (step g m v c).answer.slot))) ∙ (one v c (run_consistent d before w)).found z;
    each_call = λ before rest e c. (one (run g m d before) c (run_consistent d before w)).done;
    marks_add_up = run_marks d cs w;
    lost_kept = run_lost d cs w;
    lost_entry = λ k l. let i = run_intact d cs w k l in (i.entry0, i.entry1);
    lost_bytes = λ k l o. cluster_cong (lay g d) d (run g m d cs) k (run_length d cs w) ((run_intact d cs w k l).bytes o);
    seven = seven g m (run g m d cs);
    carried_out = carried_out g m (run g m d cs);
  }
