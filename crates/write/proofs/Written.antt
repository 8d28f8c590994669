-- Write, and a length that is not shorter: one call of them keeps all that is demanded. Assumes nothing.
use mathlib.Core.Path.{◌≡◌, refl, sym, ◌∙◌, ap}
use mathlib.Core.Logic.{◌≢◌}
use mathlib.Core.Bool.{true, cond}
use mathlib.Core.List.{List, ◌++◌}
use mathlib.Core.Option.{some}
use Prim.Native.Nat.{ℕ, ◌+◌, ◌-◌, ◌*◌, ◌≤◌, ◌<◌, max}
use native.Mathlib.Decide.{ℕ_discrete, dec_lt}
use native.Mathlib.Omega.{arith}
use lib.Dec.{eqb}
use lib.ListN.{length, replicate, length-replicate}
use borrow.Author.Tests.{eq-eqb, ne_eqb, le-ltb}
use Rattle.primitives.specs.Splice.{splice}
use Rattle.tables.specs.Table.{upd}
use Rattle.tables.specs.Lists.{last_or}
use Rattle.tables.specs.Count.{count}
use Rattle.tables.proofs.TableLaws.{upd_same}
use Rattle.boot.specs.declared.geometry.Geometry.{Geometry}
use Rattle.boot.specs.declared.layout.Layout.{Layout}
use Rattle.boot.specs.Layout.{in_heap}
use Rattle.metadata.specs.Usable.{is_usable}
use Rattle.stream.specs.declared.allocation.Allocation.{Allocation}
use Rattle.stream.specs.Bytes.{store_at, bytes_in}
use Rattle.entry_set.specs.declared.stamp.Stamp.{Stamp}
use Rattle.entry_set.specs.Fields.{valid_length, data_length, clusters_for}
use Rattle.entry_set.proofs.SetLaws.{formed_lengths}
use Rattle.entry_set.proofs.LengthLaws.{clusters_some}
use Rattle.write_alloc.specs.Outcome.{Outcome}
use Rattle.boot.specs.Causes.{wrap}
use Rattle.write_extend.specs.Extend.{extend_in}
use Rattle.write_extend.proofs.ExtendLaws.{extend_none}
use Rattle.stream.specs.Stream.{clusters_in}
use Rattle.directory.specs.Internal.{sets}
use Rattle.file.specs.Outcome.{carried}
use Rattle.directory.specs.Open.{file_record, set_in, shown}
use Rattle.file.specs.Refresh.{recorded, stored, missing, length_cause, open_cause, refreshed_only}
use Rattle.write_file.specs.Write.{data_cause, write_cause, with_data, written}
use Rattle.write_length.specs.SetLength.{set_length_cause, zero_end, longer_file, resized}
use Rattle.write_file.proofs.NewFileLaws.{space_enough}
use Rattle.write_length.proofs.SetLengthLaws as new-length
use Rattle.write.specs.Calls.{Call, Write, SetLength, step}
use Rattle.write.specs.Consistent.{Consistent, lay, root, root_bytes, set_of, stream_at, file_clusters}
use Rattle.write.specs.Contents.{contents}
use Rattle.write.specs.Model.{overwrite, resize, onto, accepted, has_list, finds}
use Rattle.write.specs.Space.{beyond, must_add}
use Rattle.write.specs.Demand.{call_slot, hint_of, set_after, root_adds, slot_answered, clusters_grown, hint_answered}
use Rattle.write.proofs.Shown.{shown-written, shown-longer, shown_same}
use Rattle.write.proofs.Reading.{record_empty, record_count}
use Rattle.write.proofs.Scene.{both_clear, slot_number, slot_fit, fits}
use Rattle.write.proofs.Open.{open_hint, open_set, open_file_lem}
use Rattle.write.proofs.Answers.{decided-number, decided-carried, write-decided, set_decided}
use Rattle.write.proofs.Steps.{Step, refused_step}
use Rattle.write.proofs.Hints.{hint_none, hint_some, extend_next}
use Rattle.write.proofs.Rewritten.{Streamed, streamed_same, streamed_store, got, streamed_longer, longer-count, longer_room, longer_bytes, old_room, rewritten_last, rewritten_step, shows_before}

max_mono : (a b c : ℕ) → a ≤ b → max a c ≤ max b c
max_mono a b c l = omega arith

module _ (g : Geometry) (m d : List ℕ) (c : Consistent g m d) where
  abbrev y : Layout
  y = lay g d

  set_in_lem : (i : ℕ) → set_in y d (root g d) i ≡ set_of g d i
  unfolding set_in set_of root_bytes
  set_in_lem i = refl

  -- ---- the file at a slot, opened

  module _ (i hint : ℕ) (clear : open_cause y d m (root g d) i hint ≡ 0) where
    abbrev s : List ℕ
    s = set_of g d i

    abbrev old : Allocation
    old = file_record (lay g d) d (set_of g d i)

    abbrev B : List ℕ
    B = bytes_in (lay g d) d (file_record (lay g d) d (set_of g d i))

    q : sets (root_bytes g d) i ≡ some s
    q = open_set g m d i hint clear

    hint_in : in_heap y.count hint ≡ true
    hint_in = open_hint g m d i hint clear

    size_some : 1 ≤ y.size
    size_some = let l = (fits g m d c).laid.size_low in omega arith

    valid_le : valid_length s ≤ data_length s
    valid_le = (formed_lengths y.count y.size s (slot_fit g m d c i s q).formed).valid

    before : contents g d i ≡ some (shown B (valid_length s) (data_length s))
    before = shows_before g m d c i s q (open_file_lem g m d i hint clear)

    listed : has_list (contents g d i) ≡ true
    listed = ap has_list before ∙ (unfold has_list in refl)

    -- what the model has there once its list is changed
    now : (f : List ℕ → List ℕ) → onto f (contents g d i) ≡ some (f (shown B (valid_length s) (data_length s)))
    now f = ap (onto f) before ∙ (unfold onto in refl)

    -- the entry refreshed, and nothing else
    refreshed-step : (cl : Call) (t : Stamp) → step g m d cl ≡ refreshed_only y d (root g d) i s t hint → call_slot cl 0 ≡ i
        → set_after g m d cl ≡ some (recorded s old (valid_length s) (data_length s) t)
        → accepted (contents g d) cl 0 i ≡ some (shown B (valid_length s) (data_length s))
        → finds cl (contents g d i) ≡ true → root_adds g d cl ≡ 0 → slot_answered g d cl ≡ 0 → hint_of cl ≡ hint → must_add g d cl ≡ 0 → Step g m d cl
    refreshed-step cl t is at after shows found adds slot carries nothing =
        rewritten_step g m d c i s q d old (clusters_in y d old) B (streamed_same g m d c i s q) (valid_length s) (data_length s) t valid_le
        (sym (record_count y d s)) (λ z. record_empty y d s (sym (record_count y d s) ∙ z)) cl hint (is ∙ (unfold refreshed_only in refl))
        (sym carries ∙ hint_none g d _ cl nothing) at after
        (open_file_lem g m d i hint clear) shows found adds slot

    -- ---- made longer, or at least not shorter

    module _ (len : ℕ) (some_len : len ≢ 0) (more : data_length s ≤ len)
        (enough : missing y old len ≤ count (is_usable y d m) 2 y.count) where
      abbrev o : Outcome
      o = extend_in (lay g d) d m (file_record (lay g d) d (set_of g d i)) (missing (lay g d) (file_record (lay g d) d (set_of g d i)) len) hint

      abbrev js : List ℕ
      js = clusters_in y o.volume o.answer.allocation

      -- the bytes of the longer stream
      abbrev R : List ℕ
      R = B ++ got g m d c i s q len hint hint_in enough

      room : len ≤ length R
      room = longer_bytes g m d c i s q len hint hint_in enough more

      holds : o.answer.allocation.count ≢ 0
      holds z = clusters_some y.size size_some len some_len (longer-count g m d c i s q len hint hint_in enough more ∙ z)

      abbrev n : ℕ
      n = missing (lay g d) (file_record (lay g d) d (set_of g d i)) len

      beyond_is : beyond g d i len ≡ n
      unfolding beyond missing
      beyond_is = ap (λ (x : ℕ). clusters_for y.size len - x) (sym (record_count y d s))

      module _ (cl : Call) (e A : List ℕ) (valid : ℕ) (t : Stamp) (v : Streamed g m d i s e o.answer.allocation js A) (le : valid ≤ len)
          (carries : hint_of cl ≡ hint) (added : must_add g d cl ≡ beyond g d i len) (grows : (l : List ℕ) → clusters_grown g l cl ≡ file_clusters g l i) where
        abbrev left : List ℕ
        left = stored (lay g d) e (clusters_in (lay g d) d (root g d)) i (set_of g d i) o.answer.allocation valid len t

        -- the hint is as given, or after the file's last cluster
        hinted : o.answer.hint ≡ hint_answered g d left cl
        hinted =
            elim (ℕ_discrete n 0) [
              | yes z ↦ ap (λ (x : Outcome). x.answer.hint) (extend_none y d m old n hint hint_in z) ∙ sym carries
                  ∙ hint_none g d left cl (added ∙ beyond_is ∙ z)
              | no z ↦ extend_next y d m (fits g m d c) old n hint (slot_number g m d c i s q) hint_in (omega arith) enough
                  ∙ ap (λ (k : ℕ). wrap y.count (k + 1))
                  (sym
                  (ap (last_or 0) (grows left)
                  ∙ rewritten_last g m d c i s q e o.answer.allocation js A v valid len t le (longer-count g m d c i s q len hint hint_in enough more)
                  (λ x. absurd (holds x)) holds))
                  ∙ hint_some g d left cl (λ x. z (sym beyond_is ∙ sym added ∙ x))
            ]

        grown_step : step g m d cl ≡ carried 0 o.answer.hint left → call_slot cl 0 ≡ i → set_after g m d cl ≡ some (recorded s o.answer.allocation valid len t)
            → accepted (contents g d) cl 0 i ≡ some (shown A valid len)
            → finds cl (contents g d i) ≡ true → root_adds g d cl ≡ 0 → slot_answered g d cl ≡ 0 → Step g m d cl
        grown_step is at after shows found adds slot =
            rewritten_step g m d c i s q e o.answer.allocation js A v valid len t le (longer-count g m d c i s q len hint hint_in enough more)
            (λ z. absurd (holds z)) cl o.answer.hint is hinted at after (open_file_lem g m d i hint clear) shows found adds slot

      -- bytes stored in the longer stream
      put : (e A : List ℕ) → Streamed g m d i s e o.answer.allocation js A → (at : ℕ) (bs : List ℕ) → at + length bs ≤ length js * y.size
          → Streamed g m d i s (store_at y e js at bs) o.answer.allocation js (splice A at bs)
      put e A v at bs h = streamed_store g m d c i s q e o.answer.allocation js A v at bs h

      first : Streamed g m d i s o.volume o.answer.allocation js R
      first = streamed_longer g m d c i s q len hint hint_in enough

      js_room : len ≤ length js * y.size
      js_room = longer_room g m d c i s q len hint hint_in enough more

  -- ---- write

  module _ (i offset : ℕ) (bs : List ℕ) (t : Stamp) (hint : ℕ) where
    abbrev W : Call
    W = Write i offset bs t hint

    abbrev len : ℕ
    len = max (data_length (set_of g d i)) (offset + length bs)

    -- with no data
    write_none : open_cause y d m (root g d) i hint ≡ 0 → length bs ≡ 0 → step g m d W ≡ refreshed_only y d (root g d) i (set_of g d i) t hint → Step g m d W
    write_none clear z is =
        refreshed-step i hint clear W t is (unfold call_slot in refl) (unfold set_after in (unfold stream_at in (rw (eq-eqb (length bs) 0 z) refl)))
        (unfold accepted in (rw (eq-eqb (length bs) 0 z) (before i hint clear))) (unfold finds in (listed i hint clear)) (unfold root_adds in refl)
        (unfold slot_answered in refl) (unfold hint_of in refl) (unfold must_add in (rw (eq-eqb (length bs) 0 z) refl))

    -- with data
    module _ (clear : open_cause y d m (root g d) i hint ≡ 0) (n : length bs ≢ 0) (free : data_cause y d m (set_of g d i) offset (length bs) ≡ 0) where
      abbrev end : ℕ
      end = offset + length bs

      abbrev valid : ℕ
      valid = valid_length (set_of g d i)

      some_len : len ≢ 0
      some_len z = n (omega arith)

      more : data_length (set_of g d i) ≤ len
      more = omega arith

      fit : missing y (old i hint clear) len ≤ count (is_usable y d m) 2 y.count
      unfolding data_cause length_cause
      fit = space_enough _ _ (both_clear _ _ free).1

      abbrev zeros : List ℕ
      zeros = replicate (offset - valid) 0

      -- the longer stream
      abbrev x : Outcome
      x = o i hint clear len some_len more fit

      abbrev ks : List ℕ
      ks = js i hint clear len some_len more fit

      -- zeros, then the data
      abbrev all : List ℕ
      all = splice (splice (R i hint clear len some_len more fit) valid zeros) offset bs

      stream : Streamed g m d i (set_of g d i) (with_data y x.volume ks valid offset bs) x.answer.allocation ks all
      unfolding with_data
      stream =
          let h = js_room i hint clear len some_len more fit in
          let l = length-replicate {A = ℕ} (offset - valid) 0 in
          let v = valid_le i hint clear in
          let a = more in
          put i hint clear len some_len more fit _ _
          (put i hint clear len some_len more fit _ _ (first i hint clear len some_len more fit) valid zeros (omega arith)) offset bs (omega arith)

      model_has : upd (contents g d) i (onto (λ l. overwrite l offset bs) (contents g d i)) i ≡ some (shown all (max valid end) len)
      model_has =
          upd_same (contents g d) i (onto (λ l. overwrite l offset bs) (contents g d i))
          ∙ now i hint clear (λ l. overwrite l offset bs)
          ∙ ap some
          (sym
          (shown-written (B i hint clear) (got g m d c i (set_of g d i) (q i hint clear) len hint (hint_in i hint clear) fit) valid (data_length (set_of g d i)) offset bs
          (valid_le i hint clear) (old_room g m d c i (set_of g d i) (q i hint clear)) (omega arith) (room i hint clear len some_len more fit)))

      write_some : step g m d W ≡ written y d m (root g d) i (set_of g d i) offset bs t hint → Step g m d W
      write_some is =
          grown_step i hint clear len some_len more fit W (with_data y x.volume ks valid offset bs) all (max valid end) t stream
          (max_mono valid (data_length (set_of g d i)) end (valid_le i hint clear)) (unfold hint_of in refl)
          (unfold must_add in (rw (ne_eqb (length bs) 0 n) refl)) (λ l. unfold clusters_grown in refl) (is ∙ (unfold written in refl)) (unfold call_slot in refl)
          (unfold set_after in (unfold stream_at in (rw (ne_eqb (length bs) 0 n) refl))) (unfold accepted in (rw (ne_eqb (length bs) 0 n) model_has)) (unfold finds in (listed i hint clear)) (unfold root_adds in refl)
          (unfold slot_answered in refl)

    -- what its causes say
    write_clear : write_cause y d m (root g d) i offset (length bs) hint ≡ 0
        → (open_cause y d m (root g d) i hint ≡ 0)
        × (cond (eqb (length bs) 0) 0 (data_cause y d m (set_in y d (root g d) i) offset (length bs)) ≡ 0)
    unfolding write_cause
    write_clear e = both_clear _ _ e

    pub write_step : Step g m d (Write i offset bs t hint)
    write_step =
        elim (ℕ_discrete (step g m d (Write i offset bs t hint)).answer.number 0) [
          | yes z ↦ carried_out z
          | no n ↦ refused_step g m d (Write i offset bs t hint) c n
        ]
      where
        carried_out : (step g m d (Write i offset bs t hint)).answer.number ≡ 0 → Step g m d (Write i offset bs t hint)
        carried_out z =
            let w = write-decided g m d c.limits_hold i offset bs t hint in
            let e = decided-carried w z in
            let k = write_clear (sym (decided-number w) ∙ z) in
            elim (ℕ_discrete (length bs) 0) [
              | yes h ↦ write_none k.0 h (e ∙ (rw (eq-eqb (length bs) 0 h) (ap (λ (s : List ℕ). refreshed_only y d (root g d) i s t hint) (set_in_lem i))))
              | no h ↦ write_some k.0 h (rw (ne_eqb (length bs) 0 h, set_in_lem i) at k.1)
                  (e ∙ (rw (ne_eqb (length bs) 0 h) (ap (λ (s : List ℕ). written y d m (root g d) i s offset bs t hint) (set_in_lem i))))
            ]

  -- ---- a length that is not shorter

  module _ (i len : ℕ) (t : Stamp) (hint : ℕ) (z : (step g m d (SetLength i len t hint)).answer.number ≡ 0) where
    abbrev L : Call
    L = SetLength i len t hint

    length_clear : (open_cause y d m (root g d) i hint ≡ 0) × (length_cause y d m (file_record y d (set_in y d (root g d) i)) len ≡ 0)
    unfolding set_length_cause
    length_clear = both_clear _ _ (sym (decided-number (set_decided g m d c.limits_hold i len t hint)) ∙ z)

    open_clear : open_cause y d m (root g d) i hint ≡ 0
    open_clear = length_clear.0

    is_resized : step g m d L ≡ resized y d m (root g d) i (set_of g d i) len t hint
    is_resized =
        decided-carried (set_decided g m d c.limits_hold i len t hint) z
        ∙ ap (λ (s : List ℕ). resized y d m (root g d) i s len t hint) (set_in_lem i)

    -- what the model has
    sized : upd (contents g d) i (onto (λ l. resize l len) (contents g d i)) i
        ≡ some (resize (shown (B i hint open_clear) (valid_length (set_of g d i)) (data_length (set_of g d i))) len)
    sized = upd_same (contents g d) i (onto (λ l. resize l len) (contents g d i)) ∙ now i hint open_clear (λ l. resize l len)

    abbrev valid₀ : ℕ
    valid₀ = valid_length (set_of g d i)

    abbrev len₀ : ℕ
    len₀ = data_length (set_of g d i)

    pub equal_step : data_length (set_of g d i) ≡ len → Step g m d (SetLength i len t hint)
    equal_step e =
        refreshed-step i hint open_clear L t
        (is_resized ∙ (unfold resized in (rw (le-ltb len len₀ (omega arith), eq-eqb len len₀ (sym e)) refl)))
        (unfold call_slot in refl)
        (unfold set_after in (unfold stream_at in (rw (le-ltb len len₀ (omega arith)) kept)))
        (unfold accepted in (sized ∙ ap some same)) (unfold finds in (listed i hint open_clear)) (unfold root_adds in refl)
        (unfold slot_answered in refl) (unfold hint_of in refl) (unfold must_add in (unfold beyond in (omega (arith, ap (clusters_for y.size) e))))
      where
        b : Allocation
        b = old i hint open_clear

        nothing : missing y (old i hint open_clear) len ≡ 0
        nothing = unfold missing in (omega (arith, record_count y d (set_of g d i), ap (clusters_for y.size) e))

        kept : some (recorded (set_of g d i) (extend_in y d m (old i hint open_clear) (missing y (old i hint open_clear) len) hint).answer.allocation valid₀ len t)
            ≡ some (recorded (set_of g d i) (old i hint open_clear) valid₀ len₀ t)
        kept =
            ap (λ (x : Outcome). some (recorded (set_of g d i) x.answer.allocation valid₀ len t))
            (extend_none y d m b (missing y b len) hint (hint_in i hint open_clear) nothing)
            ∙ ap (λ (x : ℕ). some (recorded (set_of g d i) b valid₀ x t)) (sym e)

        same : resize (shown (B i hint open_clear) valid₀ len₀) len ≡ shown (B i hint open_clear) valid₀ len₀
        same =
            ap (resize (shown (B i hint open_clear) valid₀ len₀)) (sym e)
            ∙ shown_same (B i hint open_clear) valid₀ len₀ (valid_le i hint open_clear) (old_room g m d c i (set_of g d i) (q i hint open_clear))

    module _ (above : data_length (set_of g d i) < len) where
      some-length : len ≢ 0
      some-length e = omega arith

      above_le : data_length (set_of g d i) ≤ len
      above_le = omega arith

      enough : missing y (old i hint open_clear) len ≤ count (is_usable y d m) 2 y.count
      unfolding length_cause
      enough = space_enough _ _ (rw (set_in_lem i) at length_clear.1)

      abbrev end_of : ℕ
      end_of = zero_end y.size valid₀ len

      abbrev blank : List ℕ
      blank = replicate (end_of - valid₀) 0

      end_le : end_of ≤ len
      end_le = new-length.end_le y.size valid₀ len (size_some i hint open_clear)

      -- the longer stream
      abbrev z₁ : Outcome
      z₁ = o i hint open_clear len some-length above_le enough

      abbrev ks₁ : List ℕ
      ks₁ = js i hint open_clear len some-length above_le enough

      -- zeros from valid on
      abbrev all₁ : List ℕ
      all₁ = splice (R i hint open_clear len some-length above_le enough) valid₀ blank

      zeroed : Streamed g m d i (set_of g d i) (store_at y z₁.volume ks₁ valid₀ blank) z₁.answer.allocation ks₁ all₁
      zeroed =
          let h = js_room i hint open_clear len some-length above_le enough in
          let l = length-replicate {A = ℕ} (end_of - valid₀) 0 in
          let v = valid_le i hint open_clear in
          let a = end_le in
          put i hint open_clear len some-length above_le enough _ _ (first i hint open_clear len some-length above_le enough) valid₀ blank (omega arith)

      longer_shows : shown all₁ valid₀ len ≡ resize (shown (B i hint open_clear) valid₀ len₀) len
      longer_shows =
          shown-longer (B i hint open_clear) valid₀ len₀ (valid_le i hint open_clear) (old_room g m d c i (set_of g d i) (q i hint open_clear))
          (got g m d c i (set_of g d i) (q i hint open_clear) len hint (hint_in i hint open_clear) enough) end_of len above_le end_le
          (room i hint open_clear len some-length above_le enough)

      pub longer-step : Step g m d (SetLength i len t hint)
      longer-step =
          grown_step i hint open_clear len some-length above_le enough L (store_at y z₁.volume ks₁ valid₀ blank) all₁ valid₀ t zeroed
          (omega (arith, valid_le i hint open_clear)) (unfold hint_of in refl) (unfold must_add in refl) (λ l. unfold clusters_grown in refl)
          (is_resized ∙ (unfold resized in (unfold longer_file in
          (rw (le-ltb len len₀ (omega arith), ne_eqb len len₀ (λ e. omega arith)) refl))))
          (unfold call_slot in refl) (unfold set_after in (unfold stream_at in (rw (le-ltb len len₀ (omega arith)) refl)))
          (unfold accepted in (sized ∙ ap some (sym longer_shows))) (unfold finds in (listed i hint open_clear)) (unfold root_adds in refl)
          (unfold slot_answered in refl)

  -- every new length, given what a shorter one does
  pub set-length-step : (i len : ℕ) (t : Stamp) (hint : ℕ)
      → (len < data_length (set_of g d i) → (step g m d (SetLength i len t hint)).answer.number ≡ 0 → Step g m d (SetLength i len t hint))
      → Step g m d (SetLength i len t hint)
  set-length-step i len t hint below =
      elim (ℕ_discrete (step g m d (SetLength i len t hint)).answer.number 0) [
        | no n ↦ refused_step g m d (SetLength i len t hint) c n
        | yes z ↦ elim (dec_lt len (data_length (set_of g d i))) [
          | yes l ↦ below l z
          | no l ↦ elim (ℕ_discrete (data_length (set_of g d i)) len) [
            | yes e ↦ equal_step i len t hint z e
            | no n ↦ longer-step i len t hint z (omega arith)
          ]
        ]
      ]
