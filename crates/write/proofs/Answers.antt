-- What a call answers: its first cause, and when that is 7. Assumes nothing.
use mathlib.Core.Path.{◌≡◌, refl, sym, ◌∙◌, ap}
use mathlib.Core.Logic.{◌≢◌, ◌↔◌}
use mathlib.Core.Bool.{Bool, true, false, cond}
use mathlib.Core.List.{List, [], ◌∷◌, ◌++◌}
use Prim.Native.Nat.{ℕ, ◌+◌, ◌-◌, ◌≤◌, ◌<◌, max}
use native.Mathlib.Decide.{ℕ_discrete, dec_lt}
use native.Mathlib.Omega.{arith}
use lib.Dec.{eqb, ltb}
use lib.ListN.{length}
use borrow.Author.Tests.{eq-eqb, ne_eqb, lt-ltb, le-ltb}
use Rattle.boot.specs.declared.geometry.Geometry.{Geometry}
use Rattle.boot.specs.declared.layout.Layout.{Layout}
use Rattle.boot.specs.Limits.{limits}
use Rattle.boot.specs.Causes.{first_cause, admit_cause, heap_cause, space_cause}
use Rattle.boot.proofs.CauseLaws.{cause_skip, cause_met, cause_last}
use Rattle.boot.proofs.Admission.{limits-admitted, limits_refused}
use Rattle.stream.specs.declared.allocation.Allocation.{Allocation}
use Rattle.entry_set.specs.declared.stamp.Stamp.{Stamp}
use Rattle.entry_set.specs.declared.stamp.Stamps.{Stamps}
use Rattle.entry_set.specs.Fields.{data_length, clusters_for}
use Rattle.entry_set.specs.Name.{name_cause, attribute_cause}
use Rattle.entry_set.specs.New.{new_entries, new_set}
use Rattle.write_shrink.specs.Shrink.{shrink_in}
use Rattle.directory.specs.Directory.{directory_cause}
use Rattle.stream.specs.Stream.{clusters_in}
use Rattle.file.specs.Outcome.{Outcome, refuse, carried}
use Rattle.directory.specs.Open.{file_record, set_in}
use Rattle.write_dir.specs.Place.{grow_by}
use Rattle.write_file.specs.NewFile.{new_growth, new_file_cause, placed, new_file_in, new_file}
use Rattle.file.specs.Refresh.{missing, length_cause, open_cause, refreshed_only}
use Rattle.write_file.specs.Write.{end_cause, data_cause, write_cause, written, write_in, write_into}
use Rattle.write_length.specs.SetLength.{set_length_cause, shorter, longer_file, resized, set_length_in, set_length}
use Rattle.write_remove.specs.Remove.{unlinked, remove_in, remove}
use Rattle.write.specs.Calls.{Call, New, Write, SetLength, Remove, step}
use Rattle.write.specs.Consistent.{lay, root, root_bytes, set_of}
use Rattle.write.specs.Demand.{hint_of}
use Rattle.write.specs.Space.{usable, beyond, must_add, other_cause}
use Rattle.write.proofs.Reading.{record_count}

-- ---- what a call on a volume that keeps the limits answers

-- by its cause: 0, and what it does then, or the refusal
pub record Decided (d : List ℕ) (n hint : ℕ) (o r : Outcome) : Type 0 where
  pub is : r ≡ cond (eqb n 0) o (refuse n hint d)
  pub zero : o.answer.number ≡ 0

module _ {d : List ℕ} {n hint : ℕ} {o r : Outcome} (e : Decided d n hint o r) where
  met : n ≢ 0 → r ≡ refuse n hint d
  met h = e.is ∙ ap (λ (b : Bool). cond b o (refuse n hint d)) (ne_eqb n 0 h)

  none-met : n ≡ 0 → r ≡ o
  none-met z = e.is ∙ ap (λ (b : Bool). cond b o (refuse n hint d)) (eq-eqb n 0 z)

  -- the number is the cause
  pub decided-number : r.answer.number ≡ n
  decided-number =
      elim (ℕ_discrete n 0) [
        | yes z ↦ ap (λ (x : Outcome). x.answer.number) (none-met z) ∙ e.zero ∙ sym z
        | no h ↦ ap (λ (x : Outcome). x.answer.number) (met h) ∙ (unfold refuse in refl)
      ]

  pub decided-carried : r.answer.number ≡ 0 → r ≡ o
  decided-carried z = none-met (sym decided-number ∙ z)

  pub decided-refused : r.answer.number ≢ 0 → r ≡ refuse r.answer.number hint d
  decided-refused h = met (λ z. h (decided-number ∙ z)) ∙ ap (λ (k : ℕ). refuse k hint d) (sym decided-number)

-- of two outcomes that both answer 0
either : (b : Bool) (o o' : Outcome) → o.answer.number ≡ 0 → o'.answer.number ≡ 0 → (cond b o o').answer.number ≡ 0
either true o o' p q = p
either false o o' p q = q

module _ (g : Geometry) (m d : List ℕ) (l : limits g (length d) m ≡ true) where
  pub new-decided : (name : List ℕ) (attributes hash : ℕ) (t : Stamps) (hint : ℕ)
      → Decided d (new_file_cause (lay g d) d m (root g d) name attributes hint) hint
      (placed (lay g d) (grow_by (lay g d) m (new_growth (lay g d) d (root g d) (length name)) (record { volume = d; directory = root g d; hint = hint }))
      (new_entries (length name)) (new_set name attributes hash t))
      (step g m d (New name attributes hash t hint))
  unfolding step new_file new_file_in lay root
  new-decided name attributes hash t hint = record { is = rw (limits-admitted g d m l) refl; zero = unfold placed in (unfold carried in refl) }

  pub write-decided : (i offset : ℕ) (bs : List ℕ) (t : Stamp) (hint : ℕ)
      → Decided d (write_cause (lay g d) d m (root g d) i offset (length bs) hint) hint
      (cond (eqb (length bs) 0) (refreshed_only (lay g d) d (root g d) i (set_in (lay g d) d (root g d) i) t hint)
      (written (lay g d) d m (root g d) i (set_in (lay g d) d (root g d) i) offset bs t hint))
      (step g m d (Write i offset bs t hint))
  unfolding step write_into write_in lay root
  write-decided i offset bs t hint = record {
    is = rw (limits-admitted g d m l) refl;
    zero = unfold refreshed_only in (unfold written in (unfold carried in (either (eqb (length bs) 0) _ _ refl refl)));
  }

  pub set_decided : (i len : ℕ) (t : Stamp) (hint : ℕ)
      → Decided d (set_length_cause (lay g d) d m (root g d) i len hint) hint
      (resized (lay g d) d m (root g d) i (set_in (lay g d) d (root g d) i) len t hint) (step g m d (SetLength i len t hint))
  unfolding step set_length set_length_in lay root
  set_decided i len t hint = record { is = rw (limits-admitted g d m l) refl; zero = sized (lay g d) (root g d) (set_in (lay g d) d (root g d) i) }
    where
      sized : (y : Layout) (a : Allocation) (s : List ℕ) → (resized y d m a i s len t hint).answer.number ≡ 0
      sized y a s =
          unfold resized in (unfold shorter in (unfold refreshed_only in (unfold longer_file in (unfold carried in (
          either (ltb len (data_length s)) (shorter y d m a i s len t hint) _ refl
          (either (eqb len (data_length s)) (refreshed_only y d a i s t hint) (longer_file y d m a i s len t hint) refl refl))))))

  pub remove-decided : (i hint : ℕ)
      → Decided d (open_cause (lay g d) d m (root g d) i hint) hint
      (carried 0 hint
      (shrink_in (lay g d) (unlinked (lay g d) d (clusters_in (lay g d) d (root g d)) i (set_in (lay g d) d (root g d) i)) m
      (file_record (lay g d) d (set_in (lay g d) d (root g d) i)) 0 hint
      ).volume)
      (step g m d (Remove i hint))
  unfolding step remove remove_in lay root
  remove-decided i hint = record { is = rw (limits-admitted g d m l) refl; zero = unfold carried in refl }

  -- a refused call leaves the volume as it was
  refused-in : (c : Call) → (step g m d c).answer.number ≢ 0 → step g m d c ≡ refuse (step g m d c).answer.number (hint_of c) d
  unfolding hint_of
  refused-in (New name attributes hash t hint) = decided-refused (new-decided name attributes hash t hint)
  refused-in (Write i offset bs t hint) = decided-refused (write-decided i offset bs t hint)
  refused-in (SetLength i len t hint) = decided-refused (set_decided i len t hint)
  refused-in (Remove i hint) = decided-refused (remove-decided i hint)

-- ---- a volume that breaks the limits

module _ (g : Geometry) (m d : List ℕ) (l : limits g (length d) m ≡ false) where
  -- any call on it is refused with 1
  pub broken : (c : Call) → step g m d c ≡ refuse 1 (hint_of c) d
  unfolding step new_file write_into set_length remove hint_of
  broken (New name attributes hash t hint) = rw (limits_refused g d m l) refl
  broken (Write i offset bs t hint) = rw (limits_refused g d m l) refl
  broken (SetLength i len t hint) = rw (limits_refused g d m l) refl
  broken (Remove i hint) = rw (limits_refused g d m l) refl

  pub broken-number : (c : Call) → (step g m d c).answer.number ≡ 1
  unfolding refuse
  broken-number c = ap (λ (o : Outcome). o.answer.number) (broken c)

  other-broken : (c : Call) → other_cause g m d c ≡ 1
  unfolding other_cause
  other-broken (New name attributes hash t hint) = cause_met _ _ (λ z. omega (arith, limits_refused g d m l)) ∙ limits_refused g d m l
  other-broken (Write i offset bs t hint) = cause_met _ _ (λ z. omega (arith, limits_refused g d m l)) ∙ limits_refused g d m l
  other-broken (SetLength i len t hint) = cause_met _ _ (λ z. omega (arith, limits_refused g d m l)) ∙ limits_refused g d m l
  other-broken (Remove i hint) = cause_met _ _ (λ z. omega (arith, limits_refused g d m l)) ∙ limits_refused g d m l

-- a refused call on any volume: the number, slot 0, the hint as given and the volume as it was
pub refused_same : (g : Geometry) (m d : List ℕ) (c : Call) → (step g m d c).answer.number ≢ 0
    → step g m d c ≡ refuse (step g m d c).answer.number (hint_of c) d
refused_same g m d c n = by (limits g (length d) m) refl
  where
    by : (b : Bool) → limits g (length d) m ≡ b → step g m d c ≡ refuse (step g m d c).answer.number (hint_of c) d
    by true l = refused-in g m d l c n
    by false l = broken g m d l c ∙ ap (λ (k : ℕ). refuse k (hint_of c) d) (sym (broken-number g m d l c))

pub refused_volume : (g : Geometry) (m d : List ℕ) (c : Call) → (step g m d c).answer.number ≢ 0 → (step g m d c).volume ≡ d
unfolding refuse
refused_volume g m d c n = ap (λ (o : Outcome). o.volume) (refused_same g m d c n)

-- ---- the number of every call on any volume

-- the last of some causes stands behind the first of the others
cause_append : (cs : List ℕ) (c : ℕ) → first_cause (cs ++ (c ∷ [])) ≡ first_cause (first_cause cs ∷ c ∷ [])
unfolding first_cause
cause_append [] c = refl
cause_append (x ∷ cs) c =
    elim (ℕ_discrete x 0) [
      | yes z ↦ cause_skip x (cs ++ (c ∷ [])) z ∙ cause_append cs c ∙ ap (λ (n : ℕ). first_cause (n ∷ c ∷ [])) (sym (cause_skip x cs z))
      | no z ↦ cause_met x (cs ++ (c ∷ [])) z ∙ sym (ap (λ (n : ℕ). first_cause (n ∷ c ∷ [])) (cause_met x cs z) ∙ cause_met x (c ∷ []) z)
    ]

-- causes that stand in for one of them
cause_flat : (c : ℕ) (cs : List ℕ) → first_cause (c ∷ first_cause cs ∷ []) ≡ first_cause (c ∷ cs)
unfolding first_cause
cause_flat c cs = ap (λ (n : ℕ). cond (eqb c 0) n c) (cause_last (first_cause cs))

-- a last cause that is not met
cause_zero : (cs : List ℕ) → first_cause cs ≡ first_cause (cs ++ (0 ∷ []))
unfolding first_cause
cause_zero [] = refl
cause_zero (c ∷ cs) = ap (λ (n : ℕ). cond (eqb c 0) n c) (cause_zero cs)

space_seven : (wanted there : ℕ) → (space_cause wanted there ≡ 7) ↔ (there < wanted)
unfolding space_cause
space_seven wanted there =
    elim (dec_lt there wanted) [
      | yes l ↦ (λ _. l, λ _. rw (lt-ltb there wanted l) refl)
      | no l ↦ (λ e. absurd (let z : ◌≡◌ {A = ℕ} 0 7 = rw (le-ltb there wanted (omega arith)) at e in omega arith), λ q. absurd (l q))
    ]

space_enough : (wanted there : ℕ) → wanted ≤ there → space_cause wanted there ≡ 0
unfolding space_cause
space_enough wanted there h = rw (le-ltb there wanted h) refl

-- what the claim says of a call's number
abbrev pub Numbered : Geometry → List ℕ → List ℕ → Call → Type 0
Numbered g m d c = (step g m d c).answer.number ≡ first_cause (other_cause g m d c ∷ space_cause (must_add g d c) (usable g m d) ∷ [])

module _ (g : Geometry) (m d : List ℕ) where
  -- the clusters that the file at slot i must add
  must : (i len : ℕ) → missing (lay g d) (file_record (lay g d) d (set_in (lay g d) d (root g d) i)) len ≡ beyond g d i len
  unfolding missing beyond set_in set_of root_bytes
  must i len = ap (λ (x : ℕ). clusters_for (lay g d).size len - x) (record_count (lay g d) d _)

  module _ (l : limits g (length d) m ≡ true) where
    -- 1 is not met; the others, then 7
    then-space : (cs : List ℕ) (wanted : ℕ)
        → first_cause (cs ++ (space_cause wanted (usable g m d) ∷ []))
        ≡ first_cause (first_cause (admit_cause g d m ∷ cs) ∷ space_cause wanted (usable g m d) ∷ [])
    then-space cs wanted =
        cause_append cs (space_cause wanted (usable g m d))
        ∙ ap (λ (n : ℕ). first_cause (n ∷ space_cause wanted (usable g m d) ∷ [])) (sym (cause_skip (admit_cause g d m) cs (limits-admitted g d m l)))

    numbered-in : (c : Call) → Numbered g m d c
    unfolding other_cause must_add
    numbered-in (New name attributes hash t hint) =
        decided-number (new-decided g m d l name attributes hash t hint)
        ∙ (unfold new_file_cause in (unfold usable in
        (then-space
        (heap_cause (lay g d).count hint ∷ directory_cause (lay g d) d (root g d) ∷ name_cause name ∷ attribute_cause attributes ∷ [])
        (new_growth (lay g d) d (root g d) (length name)))))
    numbered-in (Write i offset bs t hint) =
        decided-number (write-decided g m d l i offset bs t hint) ∙ (unfold write_cause in (by (eqb (length bs) 0)))
      where
        len : ℕ
        len = max (data_length (set_of g d i)) (offset + length bs)

        data_is : data_cause (lay g d) d m (set_in (lay g d) d (root g d) i) offset (length bs)
            ≡ first_cause (end_cause offset (length bs) ∷ space_cause (beyond g d i len) (usable g m d) ∷ [])
        data_is =
            unfold data_cause in (unfold length_cause in (unfold usable in (unfold set_in in (unfold set_of in (unfold root_bytes in (
            ap (λ (x : ℕ). first_cause (end_cause offset (length bs) ∷ space_cause x (usable g m d) ∷ []))
            (unfold set_in in (unfold set_of in (unfold root_bytes in (must i len))))))))))

        by : (b : Bool)
            → first_cause (open_cause (lay g d) d m (root g d) i hint ∷ cond b 0 (data_cause (lay g d) d m (set_in (lay g d) d (root g d) i) offset (length bs)) ∷ [])
            ≡ first_cause
            (first_cause (admit_cause g d m ∷ open_cause (lay g d) d m (root g d) i hint ∷ cond b 0 (end_cause offset (length bs)) ∷ [])
            ∷ space_cause (cond b 0 (beyond g d i (max (data_length (set_of g d i)) (offset + length bs)))) (usable g m d)
            ∷ [])
        by true =
            cause_zero (open_cause (lay g d) d m (root g d) i hint ∷ 0 ∷ [])
            ∙ ap (λ (n : ℕ). first_cause (open_cause (lay g d) d m (root g d) i hint ∷ 0 ∷ n ∷ [])) (sym (space_enough 0 (usable g m d) (omega arith)))
            ∙ then-space (open_cause (lay g d) d m (root g d) i hint ∷ 0 ∷ []) 0
        by false =
            ap (λ (n : ℕ). first_cause (open_cause (lay g d) d m (root g d) i hint ∷ n ∷ [])) data_is
            ∙ cause_flat (open_cause (lay g d) d m (root g d) i hint) _
            ∙ then-space (open_cause (lay g d) d m (root g d) i hint ∷ end_cause offset (length bs) ∷ []) (beyond g d i len)
    numbered-in (SetLength i len t hint) =
        decided-number (set_decided g m d l i len t hint)
        ∙ (unfold set_length_cause in (unfold length_cause in (unfold usable in
        (ap (λ (x : ℕ). first_cause (open_cause (lay g d) d m (root g d) i hint ∷ space_cause x (usable g m d) ∷ [])) (must i len)
        ∙ then-space (open_cause (lay g d) d m (root g d) i hint ∷ []) (beyond g d i len)))))
    numbered-in (Remove i hint) =
        decided-number (remove-decided g m d l i hint)
        ∙ sym (cause_last (open_cause (lay g d) d m (root g d) i hint))
        ∙ cause_zero (open_cause (lay g d) d m (root g d) i hint ∷ [])
        ∙ ap (λ (n : ℕ). first_cause (open_cause (lay g d) d m (root g d) i hint ∷ n ∷ [])) (sym (space_enough 0 (usable g m d) (omega arith)))
        ∙ then-space (open_cause (lay g d) d m (root g d) i hint ∷ []) 0

  pub numbered : (c : Call) → Numbered g m d c
  numbered c = by (limits g (length d) m) refl
    where
      by : (b : Bool) → limits g (length d) m ≡ b → Numbered g m d c
      by true l = numbered-in l c
      by false l =
          broken-number g m d l c
          ∙ sym
          (cause_met (other_cause g m d c) (space_cause (must_add g d c) (usable g m d) ∷ []) (λ z. omega (arith, other-broken g m d l c)) ∙ other-broken g m d l c)

  -- where no other cause is met
  by-space : (c : Call) → other_cause g m d c ≡ 0 → (step g m d c).answer.number ≡ space_cause (must_add g d c) (usable g m d)
  by-space c e = numbered c ∙ cause_skip _ _ e ∙ cause_last _

  pub seven : (c : Call) → other_cause g m d c ≡ 0 → ((step g m d c).answer.number ≡ 7) ↔ (usable g m d < must_add g d c)
  seven c e =
      let n = by-space c e in
      let s = space_seven (must_add g d c) (usable g m d) in
      (λ z. s.0 (sym n ∙ z), λ l. n ∙ s.1 l)

  pub carried_out : (c : Call) → other_cause g m d c ≡ 0 → must_add g d c ≤ usable g m d → (step g m d c).answer.number ≡ 0
  carried_out c e h = by-space c e ∙ space_enough (must_add g d c) (usable g m d) h
