-- What write answers and leaves. Assumes nothing.
use Rattle.std.proofs.Common.{◌≡◌, ℕ, ◌+◌, ◌-◌, ◌<◌, ◌≤◌, max, cond, eqb, List, [], ◌∷◌, length, replicate, sym, refl, ap, ◌∙◌, ap₂, arith, le-ltb, lt-ltb, eq-eqb, ne_eqb}
use native.Mathlib.Decide.{ℕ_discrete}
use Rattle.boot.specs.declared.layout.Layout.{Layout}
use Rattle.boot.specs.declared.geometry.Geometry.{Geometry}
use Rattle.boot.specs.Geometry.{root_cluster}
use Rattle.boot.specs.Causes.{first_cause, admit_cause}
use Rattle.boot.proofs.CauseLaws.{cause_skip, cause_met, cause_last}
use Rattle.boot.proofs.Admission.{Admits}
use Rattle.stream.specs.declared.allocation.Allocation.{Allocation}
use Rattle.stream.specs.Bytes.{store_at}
use Rattle.entry_set.specs.declared.stamp.Stamp.{Stamp}
use Rattle.entry_set.specs.Fields.{valid_length, data_length}
use Rattle.write_alloc.specs.Outcome.{Answer}
use Rattle.write_alloc.specs.Outcome as Alloc
use Rattle.write_extend.specs.Extend.{extend_in}
use Rattle.directory.specs.Directory.{root_record}
use Rattle.stream.specs.Stream.{clusters_in}
use Rattle.file.specs.Outcome.{Outcome, carried, refuse}
use Rattle.directory.specs.Open.{file_record, set_in}
use Rattle.file.specs.Refresh.{stored, missing, length_cause, open_cause, refreshed_only}
use Rattle.write_file.specs.Internal.{DataAnswer, DataOutcome, store_cause, unstored, data_stored}
use Rattle.write_file.specs.Write.{end_cause, data_cause, with_data, written, write_cause, write_in, write_into}

-- zeros, then data
pub data_is : (y : Layout) (d d' d'' js : List ℕ) (valid offset : ℕ) (bs : List ℕ) → d' ≡ store_at y d js valid (replicate (offset - valid) 0)
    → d'' ≡ store_at y d' js offset bs → d'' ≡ with_data y d js valid offset bs
unfolding with_data
data_is y d d' d'' js valid offset bs p q = q ∙ ap (λ (l : List ℕ). store_at y l js offset bs) p

-- ---- data stored in a file's stream

module _ (y : Layout) (d m : List ℕ) (b : Allocation) (len offset n : ℕ) where
  store_past : 18446744073709551615 < offset + n → store_cause y d m b len offset n ≡ 8
  unfolding store_cause end_cause
  store_past h = rw (le-ltb (offset + n) 18446744073709551616 (omega arith)) (unfold first_cause in refl)

  store_space : offset + n ≤ 18446744073709551615 → store_cause y d m b len offset n ≡ length_cause y d m b (max len (offset + n))
  unfolding store_cause end_cause
  store_space h =
      let c = length_cause y d m b (max len (offset + n)) in
      rw (lt-ltb (offset + n) 18446744073709551616 (omega arith)) (cause_skip 0 (c ∷ []) refl ∙ cause_last c)

module _ (y : Layout) (d m : List ℕ) (b : Allocation) (valid len offset : ℕ) (bs : List ℕ) (hint : ℕ) where
  abbrev all : DataOutcome
  all = data_stored y d m b valid len offset bs hint

  as_unstored : (k : ℕ) → all ≡ unstored k b valid len hint d → (r : DataAnswer) → r ≡ (unstored k b valid len hint d).answer → (r ≡ all.answer) × (d ≡ all.volume)
  as_unstored k q r e = (e ∙ ap (λ (x : DataOutcome). x.answer) (sym q), ap (λ (x : DataOutcome). x.volume) (sym q))

  none_is : length bs ≡ 0 → all ≡ unstored 0 b valid len hint d
  unfolding data_stored
  none_is e = rw (eq-eqb (length bs) 0 e) refl

  pub stored-none : length bs ≡ 0 → (r : DataAnswer) → r ≡ (unstored 0 b valid len hint d).answer → (r ≡ all.answer) × (d ≡ all.volume)
  stored-none e = as_unstored 0 (none_is e)

  module _ (some : length bs ≡ 0 → ⊥) where
    refused_is : (k : ℕ) → store_cause y d m b len offset (length bs) ≡ k → (k ≡ 0 → ⊥) → all ≡ unstored k b valid len hint d
    unfolding data_stored
    refused_is k e z = rw (ne_eqb (length bs) 0 some, e, ne_eqb k 0 z) refl

    done_is : store_cause y d m b len offset (length bs) ≡ 0 → (o : Alloc.Outcome) → o ≡ extend_in y d m b (missing y b (max len (offset + length bs))) hint
        → all ≡ record {
          answer = record { number = 0; allocation = o.answer.allocation; valid = max valid (offset + length bs); len = max len (offset + length bs); hint = o.answer.hint };
          volume = with_data y o.volume (clusters_in y o.volume o.answer.allocation) valid offset bs;
        }
    unfolding data_stored
    done_is e o q = rw (ne_eqb (length bs) 0 some, e, q) refl

    pub stored_past : 18446744073709551615 < offset + length bs → (r : DataAnswer) → r ≡ (unstored 8 b valid len hint d).answer
        → (r ≡ all.answer) × (d ≡ all.volume)
    stored_past h = as_unstored 8 (refused_is 8 (store_past y d m b len offset (length bs) h) (λ z. omega arith))

    module _ (h : offset + length bs ≤ 18446744073709551615) (goal : ℕ) (g : goal ≡ max len (offset + length bs)) where
      cause_goal : store_cause y d m b len offset (length bs) ≡ length_cause y d m b goal
      cause_goal = store_space y d m b len offset (length bs) h ∙ ap (length_cause y d m b) (sym g)

      pub stored_refused : (k : ℕ) → k ≡ length_cause y d m b goal → (k ≡ 0 → ⊥) → (r : DataAnswer) → r ≡ (unstored k b valid len hint d).answer
          → (r ≡ all.answer) × (d ≡ all.volume)
      stored_refused k e z = as_unstored k (refused_is k (cause_goal ∙ sym e) z)

      pub stored-done : length_cause y d m b goal ≡ 0 → (v : ℕ) → v ≡ max valid (offset + length bs) → (r : Answer) (e : List ℕ)
          → r ≡ (extend_in y d m b (missing y b goal) hint).answer
          → e ≡ with_data y (extend_in y d m b (missing y b goal) hint).volume (clusters_in y (extend_in y d m b (missing y b goal) hint).volume r.allocation) valid offset bs
          → (record { number = 0; allocation = r.allocation; valid = v; len = goal; hint = r.hint } ≡ all.answer) × (e ≡ all.volume)
      stored-done k v u r e p q =
          let o = extend_in y d m b (missing y b goal) hint in
          let w = done_is (cause_goal ∙ k) o (ap (λ (x : ℕ). extend_in y d m b (missing y b x) hint) g) in (
            ap (λ (x : Answer). record { number = 0; allocation = x.allocation; valid = v; len = goal; hint = x.hint }) p
                ∙ ap₂ (λ (i j : ℕ). record { number = 0; allocation = o.answer.allocation; valid = i; len = j; hint = o.answer.hint }) u g
                ∙ ap (λ (x : DataOutcome). x.answer) (sym w),
            q ∙ ap (λ (x : Answer). with_data y o.volume (clusters_in y o.volume x.allocation) valid offset bs) p ∙ ap (λ (x : DataOutcome). x.volume) (sym w),
          )

-- ---- the call

module _ (y : Layout) (d m : List ℕ) (a : Allocation) (slot offset : ℕ) (bs : List ℕ) (t : Stamp) (hint : ℕ) where
  abbrev call : Outcome
  call = write_in y d m a slot offset bs t hint

  abbrev later : ℕ
  later = cond (eqb (length bs) 0) 0 (data_cause y d m (set_in y d a slot) offset (length bs))

  cause_is : (n : ℕ) → n ≡ open_cause y d m a slot hint → (n ≡ 0 → ⊥) → write_cause y d m a slot offset (length bs) hint ≡ n
  unfolding write_cause
  cause_is n e z = cause_met (open_cause y d m a slot hint) (later ∷ []) (λ q. z (e ∙ q)) ∙ sym e

  pub write_refused : (n : ℕ) → n ≡ open_cause y d m a slot hint → (n ≡ 0 → ⊥) → call ≡ refuse n hint d
  unfolding write_in
  write_refused n e z = rw (cause_is n e z, ne_eqb n 0 z) refl

  module _ (o : open_cause y d m a slot hint ≡ 0) where
    later_is : write_cause y d m a slot offset (length bs) hint ≡ later
    unfolding write_cause
    later_is = cause_skip (open_cause y d m a slot hint) (later ∷ []) o ∙ cause_last later

    pub write_nothing : length bs ≡ 0 → call ≡ refreshed_only y d a slot (set_in y d a slot) t hint
    unfolding write_in
    write_nothing e =
        let q : write_cause y d m a slot offset (length bs) hint ≡ 0 = later_is ∙ (rw (eq-eqb (length bs) 0 e) refl) in
        rw (q, eq-eqb (length bs) 0 e) refl

    module _ (some : length bs ≡ 0 → ⊥) where
      data_number : write_cause y d m a slot offset (length bs) hint ≡ data_cause y d m (set_in y d a slot) offset (length bs)
      data_number = later_is ∙ (rw (ne_eqb (length bs) 0 some) refl)

      pub write_not : (n : ℕ) → n ≡ data_cause y d m (set_in y d a slot) offset (length bs) → (n ≡ 0 → ⊥) → call ≡ refuse n hint d
      unfolding write_in
      write_not n e z = rw (data_number ∙ sym e, ne_eqb n 0 z) refl

      pub write_done : data_cause y d m (set_in y d a slot) offset (length bs) ≡ 0 → call ≡ written y d m a slot (set_in y d a slot) offset bs t hint
      unfolding write_in
      write_done e = rw (data_number ∙ e, ne_eqb (length bs) 0 some) refl

-- ---- the call by what storing the data gives

module _ (y : Layout) (d m : List ℕ) (a : Allocation) (slot offset : ℕ) (bs : List ℕ) (t : Stamp) (hint : ℕ) (o : open_cause y d m a slot hint ≡ 0) where
  abbrev s : List ℕ
  s = set_in y d a slot

  abbrev b : Allocation
  b = file_record y d (set_in y d a slot)

  abbrev w : DataOutcome
  w = data_stored y d m b (valid_length s) (data_length s) offset bs hint

  abbrev end : Outcome
  end = carried 0 w.answer.hint (stored y w.volume (clusters_in y d a) slot s w.answer.allocation w.answer.valid w.answer.len t)

  -- both cases at once: data refused, or stored
  abbrev Joined : Type 0
  Joined =
      ((w.answer.number ≡ 0 → ⊥) → (write_in y d m a slot offset bs t hint ≡ refuse w.answer.number hint d) × (w.volume ≡ d))
      × (w.answer.number ≡ 0 → write_in y d m a slot offset bs t hint ≡ end)

  by_outcome : (x : DataOutcome) → w ≡ x
      → ((x.answer.number ≡ 0 → ⊥) → (write_in y d m a slot offset bs t hint ≡ refuse x.answer.number hint d) × (x.volume ≡ d))
      × (x.answer.number ≡ 0
      → write_in y d m a slot offset bs t hint
      ≡ carried 0 x.answer.hint (stored y x.volume (clusters_in y d a) slot s x.answer.allocation x.answer.valid x.answer.len t))
      → Joined
  by_outcome x q j = rw q j

  pub write_joined : Joined
  write_joined =
      elim (ℕ_discrete (length bs) 0) [
        | yes e ↦
            by_outcome (unstored 0 b (valid_length s) (data_length s) hint d) (none_is y d m b (valid_length s) (data_length s) offset bs hint e)
            ((λ z. absurd (z refl)), (λ z. write_nothing y d m a slot offset bs t hint o e ∙ (unfold refreshed_only in refl)))
        | no f ↦
            let k = store_cause y d m b (data_length s) offset (length bs) in
            let c : data_cause y d m s offset (length bs) ≡ k = unfold store_cause in (unfold data_cause in refl) in
            elim (ℕ_discrete k 0) [
              | yes z ↦
                  let l = max (data_length s) (offset + length bs) in
                  by_outcome _ (done_is y d m b (valid_length s) (data_length s) offset bs hint f z (extend_in y d m b (missing y b l) hint) refl)
                  ((λ u. absurd (u refl)), (λ u. write_done y d m a slot offset bs t hint o f (c ∙ z) ∙ (unfold written in refl)))
              | no z ↦
                  by_outcome (unstored k b (valid_length s) (data_length s) hint d) (refused_is y d m b (valid_length s) (data_length s) offset bs hint f k refl z)
                  ((λ u. (write_not y d m a slot offset bs t hint o f k (sym c) z, refl)), (λ u. absurd (z u)))
            ]
      ]

  -- the same by what code has in hand: the set, its stream's record and its lengths
  pub write_stored : (s : List ℕ) → s ≡ set_in y d a slot → (x : Allocation) → x ≡ file_record y d s → (v k : ℕ) → v ≡ valid_length s → k ≡ data_length s
      → (r : DataAnswer) (e : List ℕ) → r ≡ (data_stored y d m x v k offset bs hint).answer → e ≡ (data_stored y d m x v k offset bs hint).volume
      → ((r.number ≡ 0 → ⊥) → (write_in y d m a slot offset bs t hint ≡ refuse r.number hint d) × (e ≡ d))
      × (r.number ≡ 0 → write_in y d m a slot offset bs t hint ≡ carried 0 r.hint (stored y e (clusters_in y d a) slot s r.allocation r.valid r.len t))
  write_stored s es x ex v k ev ek r e p q = rw (p, q, ex, ev, ek, es) write_joined

module _ (g : Geometry) (d m : List ℕ) (slot offset : ℕ) (bs : List ℕ) (t : Stamp) (hint : ℕ) where
  pub write_is : (y : Layout) → Admits g d m y
      → write_into g d m slot offset bs t hint ≡ write_in y d m (root_record y d (root_cluster g)) slot offset bs t hint
  unfolding write_into
  write_is y w = rw (w.cause, w.is) refl

  pub write_not-admitted : (k : ℕ) → k ≡ admit_cause g d m → (k ≡ 0 → ⊥) → write_into g d m slot offset bs t hint ≡ refuse k hint d
  unfolding write_into
  write_not-admitted k e z = rw (← e, ne_eqb k 0 z) refl
