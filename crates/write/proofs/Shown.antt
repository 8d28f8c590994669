-- What a file shows after a write or a new length is what the model has. 0 is what a list has past its end, so each equation of
-- lists is one of lengths and one at every place. Assumes nothing.
use mathlib.Core.Path.{◌≡◌, refl, sym, ◌∙◌, ap, ap₂}
use mathlib.Core.Logic.{◌≢◌}
use mathlib.Core.List.{[], List, ◌++◌, append_assoc, append-nil}
use Prim.Native.Nat.{ℕ, ◌+◌, ◌-◌, ◌≤◌, ◌<◌, min, max}
use native.Mathlib.Decide.{dec_lt}
use native.Mathlib.Omega.{arith}
use lib.ListN.{length, get_or, take, drop, replicate, length-append, length-take, length-drop, length-replicate, replicate-append-replicate, get_or-append, get_or-eq_default}
use lib.Seq.{length-take-le, take_all, take-append-le, take_at, get_or-take, get_or-drop, get_or-append-add, ext_get_or}
use Rattle.primitives.specs.Splice.{splice}
use Rattle.primitives.proofs.SpliceLaws.{length-splice, splice_in, splice_off}
use Rattle.entry_set.proofs.NewLaws.{get_d_zeros}
use Rattle.directory.specs.Open.{shown}
use Rattle.read_file.proofs.PartLaws.{length-shown}
use Rattle.write.specs.Model.{overwrite, resize}

-- ---- lists by place

at_left : (a b : List ℕ) (i : ℕ) → i < length a → get_or (a ++ b) i 0 ≡ get_or a i 0
at_left a b i h = get_or-append a b 0 i h

at_right : (a b : List ℕ) (i : ℕ) → length a ≤ i → get_or (a ++ b) i 0 ≡ get_or b (i - length a) 0
at_right a b i h =
    let e : i ≡ length a + (i - length a) = omega arith in
    ap (λ (x : ℕ). get_or (a ++ b) x 0) e ∙ get_or-append-add a b (i - length a) 0

-- ---- what is shown, by place

module _ (bs : List ℕ) (valid len : ℕ) (stored : valid ≤ length bs) (v : valid ≤ len) where
  pub shown_below : (i : ℕ) → i < valid → get_or (shown bs valid len) i 0 ≡ get_or bs i 0
  unfolding shown
  shown_below i h = at_left (take valid bs) (replicate (len - valid) 0) i (rw (length-take-le valid bs stored) h) ∙ get_or-take valid bs i 0 h

  pub shown_above : (i : ℕ) → valid ≤ i → get_or (shown bs valid len) i 0 ≡ 0
  unfolding shown
  shown_above i h =
      at_right (take valid bs) (replicate (len - valid) 0) i (rw (length-take-le valid bs stored) h)
      ∙ get_d_zeros (len - valid) (i - length (take valid bs))

-- it depends on the bytes below valid alone
pub shown_front : (bs cs : List ℕ) (valid len : ℕ) → valid ≤ length bs → shown (bs ++ cs) valid len ≡ shown bs valid len
unfolding shown
shown_front bs cs valid len h = ap (λ (l : List ℕ). l ++ replicate (len - valid) 0) (take-append-le valid bs cs h)

-- nothing of nothing
pub shown-empty : shown [] 0 0 ≡ []
unfolding shown
shown-empty = refl

-- ---- the model's lists, by place

module _ (l : List ℕ) (offset : ℕ) (bs : List ℕ) where
  abbrev front : List ℕ
  front = take offset (l ++ replicate (offset - length l) 0)

  front_length : length front ≡ offset
  front_length =
      length-take-le offset (l ++ replicate (offset - length l) 0)
      (omega (arith, length-append l (replicate (offset - length l) 0), length-replicate {A = ℕ} (offset - length l) 0))

  pub length_over : length (overwrite l offset bs) ≡ max (length l) (offset + length bs)
  unfolding overwrite
  length_over =
      omega (
        arith,
        length-append front (bs ++ drop (offset + length bs) l),
        front_length,
        length-append bs (drop (offset + length bs) l),
        length-drop (offset + length bs) l,
      )

  pub over_below : (i : ℕ) → i < offset → get_or (overwrite l offset bs) i 0 ≡ get_or l i 0
  unfolding overwrite
  over_below i h =
      at_left front (bs ++ drop (offset + length bs) l) i (rw front_length h)
      ∙ get_or-take offset (l ++ replicate (offset - length l) 0) i 0 h
      ∙ elim (dec_lt i (length l)) [
        | yes p ↦ at_left l (replicate (offset - length l) 0) i p
        | no p ↦ at_right l (replicate (offset - length l) 0) i (omega arith) ∙ get_d_zeros (offset - length l) (i - length l)
            ∙ sym (get_or-eq_default l 0 (omega arith))
      ]

  pub over_in : (r : ℕ) → r < length bs → get_or (overwrite l offset bs) (offset + r) 0 ≡ get_or bs r 0
  unfolding overwrite
  over_in r h =
      let e : offset + r - length front ≡ r = omega (arith, front_length) in
      at_right front (bs ++ drop (offset + length bs) l) (offset + r) (omega (arith, front_length))
      ∙ ap (λ (x : ℕ). get_or (bs ++ drop (offset + length bs) l) x 0) e ∙ at_left bs (drop (offset + length bs) l) r h

  pub over_above : (i : ℕ) → offset + length bs ≤ i → get_or (overwrite l offset bs) i 0 ≡ get_or l i 0
  unfolding overwrite
  over_above i h =
      let e : i - length front ≡ i - offset = omega (arith, front_length) in
      let f : offset + length bs + (i - offset - length bs) ≡ i = omega arith in
      at_right front (bs ++ drop (offset + length bs) l) i (omega (arith, front_length))
      ∙ ap (λ (x : ℕ). get_or (bs ++ drop (offset + length bs) l) x 0) e
      ∙ at_right bs (drop (offset + length bs) l) (i - offset) (omega arith) ∙ get_or-drop (offset + length bs) l (i - offset - length bs) 0
      ∙ ap (λ (x : ℕ). get_or l x 0) f

-- ---- write: zeros from valid to the offset, then the data

module _ (R : List ℕ) (valid len offset : ℕ) (bs : List ℕ) (stored : valid ≤ length R) (v : valid ≤ len) (room : offset + length bs ≤ length R) where
  abbrev zeroed : List ℕ
  zeroed = splice R valid (replicate (offset - valid) 0)

  abbrev written : List ℕ
  written = splice zeroed offset bs

  zeros : length {A = ℕ} (replicate (offset - valid) 0) ≡ offset - valid
  zeros = length-replicate {A = ℕ} (offset - valid) 0

  length_zeroed : length zeroed ≡ length R
  length_zeroed = length-splice R valid (replicate (offset - valid) 0) (omega (arith, zeros))

  length-written : length written ≡ length R
  length-written = length-splice zeroed offset bs (omega (arith, length_zeroed)) ∙ length_zeroed

  written_in : (r : ℕ) → r < length bs → get_or written (offset + r) 0 ≡ get_or bs r 0
  written_in r h = splice_in zeroed offset bs (omega (arith, length_zeroed)) r h

  written_off : (i : ℕ) → ((r : ℕ) → r < length bs → i ≢ offset + r) → get_or written i 0 ≡ get_or zeroed i 0
  written_off i o = splice_off zeroed offset bs (omega (arith, length_zeroed)) i o

  zeroed_off : (i : ℕ) → ((r : ℕ) → r < offset - valid → i ≢ valid + r) → get_or zeroed i 0 ≡ get_or R i 0
  zeroed_off i o = splice_off R valid (replicate (offset - valid) 0) (omega (arith, zeros)) i (λ r h. o r (omega (arith, zeros)))

  zeroed_in : (i : ℕ) → valid ≤ i → i < offset → get_or zeroed i 0 ≡ 0
  zeroed_in i a b =
      let e : i ≡ valid + (i - valid) = omega arith in
      ap (λ (x : ℕ). get_or zeroed x 0) e
      ∙ splice_in R valid (replicate (offset - valid) 0) (omega (arith, zeros)) (i - valid) (omega (arith, zeros))
      ∙ get_d_zeros (offset - valid) (i - valid)

  write_all : 1 ≤ length bs
      → shown written (max valid (offset + length bs)) (max len (offset + length bs)) ≡ overwrite (shown R valid len) offset bs
  write_all some =
      ext_get_or 0 new (overwrite old offset bs)
      (length-shown written valid' len' s' v' ∙ sym (length_over old offset bs ∙ ap (λ (x : ℕ). max x (offset + length bs)) (length-shown R valid len stored v)))
      (λ i _. at i (dec_lt i offset) (dec_lt i (offset + length bs)) (dec_lt i valid))
    where
      valid' : ℕ
      valid' = max valid (offset + length bs)

      len' : ℕ
      len' = max len (offset + length bs)

      old : List ℕ
      old = shown R valid len

      new : List ℕ
      new = shown written (max valid (offset + length bs)) (max len (offset + length bs))

      s' : valid' ≤ length written
      s' = omega (arith, length-written)

      v' : valid' ≤ len'
      v' = omega arith

      below : (i : ℕ) → i < max valid (offset + length bs) → get_or new i 0 ≡ get_or written i 0
      below i h = shown_below written valid' len' s' v' i h

      at : (i : ℕ) → Dec (i < offset) → Dec (i < offset + length bs) → Dec (i < valid) → get_or new i 0 ≡ get_or (overwrite old offset bs) i 0
      at i (yes a) b (yes c) =
          below i (omega arith) ∙ written_off i (λ r h. omega arith) ∙ zeroed_off i (λ r h. omega arith)
          ∙ sym (over_below old offset bs i a ∙ shown_below R valid len stored v i c)
      at i (yes a) b (no c) =
          below i (omega arith) ∙ written_off i (λ r h. omega arith) ∙ zeroed_in i (omega arith) a
          ∙ sym (over_below old offset bs i a ∙ shown_above R valid len stored v i (omega arith))
      at i (no a) (yes b) c =
          let r : ℕ = i - offset in
          let e : i ≡ offset + r = omega arith in
          ap (λ (x : ℕ). get_or new x 0) e ∙ below (offset + r) (omega arith) ∙ written_in r (omega arith)
          ∙ sym (ap (λ (x : ℕ). get_or (overwrite old offset bs) x 0) e ∙ over_in old offset bs r (omega arith))
      at i (no a) (no b) (yes c) =
          below i (omega arith) ∙ written_off i (λ r h. omega arith) ∙ zeroed_off i (λ r h. omega arith)
          ∙ sym (over_above old offset bs i (omega arith) ∙ shown_below R valid len stored v i c)
      at i (no a) (no b) (no c) =
          shown_above written valid' len' s' v' i (omega arith)
          ∙ sym (over_above old offset bs i (omega arith) ∙ shown_above R valid len stored v i (omega arith))

-- data written to a stream of bytes B that grew by X
pub shown-written : (B X : List ℕ) (valid len offset : ℕ) (bs : List ℕ) → valid ≤ len → len ≤ length B → 1 ≤ length bs
    → max len (offset + length bs) ≤ length (B ++ X)
    → shown (splice (splice (B ++ X) valid (replicate (offset - valid) 0)) offset bs) (max valid (offset + length bs)) (max len (offset + length bs))
    ≡ overwrite (shown B valid len) offset bs
shown-written B X valid len offset bs v l some room =
    let n = length-append B X in
    write_all (B ++ X) valid len offset bs (omega arith) v (omega (arith, room)) some
    ∙ ap (λ (l : List ℕ). overwrite l offset bs) (shown_front B X valid len (omega arith))

-- ---- a new length

module _ (B : List ℕ) (valid len : ℕ) (v : valid ≤ len) (l : len ≤ length B) where
  old-length : length (shown B valid len) ≡ len
  old-length = length-shown B valid len (omega arith) v

  -- longer: zeros stored from valid to z, which does not pass the new length
  pub shown-longer : (X : List ℕ) (z len' : ℕ) → len ≤ len' → z ≤ len' → len' ≤ length (B ++ X)
      → shown (splice (B ++ X) valid (replicate (z - valid) 0)) valid len' ≡ resize (shown B valid len) len'
  unfolding resize shown
  shown-longer X z len' a b c =
      ap (λ (u : List ℕ). u ++ replicate (len' - valid) 0) same
      ∙ fill
      ∙ ap₂ (λ (u : List ℕ) (n : ℕ). u ++ replicate n 0) (sym (take_all len' (shown B valid len) (omega (arith, old-length))))
      (ap (λ (n : ℕ). len' - n) (sym old-length))
    where
      n : length (B ++ X) ≡ length B + length X
      n = length-append B X

      same : take valid (splice (B ++ X) valid (replicate (z - valid) 0)) ≡ take valid B
      same =
          unfold splice in
          (ap (take valid) (append_assoc (take valid (B ++ X)) (replicate (z - valid) 0) (drop (valid + length (replicate (z - valid) 0)) (B ++ X)))
          ∙ take_at (take valid (B ++ X)) (replicate (z - valid) 0 ++ drop (valid + length (replicate (z - valid) 0)) (B ++ X)) valid (length-take-le valid (B ++ X) (omega (arith, n)))
          ∙ take-append-le valid B X (omega arith))

      fill : take valid B ++ replicate (len' - valid) 0 ≡ shown B valid len ++ replicate (len' - len) 0
      fill =
          unfold shown in
          (let e : len' - valid ≡ (len - valid) + (len' - len) = omega arith in
          rw (e, ← replicate-append-replicate, append_assoc))

  -- shorter: the bytes cut somewhere past the new length
  pub shown-shorter : (k len' : ℕ) → len' ≤ len → len' ≤ k → shown (take k B) (min valid len') len' ≡ resize (shown B valid len) len'
  unfolding resize
  shown-shorter k len' a b =
      ext_get_or 0 (shown (take k B) (min valid len') len') (take len' old ++ replicate (len' - length old) 0)
      (length-shown (take k B) (min valid len') len' s' (omega arith) ∙ sym cut-length)
      (λ i h. at i (omega (arith, length-shown (take k B) (min valid len') len' s' (omega arith))) (dec_lt i valid))
    where
      old : List ℕ
      old = shown B valid len

      s' : min valid len' ≤ length (take k B)
      s' = omega (arith, length-take k B)

      cut_short : length (take len' old) ≡ len'
      cut_short = length-take-le len' old (omega (arith, old-length))

      cut-length : length (take len' old ++ replicate (len' - length old) 0) ≡ len'
      cut-length =
          omega (
            arith,
            length-append (take len' old) (replicate (len' - length old) 0),
            cut_short,
            old-length,
            length-replicate {A = ℕ} (len' - length old) 0,
          )

      model : (i : ℕ) → i < len' → get_or (take len' old ++ replicate (len' - length old) 0) i 0 ≡ get_or old i 0
      model i h = at_left (take len' old) (replicate (len' - length old) 0) i (omega (arith, cut_short)) ∙ get_or-take len' old i 0 h

      at : (i : ℕ) → i < len' → Dec (i < valid)
          → get_or (shown (take k B) (min valid len') len') i 0 ≡ get_or (take len' old ++ replicate (len' - length old) 0) i 0
      at i h (yes c) =
          shown_below (take k B) (min valid len') len' s' (omega arith) i (omega arith) ∙ get_or-take k B i 0 (omega arith)
          ∙ sym (model i h ∙ shown_below B valid len (omega arith) v i c)
      at i h (no c) =
          shown_above (take k B) (min valid len') len' s' (omega arith) i (omega arith)
          ∙ sym (model i h ∙ shown_above B valid len (omega arith) v i (omega arith))

  -- equal
  pub shown_same : resize (shown B valid len) len ≡ shown B valid len
  unfolding resize
  shown_same =
      let e : len - length (shown B valid len) ≡ 0 = omega (arith, old-length) in
      ap₂ (λ (u : List ℕ) (n : ℕ). u ++ replicate n 0) (take_all len (shown B valid len) (omega (arith, old-length))) e
      ∙ append-nil (shown B valid len)
