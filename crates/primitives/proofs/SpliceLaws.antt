-- The laws of a part that is replaced. Assumes nothing.
use Rattle.std.proofs.Common.{◌≡◌, ℕ, suc, ◌+◌, ◌-◌, ◌<◌, ◌≤◌, List, [], ◌∷◌, ◌++◌, length, get_or, take, drop, set, sym, ap, ◌∙◌, ap₂, append_assoc, append-nil, add-zero, add-suc, add-one, arith, length-append, length-drop, take-append-drop, length-take-le, get_or-drop, drop-cons, get_or-take, drop-drop, take_at, get_or-append-add, drop_at}
use native.Mathlib.Decide.{dec_lt}
use lib.ListN.{get_or-append, drop_of_length-le}
use lib.Seq.{set_at, append_snoc}
use borrow.Rule.Slice.PartMut.{put_mid}
use Rattle.primitives.specs.Splice.{splice}

-- a part that fits: nothing past its end, the part, what is before it
module _ (d : List ℕ) (at : ℕ) (s : List ℕ) (fits : at + length s ≤ length d) where
  head : length (take at d ++ s) ≡ at + length s
  head = length-append (take at d) s ∙ ap (λ (n : ℕ). n + length s) (length-take-le at d (omega arith))

  pub length-splice : length (splice d at s) ≡ length d
  unfolding splice
  length-splice = simp (length-append, length-drop, length-take-le at d (omega arith)) (omega arith)

  pub splice_below : (i : ℕ) → i < at → get_or (splice d at s) i 0 ≡ get_or d i 0
  unfolding splice
  splice_below i h =
      get_or-append (take at d ++ s) _ 0 i (omega (arith, head))
      ∙ get_or-append (take at d) s 0 i (omega (arith, length-take-le at d (omega arith))) ∙ get_or-take at d i 0 h

  pub splice_in : (k : ℕ) → k < length s → get_or (splice d at s) (at + k) 0 ≡ get_or s k 0
  unfolding splice
  splice_in k h =
      get_or-append (take at d ++ s) _ 0 (at + k) (omega (arith, head))
      ∙ ap (λ (n : ℕ). get_or (take at d ++ s) (n + k) 0) (sym (length-take-le at d (omega arith))) ∙ get_or-append-add (take at d) s k 0

  pub splice_above : (i : ℕ) → at + length s ≤ i → get_or (splice d at s) i 0 ≡ get_or d i 0
  unfolding splice
  splice_above i h =
      let j = i - (at + length s) in
      let e : i ≡ length (take at d ++ s) + j = omega (arith, head) in
      let f : at + length s + j ≡ i = omega arith in
      ap (λ (n : ℕ). get_or (take at d ++ s ++ drop (at + length s) d) n 0) e ∙ get_or-append-add (take at d ++ s) _ j 0
      ∙ get_or-drop (at + length s) d j 0 ∙ ap (λ (n : ℕ). get_or d n 0) f

  -- a byte outside the part
  pub splice_off : (i : ℕ) → ((r : ℕ) → r < length s → i ≡ at + r → ⊥) → get_or (splice d at s) i 0 ≡ get_or d i 0
  splice_off i h =
      elim (dec_lt i at) [
        | yes b ↦ splice_below i b
        | no b ↦ splice_above i (elim (dec_lt i (at + length s)) [
          | yes c ↦ absurd (h (i - at) (omega arith) (omega arith))
          | no c ↦ omega arith
        ])
      ]

-- a copy of no bytes, and a turn of a loop that copies one more
pub splice-nil : (d : List ℕ) (at : ℕ) → splice d at [] ≡ d
unfolding splice
splice-nil d at = simp (add-zero, append-nil, take-append-drop)

-- a part that is all of the list
pub splice_whole : (d s : List ℕ) → length s ≡ length d → splice d 0 s ≡ s
unfolding splice
splice_whole d s e = ap (λ (r : List ℕ). s ++ r) (drop_of_length-le d {i = 0 + length s} (omega arith)) ∙ append-nil s

pub splice_more : (d : List ℕ) (at : ℕ) (s : List ℕ) (x : ℕ) → at + length s < length d
    → set (splice d at s) (at + length s) x ≡ splice d at (s ++ (x ∷ []))
unfolding splice
splice_more d at s x h =
    let n = at + length s in
    let e : length (s ++ (x ∷ [])) ≡ suc (length s) = length-append s (x ∷ []) ∙ add-one (length s) in
    ap (λ (r : List ℕ). set (take at d ++ s ++ r) n x) (drop-cons d n 0 h)
    ∙ set_at (take at d ++ s) (get_or d n 0) (drop (suc n) d) x n (head d at s (omega arith))
    ∙ sym (append_snoc (take at d ++ s) x (drop (suc n) d))
    ∙ ap₂ (λ (r : List ℕ) (k : ℕ). r ++ drop k d) (append_assoc (take at d) s (x ∷ [])) (sym (ap (λ (k : ℕ). at + k) e ∙ add-suc at (length s)))

-- the same where the part's length is known by another name, and the part that it becomes
pub splice_turn : (d : List ℕ) (at : ℕ) (s t : List ℕ) (k x : ℕ) → length s ≡ k → at + k < length d → s ++ (x ∷ []) ≡ t
    → set (splice d at s) (at + k) x ≡ splice d at t
splice_turn d at s t k x e h m =
    ap (λ (n : ℕ). set (splice d at s) (at + n) x) (sym e) ∙ splice_more d at s x (omega arith) ∙ ap (splice d at) m

-- two parts put in place one after the other
pub splice_join : (d : List ℕ) (p : ℕ) (s t : List ℕ) (q : ℕ) → p + length s ≤ length d → q ≡ p + length s
    → splice (splice d p s) q t ≡ splice d p (s ++ t)
unfolding splice
splice_join d p s t q h e =
    let f = take p d ++ s in
    let r = drop (p + length s) d in
    let n : length f ≡ q = head d p s h ∙ sym e in
    let k : p + length s + length t ≡ p + length (s ++ t) = omega (arith, length-append s t) in
    let z : drop (q + length t) (f ++ r) ≡ drop (p + length (s ++ t)) d =
    sym (drop-drop (length t) q (f ++ r)) ∙ ap (drop (length t)) (drop_at f r q n) ∙ drop-drop (length t) (p + length s) d
    ∙ ap (λ (x : ℕ). drop x d) k in
    ap₂ (λ (u v : List ℕ). u ++ t ++ v) (take_at f r q n) z
    ∙ ap (λ (u : List ℕ). u ++ drop (p + length (s ++ t)) d) (append_assoc (take p d) s t)

-- ---- a part that is lent and comes back

-- what the language gives back for a part `&mut d[a..e]` of n bytes that holds s last
pub put_mid-splice : (d : List ℕ) (a e n : ℕ) (s t : List ℕ) → e - a ≡ n → length t ≡ n → s ≡ t → put_mid a (e - a) d s ≡ splice d a t
unfolding splice
put_mid-splice d a e n s t q h r =
    rw (q, r, ← h, drop-drop (length t) a d) (sym (append_assoc (take a d) t (drop (a + length t) d)))
