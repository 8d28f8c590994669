-- The laws of pieces of consecutive clusters: the first one, how many there are, and that each is one piece of the volume. Assumes nothing.
use mathlib.Core.Path.{◌≡◌, refl, sym, ◌∙◌, ap, ap₂}
use mathlib.Core.Logic.{◌≢◌}
use mathlib.Core.Bool.{true}
use mathlib.Core.List.{List, [], ◌∷◌, ◌++◌}
use Prim.Native.Nat.{ℕ, zero, suc, ◌+◌, ◌-◌, ◌*◌, ◌≤◌, ◌<◌, min}
use native.Mathlib.Decide.{ℕ_discrete}
use native.Mathlib.Nat.{suc-mul}
use native.Mathlib.Omega.{arith}
use lib.ListN.{length, get_or, take, drop}
use lib.Seq.{take-add, take-take, drop-drop}
use borrow.Author.Tests.{eq-eqb, ne_eqb}
use Rattle.tables.specs.Lists.{every, consec}
use Rattle.tables.proofs.ListLaws.{every_head}
use Rattle.boot.specs.declared.layout.Layout.{Layout}
use Rattle.boot.specs.Layout.{cluster_at, in_heap}
use Rattle.boot.proofs.Apart.{in_heap_lem}
use Rattle.metadata.proofs.Frame.{Fits}
use Rattle.stream.specs.Pieces.{following, leading}
use Rattle.stream.specs.Internal.{breaks, stretches}
use Rattle.stream.specs.Bytes.{cluster_bytes, bytes_of}
use Rattle.stream.proofs.BytesSteps.{drop-take}
use Rattle.stream.proofs.BytesLaws.{take_of}
use Rattle.stream.proofs.RowLaws.{row_at}

-- ---- what follows a cluster

follow_next : (k j : ℕ) (js : List ℕ) → j ≡ k + 1 → following k (j ∷ js) ≡ suc (following j js)
unfolding following
follow_next k j js e = rw (eq-eqb j (k + 1) e) refl

follow_stop : (k j : ℕ) (js : List ℕ) → j ≢ k + 1 → following k (j ∷ js) ≡ 0
unfolding following
follow_stop k j js n = rw (ne_eqb j (k + 1) n) refl

follow_short : (k : ℕ) (ks : List ℕ) → following k ks ≤ length ks
follow_short k [] = unfold following in (omega arith)
follow_short k (j ∷ js) =
    elim (ℕ_discrete j (k + 1)) [
      | yes e ↦ omega (arith, follow_next k j js e, follow_short j js)
      | no n ↦ omega (arith, follow_stop k j js n)
    ]

follow_take : (n k : ℕ) (ks : List ℕ) → following k (take n ks) ≡ min n (following k ks)
follow_take zero k ks = unfold following in (omega arith)
follow_take (suc n) k [] = unfold following in (omega arith)
follow_take (suc n) k (j ∷ js) =
    elim (ℕ_discrete j (k + 1)) [
      | yes e ↦ omega (arith, follow_next k j js e, follow_next k j (take n js) e, follow_take n j js)
      | no d ↦ omega (arith, follow_stop k j js d, follow_stop k j (take n js) d)
    ]

follow_consec : (k n : ℕ) → following k (consec (k + 1) n) ≡ n
unfolding consec
follow_consec k zero = unfold following in refl
follow_consec k (suc n) = follow_next k (k + 1) (consec (k + 1 + 1) n) refl ∙ ap suc (follow_consec (k + 1) n)

follow_at : (k : ℕ) (ks : List ℕ) (i : ℕ) → i < following k ks → get_or ks i 0 ≡ k + 1 + i
follow_at k [] i h = absurd (unfold following in (omega arith))
follow_at k (j ∷ js) zero h =
    elim (ℕ_discrete j (k + 1)) [
      | yes e ↦ omega arith
      | no d ↦ absurd (omega (arith, follow_stop k j js d))
    ]
follow_at k (j ∷ js) (suc i) h =
    elim (ℕ_discrete j (k + 1)) [
      | yes e ↦ omega (arith, follow_at j js i (omega (arith, follow_next k j js e)))
      | no d ↦ absurd (omega (arith, follow_stop k j js d))
    ]

follow_ends : (k : ℕ) (ks : List ℕ) → following k ks < length ks → get_or ks (following k ks) 0 ≢ k + 1 + following k ks
follow_ends k [] h = absurd (omega arith)
follow_ends k (j ∷ js) h =
    elim (ℕ_discrete j (k + 1)) [
      | yes e ↦ rw (follow_next k j js e) (λ q. follow_ends j js (omega (arith, follow_next k j js e)) (omega (arith, q)))
      | no d ↦ rw (follow_stop k j js d) (λ q. d (omega (arith, q)))
    ]

follow_prefix : (k : ℕ) (ks : List ℕ) → take (following k ks) ks ≡ consec (k + 1) (following k ks)
unfolding consec
follow_prefix k [] = unfold following in refl
follow_prefix k (j ∷ js) =
    elim (ℕ_discrete j (k + 1)) [
      | yes e ↦ rw (follow_next k j js e) (ap₂ (λ (x : ℕ) (l : List ℕ). x ∷ l) e (follow_prefix j js ∙ ap (λ (x : ℕ). consec (x + 1) (following j js)) e))
      | no d ↦ rw (follow_stop k j js d) refl
    ]

-- ---- a list's first piece

pub leading_short : (ks : List ℕ) → leading ks ≤ length ks
unfolding leading
leading_short [] = omega arith
leading_short (k ∷ ks) = omega (arith, follow_short k ks)

pub leading-some : (ks : List ℕ) → 0 < length ks → 1 ≤ leading ks
unfolding leading
leading-some [] h = absurd (omega arith)
leading-some (k ∷ ks) h = omega arith

-- of the first n clusters
pub leading-take : (n : ℕ) (ks : List ℕ) → leading (take n ks) ≡ min n (leading ks)
unfolding leading
leading-take zero ks = omega arith
leading-take (suc n) [] = omega arith
leading-take (suc n) (k ∷ ks) = omega (arith, follow_take n k ks)

pub leading-consec : (k n : ℕ) → leading (consec k n) ≡ n
unfolding leading consec
leading-consec k zero = refl
leading-consec k (suc n) = ap suc (follow_consec k n)

-- its clusters rise by one
pub leading_at : (ks : List ℕ) (i : ℕ) → i < leading ks → get_or ks i 0 ≡ get_or ks 0 0 + i
unfolding leading
leading_at [] i h = absurd (omega arith)
leading_at (k ∷ ks) zero h = omega arith
leading_at (k ∷ ks) (suc i) h = follow_at k ks i (omega arith) ∙ (omega arith)

-- and the one behind it does not follow
pub leading_ends : (ks : List ℕ) → leading ks < length ks → get_or ks (leading ks) 0 ≢ get_or ks 0 0 + leading ks
unfolding leading
leading_ends [] h = absurd (omega arith)
leading_ends (k ∷ ks) h = λ q. follow_ends k ks (omega arith) (omega (arith, q))

pub leading_prefix : (ks : List ℕ) → take (leading ks) ks ≡ consec (get_or ks 0 0) (leading ks)
unfolding leading consec
leading_prefix [] = refl
leading_prefix (k ∷ ks) = ap (λ (l : List ℕ). k ∷ l) (follow_prefix k ks)

-- ---- how many pieces there are

breaks_follow : (k : ℕ) (ks : List ℕ) → breaks k ks ≡ stretches (drop (following k ks) ks)
unfolding breaks stretches
breaks_follow k [] = unfold following in refl
breaks_follow k (j ∷ js) =
    elim (ℕ_discrete j (k + 1)) [
      | yes e ↦ rw (follow_next k j js e, eq-eqb j (k + 1) e) (breaks_follow j js)
      | no d ↦ rw (follow_stop k j js d, ne_eqb j (k + 1) d) refl
    ]

-- the first one, and those of the rest
pub stretches-leading : (ks : List ℕ) → 0 < length ks → stretches ks ≡ suc (stretches (drop (leading ks) ks))
unfolding stretches leading
stretches-leading [] h = absurd (omega arith)
stretches-leading (k ∷ ks) h = ap suc (breaks_follow k ks)

breaks-consec : (k n : ℕ) → breaks k (consec (k + 1) n) ≡ 0
unfolding breaks consec
breaks-consec k zero = refl
breaks-consec k (suc n) = rw (eq-eqb (k + 1) (k + 1) refl) (breaks-consec (k + 1) n)

pub stretches-consec : (k n : ℕ) → 0 < n → stretches (consec k n) ≡ 1
unfolding stretches consec
stretches-consec k zero h = absurd (omega arith)
stretches-consec k (suc n) h = ap suc (breaks-consec k n)

-- ---- a piece of the volume

row_bytes : (y : Layout) (d : List ℕ) (k n : ℕ) → 2 ≤ k → bytes_of y d (consec k n) ≡ take (n * y.size) (drop (cluster_at y k) d)
unfolding bytes_of consec cluster_bytes
row_bytes y d k zero h =
    let z : 0 * y.size ≡ 0 = omega arith in
    ap (λ (x : ℕ). take x (drop (cluster_at y k) d)) (sym z)
row_bytes y d k (suc n) h =
    let e : suc n * y.size ≡ y.size + n * y.size = omega (arith, suc-mul n y.size) in
    let p : cluster_at y (k + 1) ≡ cluster_at y k + y.size = omega (arith, row_at y 1 k h) in
    ap (λ (r : List ℕ). take y.size (drop (cluster_at y k) d) ++ r)
    (row_bytes y d (k + 1) n (omega arith) ∙ ap (λ (x : ℕ). take (n * y.size) (drop x d)) p
    ∙ ap (take (n * y.size)) (sym (drop-drop y.size (cluster_at y k) d)))
    ∙ sym (ap (λ (x : ℕ). take x (drop (cluster_at y k) d)) e ∙ take-add y.size (n * y.size) (drop (cluster_at y k) d))

-- the bytes of the first piece
pub leading_bytes : (y : Layout) (d : List ℕ) (C : ℕ) (ks : List ℕ) → every (in_heap C) ks ≡ true
    → bytes_of y d (take (leading ks) ks) ≡ take (leading ks * y.size) (drop (cluster_at y (get_or ks 0 0)) d)
leading_bytes y d C [] e =
    let z : leading [] ≡ 0 = unfold leading in refl in
    let o : 0 * y.size ≡ 0 = omega arith in
    rw (z, o) (unfold bytes_of in refl)
leading_bytes y d C (k ∷ ks) e =
    ap (bytes_of y d) (leading_prefix (k ∷ ks)) ∙ row_bytes y d k (leading (k ∷ ks)) (in_heap_lem C k (every_head (in_heap C) k ks e)).0

-- a part of it, from byte `at` of the stream on
module _ (y : Layout) (d : List ℕ) (w : Fits y d) (ks : List ℕ) (e : every (in_heap y.count) ks ≡ true) where
  pub leading_piece : (at n : ℕ) → at + n ≤ leading ks * y.size
      → take n (drop (cluster_at y (get_or ks 0 0) + at) d) ≡ take n (drop at (bytes_of y d ks))
  leading_piece at n h =
      let m = leading ks * y.size in
      let bs = bytes_of y d ks in
      let s = drop (cluster_at y (get_or ks 0 0)) d in
      let q : take m bs ≡ take m s = take_of y d w (leading ks) ks (leading_short ks) e ∙ leading_bytes y d y.count ks e in
      let cut : (l : List ℕ) → take n (drop at (take m l)) ≡ take n (drop at l) =
      λ l. ap (take n) (drop-take at m l (omega arith)) ∙ take-take n (m - at) (drop at l) (omega arith) in
      ap (take n) (sym (drop-drop at (cluster_at y (get_or ks 0 0)) d)) ∙ sym (cut s) ∙ ap (λ (l : List ℕ). take n (drop at l)) (sym q) ∙ cut bs
