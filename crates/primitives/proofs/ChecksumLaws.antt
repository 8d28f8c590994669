-- The laws of a set's checksum. Assumes nothing.
use Rattle.std.proofs.Common.{◌≡◌, ℕ, zero, suc, ◌+◌, ◌-◌, ◌<◌, ◌≤◌, Bool, true, false, cond, eqb, List, [], ◌∷◌, min, length, get_or, take, drop, get_or-take, get_or-drop, length-drop, sym, refl, ap, ◌∙◌, ⊎_elim, mod-eq_of_lt, add-one, arith, eq-eqb, ne_eqb, ap₂}
use Rattle.std.specs.List.{fold}
use Rattle.std.proofs.lemmas.List.Sums.{fold_more}
use Rattle.std.proofs.lemmas.List.{take_all}
use Rattle.primitives.specs.Checksum.{add_byte, checksum, checksum_step}
use Rattle.primitives.specs.Words.{get_le, put_le}
use Rattle.primitives.proofs.Cases.{eq_or_ne}
use Rattle.primitives.proofs.WordLaws.{get_put, put_below, put_above}

-- ---- as the code adds the bytes: 0 and 1, then from 4 on

checksum-rest : (l : List ℕ) (m : ℕ) → m + 4 ≤ length l → checksum l (m + 4) ≡ fold add_byte (checksum l 2) (take m (drop 4 l))
unfolding checksum
checksum-rest l zero h = refl
checksum-rest l (suc m) h =
    let e : suc m + 4 ≡ suc (m + 4) = omega arith in
    let p : 4 + m ≡ m + 4 = omega arith in
    rw e
    (simp (ne_eqb (m + 4) 2 (omega arith), ne_eqb (m + 4) 3 (omega arith))
    (ap₂ add_byte (checksum-rest l m (omega arith)) (ap (λ (x : ℕ). get_or l x 0) (sym p) ∙ sym (get_or-drop 4 l m 0))
    ∙ sym (fold_more add_byte (checksum l 2) (drop 4 l) m 0 (omega (arith, length-drop 4 l)))
    ∙ ap (λ (x : ℕ). fold add_byte (checksum l 2) (take x (drop 4 l))) (add-one m)))

checksum-parts : (l : List ℕ) → checksum l (length l) ≡ fold add_byte (fold add_byte 0 (take (min (length l) 2) l)) (drop (min (length l) 4) l)
unfolding checksum
checksum-parts [] = refl
checksum-parts (a ∷ []) = refl
checksum-parts (a ∷ b ∷ []) = refl
checksum-parts (a ∷ b ∷ c ∷ []) = refl
checksum-parts (a ∷ b ∷ c ∷ d ∷ r) =
    let l = a ∷ b ∷ c ∷ d ∷ r in
    let n = length r in
    let e : n + 4 ≡ length l = omega arith in
    let p : min (length l) 2 ≡ 2 = omega arith in
    let q : min (length l) 4 ≡ 4 = omega arith in
    ap (checksum l) (sym e) ∙ checksum-rest l n (omega arith)
    ∙ ap (fold add_byte (checksum l 2)) (take_all n r (omega arith))
    ∙ ap₂ (λ (x y : ℕ). fold add_byte (fold add_byte 0 (take x l)) (drop y l)) (sym p) (sym q)

pub checksum-added : (l : List ℕ) (i j s r : ℕ) → i ≡ min (length l) 2 → j ≡ min (length l) 4 → s ≡ fold add_byte 0 (take i l)
    → r ≡ fold add_byte s (take (length l - j) (drop j l)) → r ≡ checksum l (length l)
checksum-added l i j s r p q e f =
    f ∙ ap (fold add_byte s) (take_all (length l - j) (drop j l) (omega (arith, length-drop j l)))
    ∙ ap₂ (λ (x y : ℕ). fold add_byte x (drop y l)) (e ∙ ap (λ (x : ℕ). fold add_byte 0 (take x l)) p) q ∙ sym (checksum-parts l)

-- it is a number of 16 bits
cond_lt : {a b m : ℕ} (t : Bool) → a < m → b < m → cond t a b < m
cond_lt true ha hb = ha
cond_lt false ha hb = hb

pub checksum_lt : (l : List ℕ) (n : ℕ) → checksum l n < 65536
unfolding checksum add_byte
checksum_lt l zero = omega arith
checksum_lt l (suc n) = cond_lt (eqb n 2) (checksum_lt l n) (cond_lt (eqb n 3) (checksum_lt l n) (omega arith))

-- bytes 2 and 3 do not matter
step_same : (sum k b d : ℕ) → ((k ≡ 2 → ⊥) → (k ≡ 3 → ⊥) → b ≡ d) → checksum_step sum k b ≡ checksum_step sum k d
step_same sum k b d h =
    ⊎_elim (λ e. simp (eq-eqb k 2 e))
    (λ n2. ⊎_elim (λ e. simp (eq-eqb k 3 e)) (λ n3. ap (checksum_step sum k) (h n2 n3)) (eq_or_ne k 3)) (eq_or_ne k 2)

pub checksum_same : (l m : List ℕ) (n : ℕ) → ((k : ℕ) → k < n → (k ≡ 2 → ⊥) → (k ≡ 3 → ⊥) → get_or l k 0 ≡ get_or m k 0)
    → checksum l n ≡ checksum m n
unfolding checksum
checksum_same l m zero h = refl
checksum_same l m (suc n) h =
    ap (λ (x : ℕ). checksum_step x n (get_or l n 0)) (checksum_same l m n (λ k b. h k (omega arith)))
    ∙ step_same (checksum m n) n (get_or l n 0) (get_or m n 0) (h n (omega arith))

pub checksum-take : (l : List ℕ) (n : ℕ) → checksum (take n l) n ≡ checksum l n
checksum-take l n = checksum_same (take n l) l n (λ k b n2 n3. get_or-take n l k 0 b)

-- a store into bytes 2 and 3 leaves the checksum
pub checksum_kept : (l : List ℕ) (v n : ℕ) → checksum (put_le 2 l 2 v) n ≡ checksum l n
checksum_kept l v n = checksum_same (put_le 2 l 2 v) l n byte
  where
    byte : (k : ℕ) → k < n → (k ≡ 2 → ⊥) → (k ≡ 3 → ⊥) → get_or (put_le 2 l 2 v) k 0 ≡ get_or l k 0
    byte zero b n2 n3 = put_below 2 l 2 v 0 (omega arith)
    byte (suc zero) b n2 n3 = put_below 2 l 2 v 1 (omega arith)
    byte (suc (suc k)) b n2 n3 = put_above 2 l 2 v (suc (suc k)) (omega arith)

-- a sealed set, one whose checksum is stored in bytes 2 and 3, has the right checksum
pub sealed_right : (l : List ℕ) (n : ℕ) → 4 ≤ length l → get_le 2 (put_le 2 l 2 (checksum l n)) 2 ≡ checksum (put_le 2 l 2 (checksum l n)) n
sealed_right l n h = get_put 2 l 2 (checksum l n) h ∙ mod-eq_of_lt (checksum_lt l n) ∙ sym (checksum_kept l (checksum l n) n)
