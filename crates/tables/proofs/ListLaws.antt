-- The laws of membership, of tests, and of consecutive numbers. Assumes nothing.
use mathlib.Core.Path.{◌≡◌, refl, ap}
use mathlib.Core.Logic.{◌⊎◌, inl, inr, ⊎_elim}
use mathlib.Core.Bool.{Bool, true, false, false≢true}
use mathlib.Core.List.{List, [], ◌∷◌, ◌++◌}
use Prim.Native.Nat.{ℕ, zero, suc, ◌+◌, ◌-◌, ◌≤◌, ◌<◌}
use native.Mathlib.Decide.{ℕ_discrete}
use native.Mathlib.Omega.{arith}
use lib.ListN.{length, take}
use Rattle.tables.specs.Lists.{Mem, here, there, Distinct, none, more, every, last_or, consec}

pub mem_append : {k : ℕ} (xs : List ℕ) {ys : List ℕ} → Mem k (xs ++ ys) → Mem k xs ⊎ Mem k ys
mem_append [] m = inr m
mem_append (x ∷ xs) (here e) = inl (here e)
mem_append (x ∷ xs) (there m) = ⊎_elim (λ p. inl (there p)) (λ p. inr p) (mem_append xs m)

pub mem_left : {k : ℕ} {xs : List ℕ} (ys : List ℕ) → Mem k xs → Mem k (xs ++ ys)
mem_left ys (here e) = here e
mem_left ys (there m) = there (mem_left ys m)

pub mem_right : {k : ℕ} (xs : List ℕ) {ys : List ℕ} → Mem k ys → Mem k (xs ++ ys)
mem_right [] m = m
mem_right (x ∷ xs) m = there (mem_right xs m)

pub mem_take : {k : ℕ} (n : ℕ) (xs : List ℕ) → Mem k (take n xs) → Mem k xs
mem_take (suc n) (x ∷ xs) (here e) = here e
mem_take (suc n) (x ∷ xs) (there m) = there (mem_take n xs m)
mem_take {k = k} zero xs x' = elim x' [ ]
mem_take {k = k} (suc n) [] x3 = elim x3 [ ]

-- the first n of two lists
pub take-append : (n : ℕ) (xs ys : List ℕ) → take n (xs ++ ys) ≡ take n xs ++ take (n - length (take n xs)) ys
take-append zero xs ys = refl
take-append (suc n) [] ys = let e : suc n - 0 ≡ suc n = omega arith in rw e refl
take-append (suc n) (x ∷ xs) ys =
    let e : suc n - suc (length (take n xs)) ≡ n - length (take n xs) = omega arith in
    rw e (ap (λ (zs : List ℕ). x ∷ zs) (take-append n xs ys))

pub distinct_append : (xs ys : List ℕ) → Distinct xs → Distinct ys → ((k : ℕ) → Mem k xs → Mem k ys → ⊥) → Distinct (xs ++ ys)
distinct_append [] ys d e h = e
distinct_append (x ∷ xs) ys (more o d) e h =
    more (λ m. ⊎_elim o (λ p. h x (here refl) p) (mem_append xs m)) (distinct_append xs ys d e (λ k p q. h k (there p) q))

pub distinct_take : (n : ℕ) (xs : List ℕ) → Distinct xs → Distinct (take n xs)
distinct_take zero xs d = none
distinct_take (suc n) [] d = none
distinct_take (suc n) (x ∷ xs) (more o d) = more (λ m. o (mem_take n xs m)) (distinct_take n xs d)

-- ---- a test that every number passes

module _ (p : ℕ → Bool) where
  pub every_head : (k : ℕ) (ks : List ℕ) → every p (k ∷ ks) ≡ true → p k ≡ true
  unfolding every
  every_head k ks e = by (p k) refl
    where
      by : (b : Bool) → p k ≡ b → p k ≡ true
      by true q = q
      by false q = absurd (false≢true (rw q at e))

  pub every_tail : (k : ℕ) (ks : List ℕ) → every p (k ∷ ks) ≡ true → every p ks ≡ true
  unfolding every
  every_tail k ks e = rw (every_head k ks e) at e

  pub every-cons : (k : ℕ) (ks : List ℕ) → p k ≡ true → every p ks ≡ true → every p (k ∷ ks) ≡ true
  unfolding every
  every-cons k ks h t = rw h t

  pub every_mem : (ks : List ℕ) → every p ks ≡ true → (k : ℕ) → Mem k ks → p k ≡ true
  every_mem (x ∷ xs) e k (here q) = rw q (every_head x xs e)
  every_mem (x ∷ xs) e k (there m) = every_mem xs (every_tail x xs e) k m
  every_mem [] e k x'' = elim x'' [ ]

  pub mem_every : (ks : List ℕ) → ((k : ℕ) → Mem k ks → p k ≡ true) → every p ks ≡ true
  unfolding every
  mem_every [] h = refl
  mem_every (x ∷ xs) h = every-cons x xs (h x (here refl)) (mem_every xs (λ k m. h k (there m)))

-- ---- numbers in a row

pub length-consec : (k n : ℕ) → length (consec k n) ≡ n
unfolding consec
length-consec k zero = refl
length-consec k (suc n) = ap suc (length-consec (k + 1) n)

pub in_consec : (k n j : ℕ) → Mem j (consec k n) → (k ≤ j) × (j < k + n)
unfolding consec
in_consec k (suc n) j (here e) = (omega arith, omega arith)
in_consec k (suc n) j (there m) = let r = in_consec (k + 1) n j m in (omega arith, omega arith)
in_consec k zero j x' = elim x' [ ]

pub consec_in : (k n j : ℕ) → k ≤ j → j < k + n → Mem j (consec k n)
unfolding consec
consec_in k zero j l h = absurd (omega arith)
consec_in k (suc n) j l h =
    elim (ℕ_discrete j k) [ yes e ↦ here e | no d ↦ there (consec_in (k + 1) n j (omega arith) (omega arith)) ]

pub consec_distinct : (k n : ℕ) → Distinct (consec k n)
unfolding consec
consec_distinct k zero = none
consec_distinct k (suc n) = more (λ m. let r = in_consec (k + 1) n k m in omega arith) (consec_distinct (k + 1) n)

pub consec-append : (k a b : ℕ) → consec k (a + b) ≡ consec k a ++ consec (k + a) b
unfolding consec
consec-append k zero b =
    let e : 0 + b ≡ b = omega arith in
    let f : k + 0 ≡ k = omega arith in
    rw (e, f) refl
consec-append k (suc a) b =
    let e : suc a + b ≡ suc (a + b) = omega arith in
    let f : k + suc a ≡ k + 1 + a = omega arith in
    rw (e, f) (ap (λ (ks : List ℕ). k ∷ ks) (consec-append (k + 1) a b))

-- ---- the last number

pub last_in : (k : ℕ) (ks : List ℕ) → Mem (last_or k ks) (k ∷ ks)
unfolding last_or
last_in k [] = here refl
last_in k (j ∷ ks) = there (last_in j ks)

-- of a list that has one
pub last_of : (z : ℕ) (ks : List ℕ) → 1 ≤ length ks → Mem (last_or z ks) ks
unfolding last_or
last_of z [] h = absurd (omega arith)
last_of z (k ∷ ks) h = last_in k ks
