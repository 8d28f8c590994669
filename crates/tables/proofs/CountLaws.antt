-- The laws of counting. Assumes nothing.
use mathlib.Core.Path.{◌≡◌, refl, sym, ◌∙◌, ap, ap₂, subst}
use mathlib.Core.Logic.{◌⊎◌, inl, inr}
use mathlib.Core.Bool.{Bool, true, false, cond}
use mathlib.Core.List.{List, [], ◌∷◌, ◌++◌}
use Prim.Native.Nat.{ℕ, zero, suc, ◌+◌, ◌-◌, ◌*◌, ◌≤◌, ◌<◌}
use native.Mathlib.Decide.{ℕ_discrete}
use native.Mathlib.Omega.{arith}
use native.Mathlib.Numerals.{add-one}
use lib.ListN.{length, take}
use Rattle.tables.specs.Table.{upd}
use Rattle.tables.specs.Internal.{upd_all}
use Rattle.tables.specs.Lists.{Mem, here, there, Distinct, none, more, consec}
use Rattle.tables.specs.Count.{one, count, keep}
use Rattle.tables.proofs.Cases.{cond_case}
use Rattle.tables.proofs.TableLaws.{upd_same, upd_other, all_other}

one_le : (b : Bool) → one b ≤ 1
one_le true = omega arith
one_le false = omega arith

pub count_le : (p : ℕ → Bool) (lo n : ℕ) → count p lo n ≤ n
unfolding count
count_le p lo zero = omega arith
count_le p lo (suc n) = omega (arith, one_le (p lo), count_le p (suc lo) n)

-- only the numbers in the range matter
pub count_cong : (p q : ℕ → Bool) (lo n : ℕ) → ((k : ℕ) → lo ≤ k → k < lo + n → q k ≡ p k) → count q lo n ≡ count p lo n
unfolding count
count_cong p q lo zero h = refl
count_cong p q lo (suc n) h =
    cc (h lo (omega arith) (omega arith), count_cong p q (suc lo) n (λ k a b. h k (omega arith) (omega arith)))

count_out : (p : ℕ → Bool) (lo n k : ℕ) (b : Bool) → (k < lo) ⊎ (lo + n ≤ k) → count (upd p k b) lo n ≡ count p lo n
count_out p lo n k b (inl o) = count_cong p (upd p k b) lo n (λ j l h. upd_other p k b j (omega arith))
count_out p lo n k b (inr o) = count_cong p (upd p k b) lo n (λ j l h. upd_other p k b j (omega arith))

-- the first entry changed
upd_first : (p : ℕ → Bool) (lo n : ℕ) (b : Bool) → count (upd p lo b) lo (suc n) + one (p lo) ≡ count p lo (suc n) + one b
unfolding count
upd_first p lo n b = rw (upd_same p lo b, count_out p (suc lo) n lo b (inl (omega arith))) (omega arith)

-- one entry changed: the count changes by it
pub count_upd : (p : ℕ → Bool) (lo n k : ℕ) (b : Bool) → lo ≤ k → k < lo + n → count (upd p k b) lo n + one (p k) ≡ count p lo n + one b
unfolding count
count_upd p lo zero k b l h = absurd (omega arith)
count_upd p lo (suc n) k b l h =
    elim (ℕ_discrete k lo) [
      | yes e ↦ subst (λ x. count (upd p x b) lo (suc n) + one (p x) ≡ count p lo (suc n) + one b) (sym e) (upd_first p lo n b)
      | no d ↦ rw (upd_other p k b lo (λ e. d (sym e))) (omega (arith, count_upd p (suc lo) n k b (omega arith) (omega arith)))
    ]

-- the entries of a list of keys that all had the value b' changed to b
pub count-all : (p : ℕ → Bool) (lo n : ℕ) (ks : List ℕ) (b b' : Bool) → Distinct ks
    → ((k : ℕ) → Mem k ks → (lo ≤ k) × (k < lo + n) × (p k ≡ b'))
    → count (upd_all p ks b) lo n + length ks * one b' ≡ count p lo n + length ks * one b
unfolding upd_all
count-all p lo n [] b b' d h = omega arith
count-all p lo n (k ∷ ks) b b' (more o d) h =
    let i = h k (here refl) in
    let e : upd_all p ks b k ≡ b' = all_other p ks b k o ∙ i.2 in
    let u : count (upd (upd_all p ks b) k b) lo n + one b' ≡ count (upd_all p ks b) lo n + one b
    = subst (λ x. count (upd (upd_all p ks b) k b) lo n + one x ≡ count (upd_all p ks b) lo n + one b) e (count_upd (upd_all p ks b) lo n k b i.0 i.1) in
    omega (arith, u, count-all p lo n ks b b' d (λ j m. h j (there m)))

-- counting from the front is counting from the back
pub count_last : (p : ℕ → Bool) (lo n : ℕ) → count p lo (suc n) ≡ count p lo n + one (p (lo + n))
unfolding count
count_last p lo zero = let e : lo + 0 ≡ lo = omega arith in rw e (omega arith)
count_last p lo (suc n) =
    let e : suc lo + n ≡ lo + suc n = omega arith in
    ap (λ (x : ℕ). one (p lo) + x) (count_last p (suc lo) n) ∙ rw e (omega arith)

-- tests that no number passes together pass at most n numbers between them
pub count_split : (p q : ℕ → Bool) (lo n : ℕ) → ((k : ℕ) → p k ≡ true → q k ≡ false) → count p lo n + count q lo n ≤ n
unfolding count
count_split p q lo zero h = omega arith
count_split p q lo (suc n) h = omega (arith, both (p lo) refl, count_split p q (suc lo) n h)
  where
    both : (b : Bool) → p lo ≡ b → one (p lo) + one (q lo) ≤ 1
    both true e = rw (e, h lo e) (omega arith)
    both false e = rw e (omega (arith, one_le (q lo)))

-- ---- the list of those that pass

pub length-keep : (p : ℕ → Bool) (lo n : ℕ) → length (keep p lo n) ≡ count p lo n
unfolding keep count
length-keep p lo zero = refl
length-keep p lo (suc n) =
    elim (p lo) as (λ b. length (cond b (lo ∷ keep p (suc lo) n) (keep p (suc lo) n)) ≡ one b + count p (suc lo) n) [
      | true ↦ omega (arith, length-keep p (suc lo) n)
      | false ↦ omega (arith, length-keep p (suc lo) n)
    ]

-- what stands in the list
in_first : (p : ℕ → Bool) (lo n k : ℕ) (l : List ℕ) → p lo ≡ true → (Mem k l → (suc lo ≤ k) × (k < suc lo + n) × (p k ≡ true))
    → Mem k (lo ∷ l) → (lo ≤ k) × (k < lo + suc n) × (p k ≡ true)
in_first p lo n k l e h (here q) = (omega arith, omega arith, rw q e)
in_first p lo n k l e h (there m) = let r = h m in (omega arith, omega arith, r.2)

pub in_keep : (p : ℕ → Bool) (lo n k : ℕ) → Mem k (keep p lo n) → (lo ≤ k) × (k < lo + n) × (p k ≡ true)
unfolding keep
in_keep p lo (suc n) k m0 = (
    cond_case (λ l. Mem k l → (lo ≤ k) × (k < lo + suc n) × (p k ≡ true)) (p lo) (lo ∷ keep p (suc lo) n) (keep p (suc lo) n)
    (λ e m. in_first p lo n k (keep p (suc lo) n) e (λ m'. in_keep p (suc lo) n k m') m)
    (λ e m. let r = in_keep p (suc lo) n k m in (omega arith, omega arith, r.2))) m0
in_keep p lo zero k m0 = elim m0 [ ]

pub keep_in : (p : ℕ → Bool) (lo n k : ℕ) → lo ≤ k → k < lo + n → p k ≡ true → Mem k (keep p lo n)
unfolding keep
keep_in p lo zero k l h t = absurd (omega arith)
keep_in p lo (suc n) k l h t =
    elim (ℕ_discrete k lo) [
      | yes e ↦ (let q : p lo ≡ true = rw (sym e) t in rw q (here e))
      | no d ↦ (cond_case (Mem k) (p lo) (lo ∷ keep p (suc lo) n) (keep p (suc lo) n)
          (λ _. there (keep_in p (suc lo) n k (omega arith) (omega arith) t)) (λ _. keep_in p (suc lo) n k (omega arith) (omega arith) t))
    ]

pub keep_distinct : (p : ℕ → Bool) (lo n : ℕ) → Distinct (keep p lo n)
unfolding keep
keep_distinct p lo zero = none
keep_distinct p lo (suc n) =
    cond_case Distinct (p lo) (lo ∷ keep p (suc lo) n) (keep p (suc lo) n)
    (λ e. more (λ m. let r = in_keep p (suc lo) n lo m in omega arith) (keep_distinct p (suc lo) n)) (λ e. keep_distinct p (suc lo) n)

-- only the numbers in the range matter
pub keep_cong : (p q : ℕ → Bool) (lo n : ℕ) → ((k : ℕ) → lo ≤ k → k < lo + n → q k ≡ p k) → keep q lo n ≡ keep p lo n
unfolding keep
keep_cong p q lo zero h = refl
keep_cong p q lo (suc n) h =
    cc (h lo (omega arith) (omega arith), keep_cong p q (suc lo) n (λ k a b. h k (omega arith) (omega arith)))

-- ---- ranges put together, and ranges that pass whole

pub count-append : (p : ℕ → Bool) (lo a b : ℕ) → count p lo (a + b) ≡ count p lo a + count p (lo + a) b
unfolding count
count-append p lo zero b =
    let e : 0 + b ≡ b = omega arith in
    let f : lo + 0 ≡ lo = omega arith in
    rw (e, f) (omega arith)
count-append p lo (suc a) b =
    let e : suc a + b ≡ suc (a + b) = omega arith in
    let f : lo + suc a ≡ suc lo + a = omega arith in
    rw (e, f) (omega (arith, count-append p (suc lo) a b))

pub count_whole : (p : ℕ → Bool) (lo n : ℕ) → ((k : ℕ) → lo ≤ k → k < lo + n → p k ≡ true) → count p lo n ≡ n
unfolding count
count_whole p lo zero h = refl
count_whole p lo (suc n) h =
    rw (h lo (omega arith) (omega arith)) (omega (arith, count_whole p (suc lo) n (λ k a b. h k (omega arith) (omega arith))))

-- the first n of a range that begins with n that pass
pub take_whole : (p : ℕ → Bool) (lo n m : ℕ) (ys : List ℕ) → n ≤ m → ((k : ℕ) → lo ≤ k → k < lo + n → p k ≡ true)
    → take n (keep p lo m ++ ys) ≡ consec lo n
unfolding keep consec
take_whole p lo zero m ys l h = refl
take_whole p lo (suc n) zero ys l h = absurd (omega arith)
take_whole p lo (suc n) (suc m) ys l h =
    rw (h lo (omega arith) (omega arith), add-one lo)
    (ap (λ (ks : List ℕ). lo ∷ ks) (take_whole p (suc lo) n m ys (omega arith) (λ k a b. h k (omega arith) (omega arith))))

-- ---- the count from the front

module _ (u : ℕ → Bool) where
  pub count_none : (lo n : ℕ) → n ≤ 0 → count u lo n ≡ 0
  unfolding count
  count_none lo zero h = refl
  count_none lo (suc n) h = absurd (omega arith)

  count_first_lem : (lo n : ℕ) → count u lo (suc n) ≡ one (u lo) + count u (lo + 1) n
  unfolding count
  count_first_lem lo n = rw add-one refl

  pub count_yes : (lo hi : ℕ) → lo < hi → u lo ≡ true → count u lo (hi - lo) ≡ 1 + count u (lo + 1) (hi - (lo + 1))
  count_yes lo hi h e =
      ap (count u lo) (omega arith) ∙ count_first_lem lo (hi - (lo + 1)) ∙ ap (λ (b : Bool). one b + count u (lo + 1) (hi - (lo + 1))) e

  count_over : (d lo n : ℕ) → ((j : ℕ) → lo ≤ j → j < lo + d → u j ≡ false) → count u lo (d + n) ≡ count u (lo + d) n
  count_over zero lo n f = ap₂ (count u) (omega arith) (omega arith)
  count_over (suc d) lo n f =
      ap (count u lo) (omega arith) ∙ count_first_lem lo (d + n)
      ∙ (ap (λ (b : Bool). one b + count u (lo + 1) (d + n)) (f lo (omega arith) (omega arith))
      ∙ (omega (arith, count_over d (lo + 1) n (λ j a b. f j (omega arith) (omega arith)), ap (λ (x : ℕ). count u x n) (plus d))))
    where
      plus : (d : ℕ) → lo + 1 + d ≡ lo + suc d
      plus d = omega arith

  -- numbers that fail do not count
  pub count-beyond : (lo e hi : ℕ) → lo ≤ e → e ≤ hi → ((j : ℕ) → lo ≤ j → j < e → u j ≡ false) → count u lo (hi - lo) ≡ count u e (hi - e)
  count-beyond lo e hi h i f =
      ap (count u lo) (omega arith) ∙ count_over (e - lo) lo (hi - e) (λ j a b. f j a (omega arith)) ∙ ap (λ (x : ℕ). count u x (hi - e)) (omega arith)
