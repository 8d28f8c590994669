-- The laws of tables. Assumes nothing.
use mathlib.Core.Path.{◌≡◌, refl, sym, ◌∙◌, ap, subst, fun_ext}
use mathlib.Core.Logic.{◌≢◌}
use mathlib.Core.Bool.{Bool, true, false, cond}
use mathlib.Core.List.{List, [], ◌∷◌}
use Prim.Native.Nat.{ℕ}
use native.Mathlib.Decide.{ℕ_discrete}
use lib.Dec.{eqb}
use borrow.Author.Tests.{eq-eqb, ne_eqb}
use Rattle.tables.specs.Table.{upd}
use Rattle.tables.specs.Internal.{upd_all, only}
use Rattle.tables.specs.Lists.{Mem, here, there}

-- ---- one entry

module _ {ℓ} {A : Type ℓ} where
  pub upd_same : (f : ℕ → A) (k : ℕ) (v : A) → upd f k v k ≡ v
  unfolding upd
  upd_same f k v = rw (eq-eqb k k refl)

  pub upd_other : (f : ℕ → A) (k : ℕ) (v : A) (j : ℕ) → j ≢ k → upd f k v j ≡ f j
  unfolding upd
  upd_other f k v j d = rw (ne_eqb j k d)

  -- what holds of an entry of the changed table, by cases
  pub upd_case {κ} : (P : A → Type κ) (f : ℕ → A) (k : ℕ) (v : A) (j : ℕ) → (j ≡ k → P v) → (j ≢ k → P (f j)) → P (upd f k v j)
  upd_case P f k v j y n =
      elim (ℕ_discrete j k) [ yes e ↦ subst P (sym (ap (λ i. upd f k v i) e ∙ upd_same f k v)) (y e) | no d ↦ rw (upd_other f k v j d) (n d) ]

  -- ---- the entries of a list of keys

  pub all_other : (f : ℕ → A) (ks : List ℕ) (v : A) (j : ℕ) → (Mem j ks → ⊥) → upd_all f ks v j ≡ f j
  unfolding upd_all
  all_other f [] v j o = refl
  all_other f (k ∷ ks) v j o = upd_other (upd_all f ks v) k v j (λ e. o (here e)) ∙ all_other f ks v j (λ m. o (there m))

  pub all_same : (f : ℕ → A) (ks : List ℕ) (v : A) (j : ℕ) → Mem j ks → upd_all f ks v j ≡ v
  unfolding upd_all
  all_same f (k ∷ ks) v j (here e) = rw e (upd_same (upd_all f ks v) k v)
  all_same f (k ∷ ks) v j (there m) = upd_case (λ x. x ≡ v) (upd_all f ks v) k v j (λ _. refl) (λ _. all_same f ks v j m)
  all_same f [] v j x' = elim x' [ ]

  -- the order of keys that get one value does not matter
  upd_swap : (f : ℕ → A) (k l : ℕ) (v : A) → upd (upd f k v) l v ≡ upd (upd f l v) k v
  unfolding upd
  upd_swap f k l v = fun_ext (λ j. at (eqb j k) (eqb j l) (f j))
    where
      at : (a b : Bool) (x : A) → cond b v (cond a v x) ≡ cond a v (cond b v x)
      at true true x = refl
      at true false x = refl
      at false true x = refl
      at false false x = refl

  pub all-upd : (f : ℕ → A) (k : ℕ) (v : A) (ks : List ℕ) → upd_all (upd f k v) ks v ≡ upd (upd_all f ks v) k v
  unfolding upd_all
  all-upd f k v [] = refl
  all-upd f k v (l ∷ ks) = ap (λ (g : ℕ → A). upd g l v) (all-upd f k v ks) ∙ upd_swap (upd_all f ks v) k l v

  -- ---- a table cut to some keys: two are equal where they agree on those

  pub only_in : (p : ℕ → Bool) (z : A) (f : ℕ → A) (k : ℕ) → p k ≡ true → only p z f k ≡ f k
  unfolding only
  only_in p z f k e = rw e

  pub only_cong : (p : ℕ → Bool) (z : A) (f f' : ℕ → A) → ((k : ℕ) → p k ≡ true → f' k ≡ f k) → only p z f' ≡ only p z f
  unfolding only
  only_cong p z f f' h = fun_ext (λ k. at k (p k) refl)
    where
      at : (k : ℕ) (b : Bool) → p k ≡ b → cond b (f' k) z ≡ cond b (f k) z
      at k true e = h k e
      at k false e = refl

  pub only-upd : (p : ℕ → Bool) (z : A) (f f' : ℕ → A) (k : ℕ) (v : A) → p k ≡ true → f' k ≡ v
      → ((j : ℕ) → p j ≡ true → j ≢ k → f' j ≡ f j) → only p z f' ≡ upd (only p z f) k v
  unfolding only
  only-upd p z f f' k v t e h = fun_ext (λ j. at j (ℕ_discrete j k) (p j) refl)
    where
      at : (j : ℕ) → Dec (j ≡ k) → (b : Bool) → p j ≡ b → cond (p j) (f' j) z ≡ upd (only p z f) k v j
      at j (yes q) b r = rw (q, upd_same (only p z f) k v, t) e
      at j (no q) true r = rw (upd_other (only p z f) k v j q, r) (h j r q)
      at j (no q) false r = rw (upd_other (only p z f) k v j q, r)

-- ---- the entries from a key on
