-- Links between clusters in a table of FAT entries: each cluster of a list entered at the one before it. Assumes nothing.
use mathlib.Core.Path.{◌≡◌, refl, sym, ◌∙◌}
use mathlib.Core.Logic.{◌≢◌}
use mathlib.Core.Bool.{Bool, true, false, cond}
use mathlib.Core.List.{List, [], ◌∷◌, ◌++◌}
use Prim.Native.Nat.{ℕ, zero, suc, ◌+◌, ◌≤◌, ◌<◌}
use native.Mathlib.Decide.{ℕ_discrete}
use native.Mathlib.Omega.{arith}
use lib.Dec.{eqb}
use borrow.Author.Tests.{ne_eqb}
use Rattle.tables.specs.Table.{upd}
use Rattle.tables.specs.Lists.{Mem, here, there, Distinct, more, last_or, consec}
use Rattle.tables.proofs.TableLaws.{upd_same, upd_other}
use Rattle.tables.proofs.ListLaws.{in_consec}

-- ---- the last of a list

pub last_append : (prev : ℕ) (xs zs : List ℕ) → last_or prev (xs ++ zs) ≡ last_or (last_or prev xs) zs
unfolding last_or
last_append prev [] zs = refl
last_append prev (k ∷ xs) zs = last_append k xs zs

-- ---- links: the one before a cluster leads to it (0: none)

abbrev pub link_one : (ℕ → ℕ) → ℕ → ℕ → ℕ → ℕ
link_one f prev k = cond (eqb prev 0) f (upd f prev k)

unfoldable pub link_all : (ℕ → ℕ) → ℕ → List ℕ → ℕ → ℕ
link_all f prev [] = f
link_all f prev (k ∷ ks) = link_all (link_one f prev k) k ks

-- each of a list leads to the next
pub data Linked (f : ℕ → ℕ) : List ℕ → Type 0 where
  empty : Linked f []
  last : {k : ℕ} → Linked f (k ∷ [])
  next : {k j : ℕ} {ks : List ℕ} → f k ≡ j → Linked f (j ∷ ks) → Linked f (k ∷ j ∷ ks)

pub linked_at : (f : ℕ → ℕ) (xs : List ℕ) (k j : ℕ) (zs : List ℕ) → Linked f (xs ++ k ∷ j ∷ zs) → f k ≡ j
linked_at f [] k j zs (next e l) = e
linked_at f (a ∷ []) k j zs (next e l) = linked_at f [] k j zs l
linked_at f (a ∷ b ∷ xs) k j zs (next e l) = linked_at f (b ∷ xs) k j zs l

pub one_is : (f : ℕ → ℕ) (prev k : ℕ) → prev ≢ 0 → link_one f prev k ≡ upd f prev k
one_is f prev k n = rw (ne_eqb prev 0 n) refl

one_same : (f : ℕ → ℕ) (prev k : ℕ) → prev ≢ 0 → link_one f prev k prev ≡ k
one_same f prev k n = rw (ne_eqb prev 0 n) (upd_same f prev k)

one_other : (f : ℕ → ℕ) (prev k j : ℕ) → j ≢ prev → link_one f prev k j ≡ f j
one_other f prev k j n = at (eqb prev 0)
  where
    at : (b : Bool) → cond b f (upd f prev k) j ≡ f j
    at true = refl
    at false = upd_other f prev k j n

pub link_other : (f : ℕ → ℕ) (prev : ℕ) (ks : List ℕ) (j : ℕ) → j ≢ prev → (Mem j ks → ⊥) → link_all f prev ks j ≡ f j
unfolding link_all
link_other f prev [] j n o = refl
link_other f prev (k ∷ ks) j n o =
    link_other (link_one f prev k) k ks j (λ e. o (here e)) (λ m. o (there m)) ∙ one_other f prev k j n

-- with none before, only members change
pub link-none : (f : ℕ → ℕ) (ks : List ℕ) (j : ℕ) → (Mem j ks → ⊥) → link_all f 0 ks j ≡ f j
unfolding link_all
link-none f [] j o = refl
link-none f (k ∷ ks) j o = link_other f k ks j (λ e. o (here e)) (λ m. o (there m))

-- the one before leads to the first, and each to the next
pub link-linked : (f : ℕ → ℕ) (prev : ℕ) (ks : List ℕ) → prev ≢ 0 → (Mem 0 ks → ⊥) → (Mem prev ks → ⊥) → Distinct ks
    → Linked (link_all f prev ks) (prev ∷ ks)
unfolding link_all
link-linked f prev [] n z o d = last
link-linked f prev (k ∷ ks) n z o (more q d) =
    next
    (link_other (link_one f prev k) k ks prev (λ e. o (here e)) (λ m. o (there m)) ∙ one_same f prev k n)
    (link-linked (link_one f prev k) k ks (λ e. z (here (sym e))) (λ m. z (there m)) q d)

pub link_list : (f : ℕ → ℕ) (prev : ℕ) (ks : List ℕ) → (Mem 0 ks → ⊥) → Distinct ks → Linked (link_all f prev ks) ks
unfolding link_all
link_list f prev [] z d = empty
link_list f prev (k ∷ ks) z (more q d) = link-linked (link_one f prev k) k ks (λ e. z (here (sym e))) (λ m. z (there m)) q d

-- an entry depends on that entry alone
pub link_cong : (f g : ℕ → ℕ) (prev : ℕ) (ks : List ℕ) (j : ℕ) → f j ≡ g j → link_all f prev ks j ≡ link_all g prev ks j
unfolding link_all
link_cong f g prev [] j e = e
link_cong f g prev (k ∷ ks) j e = link_cong (link_one f prev k) (link_one g prev k) k ks j (at (eqb prev 0))
  where
    at : (b : Bool) → cond b f (upd f prev k) j ≡ cond b g (upd g prev k) j
    at true = e
    at false = unfold upd in (cc)

pub linked_cong : (f g : ℕ → ℕ) (ks : List ℕ) → ((k : ℕ) → Mem k ks → g k ≡ f k) → Linked f ks → Linked g ks
linked_cong f g [] h empty = empty
linked_cong f g (k ∷ []) h last = last
linked_cong f g (k ∷ j ∷ ks) h (next e l) = next (h k (here refl) ∙ e) (linked_cong f g (j ∷ ks) (λ i m. h i (there m)) l)

-- of a run, each leads to its successor
pub link-consec : (f : ℕ → ℕ) (k n j : ℕ) → k ≢ 0 → k ≤ j → j < k + n → link_all f k (consec (k + 1) n) j ≡ j + 1
unfolding link_all consec
link-consec f k zero j z a b = absurd (omega arith)
link-consec f k (suc n) j z a b =
    elim (ℕ_discrete j k) [
      | yes e ↦ (link_other (link_one f k (k + 1)) (k + 1) (consec (k + 1 + 1) n) j (omega arith) (λ m. let i = in_consec (k + 1 + 1) n j m in omega arith)
          ∙ (rw e (one_same f k (k + 1) z)))
      | no d ↦ link-consec (link_one f k (k + 1)) (k + 1) n j (omega arith) (omega arith) (omega arith)
    ]

-- and the others stay, the number past the run too
pub link_consec_other : (f : ℕ → ℕ) (k n j : ℕ) → ((k ≤ j) × (j < k + n) → ⊥) → link_all f k (consec (k + 1) n) j ≡ f j
unfolding link_all consec
link_consec_other f k zero j o = refl
link_consec_other f k (suc n) j o =
    link_consec_other (link_one f k (k + 1)) (k + 1) n j (λ i. o (omega arith, omega arith))
    ∙ one_other f k (k + 1) j (λ e. o (omega arith, omega arith))
