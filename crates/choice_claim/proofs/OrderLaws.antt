-- The order of clusters that are no run: they rise from the start on, then they rise from 2, and no usable cluster is passed over.
-- Assumes nothing.
use mathlib.Core.Path.{◌≡◌, refl, sym, ◌∙◌, ap, subst}
use mathlib.Core.Bool.{Bool, true, false}
use mathlib.Core.List.{List, [], ◌∷◌, ◌++◌}
use Prim.Native.Nat.{ℕ, zero, suc, ◌+◌, ◌-◌, ◌≤◌, ◌<◌}
use native.Mathlib.Decide.{dec_lt}
use native.Mathlib.Omega.{arith}
use lib.ListN.{length, take}
use lib.Seq.{take_all, length-take-le}
use Rattle.tables.specs.Lists.{Mem, here, there}
use Rattle.tables.specs.Count.{keep}
use Rattle.tables.proofs.Cases.{cond_case}
use Rattle.tables.proofs.ListLaws.{mem_left, mem_right, mem_take, take-append}
use Rattle.tables.proofs.CountLaws.{in_keep, keep_in}
use Rattle.boot.specs.Layout.{in_heap}
use Rattle.boot.proofs.Apart.{in_heap_lem}
use Rattle.choice_claim.specs.Picked.{Picked}

-- numbers from lo on, each above the one before
pub data Rises : ℕ → List ℕ → Type 0 where
  stop : {lo : ℕ} → Rises lo []
  step : {lo k : ℕ} {ks : List ℕ} → lo ≤ k → Rises (suc k) ks → Rises lo (k ∷ ks)

rises_down : (lo : ℕ) (ks : List ℕ) → Rises (suc lo) ks → Rises lo ks
rises_down lo [] stop = stop
rises_down lo (k ∷ ks) (step h r) = step {lo = lo} {k = k} {ks = ks} (omega (arith, h)) r

pub keep_rises : (p : ℕ → Bool) (lo n : ℕ) → Rises lo (keep p lo n)
unfolding keep
keep_rises p lo zero = stop
keep_rises p lo (suc n) =
    cond_case (Rises lo) (p lo) (lo ∷ keep p (suc lo) n) (keep p (suc lo) n)
    (λ e. step {lo = lo} {k = lo} (omega arith) (keep_rises p (suc lo) n)) (λ e. rises_down lo (keep p (suc lo) n) (keep_rises p (suc lo) n))

rises_take : (n lo : ℕ) (ks : List ℕ) → Rises lo ks → Rises lo (take n ks)
rises_take zero lo ks r = stop
rises_take (suc n) lo [] stop = stop
rises_take (suc n) lo (k ∷ ks) (step h r) = step {lo = lo} {k = k} {ks = take n ks} h (rises_take n (suc k) ks r)

rises_above : (lo : ℕ) (ks : List ℕ) → Rises lo ks → (k : ℕ) → Mem k ks → lo ≤ k
rises_above lo (x ∷ ks) (step h r) k (here e) = omega arith
rises_above lo (x ∷ ks) (step h r) k (there m) = omega (arith, rises_above (suc x) ks r k m)
rises_above lo [] _ k x3 = elim x3 [ ]

-- what is left behind the first n stands above them
behind : (n lo : ℕ) (ks : List ℕ) → Rises lo ks → (k : ℕ) → Mem k ks → (Mem k (take n ks) → ⊥) → (j : ℕ) → Mem j (take n ks) → j < k
behind (suc n) lo (x ∷ ks) (step h r) k (here e) o j m = absurd (o (here e))
behind (suc n) lo (x ∷ ks) (step h r) k (there i) o j (here e) = omega (arith, rises_above (suc x) ks r k i)
behind (suc n) lo (x ∷ ks) (step h r) k (there i) o j (there m) = behind n (suc x) ks r k i (λ q. o (there q)) j m
behind zero lo ks _ k _ o j m = elim m [ ]
behind (suc n) lo [] _ k x10 o j m = elim x10 [ ]

-- clusters ks of a search from start: those from the start on, then those before it, both rising, and a usable cluster that is not among
-- them comes behind them all
pub record InOrder (u : ℕ → Bool) (C start : ℕ) (ks : List ℕ) : Type 0 where
  pub upper : List ℕ
  pub lower : List ℕ
  pub parts : ks ≡ upper ++ lower
  pub upper_rises : Rises start upper
  pub lower_rises : Rises 2 lower
  pub lower_below : (k : ℕ) → Mem k lower → k < start
  pub upper_whole : (k : ℕ) → in_heap C k ≡ true → u k ≡ true → (Mem k ks → ⊥) → start ≤ k → (lower ≡ []) × ((j : ℕ) → Mem j upper → j < k)
  pub lower_whole : (k : ℕ) → in_heap C k ≡ true → u k ≡ true → (Mem k ks → ⊥) → k < start → (j : ℕ) → Mem j lower → j < k

pub picked_order : (u : ℕ → Bool) (C n start : ℕ) (ks : List ℕ) → 2 ≤ start → Picked u C n start false ks → InOrder u C start ks
picked_order u C n start ks low p = record {
  upper = take n A;
  lower = take (n - length (take n A)) B;
  parts = is;
  upper_rises = rises_take n start A (keep_rises u start (C + 2 - start));
  lower_rises = rises_take (n - length (take n A)) 2 B (keep_rises u 2 (start - 2));
  lower_below = λ k i. let r = in_keep u 2 (start - 2) k (mem_take (n - length (take n A)) B i) in omega arith;
  upper_whole = λ k h e o l. (
    none_left k (in_upper k h e l) (λ i. o (subst (Mem k) (sym is) (mem_left (take (n - length (take n A)) B) i))),
    behind n start A (keep_rises u start (C + 2 - start)) k (in_upper k h e l)
        (λ i. o (subst (Mem k) (sym is) (mem_left (take (n - length (take n A)) B) i))),
  );
  lower_whole = λ k h e o l.
      let r = in_heap_lem C k h in
      behind (n - length (take n A)) 2 B (keep_rises u 2 (start - 2)) k (keep_in u 2 (start - 2) k r.0 (omega arith) e)
      (λ i. o (subst (Mem k) (sym is) (mem_right (take n A) i)));
}
  where
    A : List ℕ
    A = keep u start (C + 2 - start)

    B : List ℕ
    B = keep u 2 (start - 2)

    is : ks ≡ take n A ++ take (n - length (take n A)) B
    is = p.list_order refl ∙ take-append n A B

    in_upper : (k : ℕ) → in_heap C k ≡ true → u k ≡ true → start ≤ k → Mem k A
    in_upper k h e l = let r = in_heap_lem C k h in keep_in u start (C + 2 - start) k l (omega arith) e

    -- the first n of A are not all of it
    none_left : (k : ℕ) → Mem k A → (Mem k (take n A) → ⊥) → take (n - length (take n A)) B ≡ []
    none_left k i o =
        elim (dec_lt n (length A)) [
          | yes h ↦ (let z : n - length (take n A) ≡ 0 = omega (arith, length-take-le n A (omega arith)) in ap (λ (x : ℕ). take x B) z)
          | no h ↦ absurd (o (subst (Mem k) (sym (take_all n A (omega arith))) i))
        ]
