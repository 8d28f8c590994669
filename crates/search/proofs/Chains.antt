-- What `all` and `find` over a range find, in the words of searches. Assumes nothing.
use Rattle.std.proofs.Common.{◌≡◌, ℕ, zero, suc, ◌+◌, ◌-◌, ◌<◌, ◌≤◌, Bool, true, false, ◌&&◌, List, length, get_or, take, drop, Option, Bor, refl, sym, ap, ap₂, ◌∙◌, add-one, arith, length-drop, get_or-drop}
use Rattle.std.specs.Bool.{⊤}
use Rattle.std.specs.Fn.{Called, CalledAt}
use Rattle.std.specs.Iterator.{YieldsThen}
use Rattle.std.specs.List.{FoldsTo, list_all, range_with_len}
use Rattle.std.specs.Option.{MatchOption}
use Rattle.std.specs.declared.ops.Range.{Range}
use Rattle.std.proofs.iter.Yields.{nat_range_steps}
use Rattle.std.proofs.lemmas.Iterator.{YieldsList-from_range, first_from_Range}
use Rattle.std.proofs.lemmas.Iterator.Search.{all_from_yields_List}
use denote.Param.Members.{Mut}
use Rattle.tables.specs.Lists.{every}
use Rattle.tables.proofs.Chains.{every_none, every_more}
use Rattle.search.specs.Search.{all_from}
use Rattle.search.proofs.Runs.{all_first}

-- the library's test of the numbers of a range is ours
pub list_all-all_from : (u : ℕ → Bool) (k n : ℕ) → list_all u (range_with_len k n) ≡ all_from u k n
unfolding all_from
list_all-all_from u k zero = refl
list_all-all_from u k (suc n) = ap (λ (b : Bool). u k && b) (list_all-all_from u (k + 1) n) ∙ sym (all_first u k n)

-- a test of a part of a list, by the places of its items
pub every-part : (p : ℕ → Bool) (l : List ℕ) (i n : ℕ) → i + n ≤ length l → every p (take n (drop i l)) ≡ all_from (λ k. p (get_or l k 0)) i n
unfolding all_from
every-part p l i zero h = sym (every_none p)
every-part p l i (suc n) h =
    ap (λ (m : ℕ). every p (take m (drop i l))) (sym (add-one n)) ∙ every_more p (drop i l) n (omega (arith, length-drop i l))
    ∙ ap₂ (λ (a b : Bool). a && b) (every-part p l i n (omega arith)) (ap p (get_or-drop i l n 0))

module _ {F : Type 0} where
  -- what `(a..b).all(..)` returns, where the closure computes the test u
  pub all_from_range : {g : Mut F (ℕ × Unit {0}) Bool} {s : Range ℕ} (u : ℕ → Bool) (n : ℕ) (z : Range ℕ) (f : F) (r : Bool)
      → (ys : List ℕ) × (o : Option ℕ) × (j : F) × YieldsThen nat_range_steps s ys o z × FoldsTo (λ h x q. Called g h (x, tt) true q) f ys j
      × MatchOption o (r ≡ true) (λ x. (r ≡ false) × ((h : F) × Called g j (x, tt) false h))
      → s.end - s.start ≡ n → ((x : ℕ) (b : Bool) (q : F) → Called g f (x, tt) b q → (q ≡ f) × (b ≡ u x)) → r ≡ all_from u s.start n
  all_from_range {s = s} u n z f r ran e t =
      all_from_yields_List u z f r ran (YieldsList-from_range s.start s.end n refl e) t ∙ list_all-all_from u s.start n

  -- what `(a..b).find(..)` returns, where the closure computes the test p: the least number that passes, or none of them does
  pub least_from_find : {g : Mut F (Bor ℕ × Unit {0}) Bool} {s : Range ℕ} (p : ℕ → Bool) (z : Range ℕ) (f : F) (r : Option ℕ)
      → (ys : List ℕ) × (j : F) × YieldsThen nat_range_steps s ys r z × FoldsTo (λ h x q. CalledAt g h x false q) f ys j
      × MatchOption r ⊤ (λ x. (h : F) × CalledAt g j x true h)
      → ((x : ℕ) (b : Bool) (q : F) → CalledAt g f x b q → (q ≡ f) × (b ≡ p x))
      → MatchOption r ((k : ℕ) → s.start ≤ k → k < s.end → p k ≡ false)
      (λ i. (s.start ≤ i) × (i < s.end) × (p i ≡ true) × ((k : ℕ) → s.start ≤ k → k < i → p k ≡ false))
  least_from_find {s = s} p z f r ran t =
      first_from_Range s z f r (λ k. p k ≡ true) (λ k. p k ≡ false) ran (λ x q c. sym (t x true q c).1)
      (λ x q c. ((t x false q c).0, sym (t x false q c).1))
