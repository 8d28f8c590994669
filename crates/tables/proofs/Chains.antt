-- What `all`, `fold` and `for` over the items of a slice find, in the words of lists. Assumes nothing.
use Rattle.std.proofs.Common.{◌≡◌, ℕ, ◌+◌, ◌<◌, Bool, true, false, ◌&&◌, List, [], ◌∷◌, ◌++◌, length, get_or, take, Option, Bor, refl, sym, ap, ◌∙◌}
use Rattle.std.specs.Fn.{Called}
use Rattle.std.specs.Iterator.{YieldsThen, Drains}
use Rattle.std.specs.List.{FoldsTo, list_all}
use Rattle.std.specs.Option.{MatchOption}
use Rattle.std.specs.Slice.Iter.{iter_rest}
use Rattle.std.specs.declared.slice.Iter.{Iter}
use Rattle.std.proofs.lemmas.Iterator.{YieldsList-from_slice}
use Rattle.std.proofs.lemmas.Iterator.Search.{all_from_yields_List}
use Rattle.std.proofs.lemmas.Fn.{fold_over, slice_gives, fronts}
use Rattle.std.proofs.lemmas.List.Folds.{list_all-append, list_all_more}
use denote.Param.Members.{Mut}
use Rattle.tables.specs.Lists.{every}
use Rattle.tables.proofs.Cases.{and-true}

-- the library's test of a list is ours
pub list_all-every : (p : ℕ → Bool) (ks : List ℕ) → list_all p ks ≡ every p ks
unfolding every
list_all-every p [] = refl
list_all-every p (k ∷ ks) = ap (λ (b : Bool). p k && b) (list_all-every p ks)

-- no item yet, and one more, in a turn of a `for`
pub every_none : (p : ℕ → Bool) → true ≡ every p []
unfolding every
every_none p = refl

pub every_more : (p : ℕ → Bool) (ks : List ℕ) (i : ℕ) → i < length ks → every p (take (i + 1) ks) ≡ every p (take i ks) && p (get_or ks i 0)
every_more p ks i h =
    sym (list_all-every p (take (i + 1) ks)) ∙ list_all_more p ks i 0 h ∙ ap (λ (b : Bool). b && p (get_or ks i 0)) (list_all-every p (take i ks))

module _ {F : Type 0} where
  -- what `xs.iter().all(..)` returns, where the closure computes the test p
  pub every_from_all : {g : Mut F (Bor ℕ × Unit {0}) Bool} {s : Iter ℕ} {xs : List ℕ} (p : ℕ → Bool) (u : Iter ℕ) (f : F) (r : Bool)
      → (ys : List (Bor ℕ)) × (o : Option (Bor ℕ)) × (j : F) × YieldsThen fronts s ys o u × FoldsTo (λ h x q. Called g h (x, tt) true q) f ys j
      × MatchOption o (r ≡ true) (λ x. (r ≡ false) × ((h : F) × Called g j (x, tt) false h))
      → iter_rest s ≡ xs → ((x : Bor ℕ) (b : Bool) (q : F) → Called g f (x, tt) b q → (q ≡ f) × (b ≡ p x.now)) → r ≡ every p xs
  every_from_all {xs = xs} p u f r ran e t = all_from_yields_List p u f r ran (YieldsList-from_slice xs e) t ∙ list_all-every p xs

  -- what `xs.iter().fold(true, ..)` returns, where the closure computes whether its first is true and the test p passes
  pub every_from_fold : {g : Mut F (Bool × (Bor ℕ × Unit {0})) Bool} {s : Iter ℕ} {xs : List ℕ} (p : ℕ → Bool) (f : F) (r : Bool)
      → (ys : List (Bor ℕ)) × (j : F) × Drains fronts s ys
      × FoldsTo {P = F × Bool} (λ h x q. Called g h.0 (h.1, (x, tt)) q.1 q.0) (f, true) ys (j, r)
      → iter_rest s ≡ xs → ((a : Bool) (x : Bor ℕ) (b : Bool) (q : F) → Called g f (a, (x, tt)) b q → (q ≡ f) × (b ≡ a && p x.now)) → r ≡ every p xs
  every_from_fold {g = g} {s = s} {xs = xs} p f r ran e t =
      fold_over fronts (λ y. y.now) _ (λ ks b. b ≡ list_all p ks) f step s (iter_rest s) true r (slice_gives s) refl ran
      ∙ ap (list_all p) e ∙ list_all-every p xs
    where
      step : (ks : List ℕ) (a : Bool) (x : Bor ℕ) (b : Bool) (q : F) → a ≡ list_all p ks → Called g f (a, (x, tt)) b q
          → (b ≡ list_all p (ks ++ (x.now ∷ []))) × (q ≡ f)
      step ks a x b q k c = (
        (t a x b q c).1 ∙ ap (λ (z : Bool). z && p x.now) k
            ∙ sym (list_all-append p ks (x.now ∷ []) ∙ ap (λ (z : Bool). list_all p ks && z) (and-true (p x.now))),
        (t a x b q c).0,
      )
