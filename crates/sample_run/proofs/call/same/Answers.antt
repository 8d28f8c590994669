use Rattle.std.proofs.Common.{◌≡◌, ◌<◌, ℕ, Bool, true, false, List, take, get_or, bytes_eq, arith}
use mathlib.Core.Path.{refl, sym, ap, subst, ◌∙◌}
use Rattle.std.proofs.lemmas.List.{get_or-take}
use Rattle.std.proofs.lemmas.Slice.Eq.{bytes_eq-Decides}
use Rattle.sample_run.proofs.call.same.Goals as goal

-- a row of equal bytes, or a place at which they differ
all_or_one : (xs ys : List ℕ) (n : ℕ) (all : Bool) → (all ≡ true → take n xs ≡ take n ys) → (all ≡ false → (j : ℕ) × (j < n) × ¬ (get_or xs j 0 ≡ get_or ys j 0))
    → all ≡ bytes_eq (take n xs) (take n ys)
all_or_one xs ys n true h k = sym ((bytes_eq-Decides (take n xs) (take n ys)).1 (h refl))
all_or_one xs ys n false h k = by (bytes_eq (take n xs) (take n ys)) refl
  where
    w : (j : ℕ) × (j < n) × ¬ (get_or xs j 0 ≡ get_or ys j 0)
    w = k refl

    by : (b : Bool) → bytes_eq (take n xs) (take n ys) ≡ b → false ≡ b
    by false e = refl
    by true e = absurd (w.2 (sym (get_or-take n xs w.0 0 w.1) ∙ ap (λ (l : List ℕ). get_or l w.0 0) ((bytes_eq-Decides (take n xs) (take n ys)).0 e) ∙ get_or-take n ys w.0 0 w.1))

pub returns : goal.returns
returns c =
    let i = c.loop-i.invariant in
    let e : c.loop-i.i ≡ c.args.n = omega arith in
    all_or_one _ _ _ _ (λ t. subst (λ (k : ℕ). take k c.args.a.now ≡ take k c.args.b.now) e (i.0 t)) (λ f. let w = i.1 f in (w.0, omega (arith, w.1, e), w.2))
