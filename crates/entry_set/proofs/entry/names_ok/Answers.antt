use mathlib.Core.Path.{◌≡◌, refl, ◌∙◌}
use mathlib.Core.Bool.{Bool, ◌&&◌}
use mathlib.Core.List.{List}
use Prim.Native.Nat.{ℕ, zero, suc, ◌+◌, ◌*◌, ◌%◌}
use native.Mathlib.Omega.{arith}
use lib.Dec.{eqb}
use lib.ListN.{get_or}
use Rattle.std.proofs.Common.{rules, tests}
use Rattle.std.specs.List.{list_all, range_with_len}
use Rattle.std.proofs.lemmas.Grind.{common_steps}
use Rattle.std.proofs.lemmas.Iterator.{YieldsList-from_range}
use Rattle.std.proofs.lemmas.Iterator.Search.{all_from_yields_List}
use Rattle.entry_set.specs.Fields.{entry_type}
use Rattle.entry_set.specs.Sound.{names_ok}
use Rattle.entry_set.proofs.entry.names_ok.Goals as goal

-- one number more at the end of a range
all_more : (p : ℕ → Bool) (a n k : ℕ) → k ≡ a + n → list_all p (range_with_len a (suc n)) ≡ list_all p (range_with_len a n) && p k
all_more p a zero k e = grind (arith, common_steps)
all_more p a (suc n) k e = let h = all_more p (a + 1) n k (omega arith) in grind (arith, common_steps)

module _ (s : List ℕ) where
  name_entry_ok : ℕ → Bool
  name_entry_ok i = eqb (entry_type s (2 + i)) 0xC1 && eqb (get_or s (32 * (2 + i) + 1) 0 % 4) 0

  names_all : (n : ℕ) → list_all name_entry_ok (range_with_len 0 n) ≡ names_ok s n
  unfolding names_ok name_entry_ok
  names_all zero = refl
  names_all (suc n) = all_more name_entry_ok 0 n n (omega arith) ∙ rw (names_all n) refl

pub returns : goal.returns
unfolding name_entry_ok entry_type
returns c =
    let s = c.args.set.now in
    let n = c.args.n in
    all_from_yields_List (name_entry_ok s) _ _ _ c.all.ensures.ran (YieldsList-from_range 0 n n (cc) (omega arith)) (λ x b q k. search (rules, tests))
    ∙ names_all s n
