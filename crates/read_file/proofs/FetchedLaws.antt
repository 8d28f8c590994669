-- Parts fetched one after another: where each is a piece of one list from its offset on, and none is empty before the list's end, they give
-- the list. Assumes nothing.
use mathlib.Core.Path.{◌≡◌, sym, ◌∙◌, ap}
use mathlib.Core.Logic.{◌⊎◌, ⊎_elim}
use mathlib.Core.List.{List, ◌++◌}
use Prim.Native.Nat.{ℕ, zero, suc, ◌+◌, ◌≤◌, ◌<◌}
use native.Mathlib.Omega.{arith}
use lib.ListN.{length, take, drop, take-append-drop, drop_of_length-le}
use lib.Seq.{drop-drop}
use Rattle.read_file.specs.ReadBack.{fetched}

-- a part is a piece of the list from an offset on, and not empty before the list's end
pub record Piece (tape part : List ℕ) (offset : ℕ) : Type 0 where
  pub is : part ≡ take (length part) (drop offset tape)
  pub some : (length tape ≤ offset) ⊎ (0 < length part)

module _ (tape : List ℕ) (part : ℕ → List ℕ) (piece : (offset : ℕ) → Piece tape (part offset) offset) where
  -- as many parts as there are bytes left, or more
  pub fetched_is : (n offset : ℕ) → length tape ≤ offset + n → fetched part n offset ≡ drop offset tape
  unfolding fetched
  fetched_is zero offset h = sym (drop_of_length-le tape {i = offset} (omega arith))
  fetched_is (suc n) offset h =
      let k = length (part offset) in
      let more : length tape ≤ offset + k + n = ⊎_elim (λ x. omega arith) (λ x. omega arith) (piece offset).some in
      ap (λ (r : List ℕ). part offset ++ r) (fetched_is n (offset + k) more ∙ sym (drop-drop k offset tape))
      ∙ ap (λ (p : List ℕ). p ++ drop k (drop offset tape)) (piece offset).is ∙ take-append-drop k (drop offset tape)
