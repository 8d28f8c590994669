-- Lists of numbers: membership, no number twice, tests, the last one, and consecutive numbers.
use Rattle.std.specs.Prelude.{◌≡◌, Bool, true, ◌&&◌, List, [], ◌∷◌, ℕ, zero, suc, ◌+◌, eqb}

-- k stands in the list
pub data Mem (k : ℕ) : List ℕ → Type 0 where
  here : {x : ℕ} {xs : List ℕ} → k ≡ x → Mem k (x ∷ xs)
  there : {x : ℕ} {xs : List ℕ} → Mem k xs → Mem k (x ∷ xs)

-- no number stands twice in the list
pub data Distinct : List ℕ → Type 0 where
  none : Distinct []
  more : {x : ℕ} {xs : List ℕ} → (Mem x xs → ⊥) → Distinct xs → Distinct (x ∷ xs)

-- every number of the list passes the test
unfoldable pub every : (ℕ → Bool) → List ℕ → Bool
every p [] = true
every p (k ∷ ks) = p k && every p ks

-- the last number of the list; z where it is empty
unfoldable pub last_or : ℕ → List ℕ → ℕ
last_or z [] = z
last_or z (k ∷ ks) = last_or k ks

-- the n numbers from k on
unfoldable pub consec : ℕ → ℕ → List ℕ
consec k zero = []
consec k (suc n) = k ∷ consec (k + 1) n

-- each number of a list is the one before it and 1
unfoldable pub rising_from : ℕ → List ℕ → Bool
rising_from k [] = true
rising_from k (j ∷ js) = eqb j (k + 1) && rising_from j js

-- numbers that rise by one
unfoldable pub rising : List ℕ → Bool
rising [] = true
rising (k ∷ ks) = rising_from k ks
