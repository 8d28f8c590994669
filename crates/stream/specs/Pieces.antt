-- A piece of consecutive clusters (02: "runs through consecutive clusters"; "a stretch is the longest piece in consecutive clusters").
use Rattle.std.specs.Prelude.{cond, List, [], ◌∷◌, ℕ, suc, ◌+◌, eqb}

-- how many clusters of a list follow k, each the one before it and 1
unfoldable pub following : ℕ → List ℕ → ℕ
following k [] = 0
following k (j ∷ js) = cond (eqb j (k + 1)) (suc (following j js)) 0

-- the clusters of a list's first piece
unfoldable pub leading : List ℕ → ℕ
leading [] = 0
leading (k ∷ ks) = suc (following k ks)
