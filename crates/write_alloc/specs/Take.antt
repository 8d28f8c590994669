-- Clusters taken: marked, and linked where they are to be a chain. Stores stand in the order of the code.
use Rattle.std.specs.Prelude.{true, cond, List, [], ◌∷◌, ℕ, zero, suc, ◌+◌, eqb}
use Rattle.boot.specs.declared.layout.Layout.{Layout}
use Rattle.metadata.specs.Fat.{set_fat}
use Rattle.metadata.specs.Marks.{set_mark}

-- n clusters from k, each linked to the next one
unfoldable pub link_run : Layout → List ℕ → ℕ → ℕ → List ℕ
link_run y d k zero = d
link_run y d k (suc n) = link_run y (set_fat y d k (k + 1)) (k + 1) n

-- cluster k marked, and linked from the one before it (0: none)
unfoldable pub take_single : (y : Layout) (d : List ℕ) (prev k : ℕ) → List ℕ
take_single y d prev k = cond (eqb prev 0) (set_mark y d k true) (set_fat y (set_mark y d k true) prev k)

-- the clusters of a list taken one after the other, each linked from the one before
unfoldable pub take_each : Layout → List ℕ → ℕ → List ℕ → List ℕ
take_each y d prev [] = d
take_each y d prev (k ∷ ks) = take_each y (take_single y d prev k) k ks
