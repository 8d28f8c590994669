-- The FATs and the bitmaps one by one, where there are two of each.
use Rattle.std.specs.Prelude.{◌≡◌, ◌⊎◌, List, ℕ, ◌+◌, ◌*◌, get_or}
use Rattle.primitives.specs.Words.{get_le}
use Rattle.boot.specs.declared.layout.Layout.{Layout}

-- entry k of the first FAT and of the second, byte i of the first bitmap and of the second
unfoldable pub fat0_at : Layout → List ℕ → ℕ → ℕ
fat0_at y d k = get_le 4 d (y.fat0 + 4 * k)

unfoldable pub fat1_at : Layout → List ℕ → ℕ → ℕ
fat1_at y d k = get_le 4 d (y.fat1 + 4 * k)

unfoldable pub bitmap0_at : Layout → List ℕ → ℕ → ℕ
bitmap0_at y d i = get_or d (y.bitmap0 + i) 0

unfoldable pub bitmap1_at : Layout → List ℕ → ℕ → ℕ
bitmap1_at y d i = get_or d (y.bitmap1 + i) 0

-- a and b are a' and b' now: both as they were, or alike
unfoldable pub Twins : (a b a' b' : ℕ) → Type 0
Twins a b a' b' = ((a' ≡ a) × (b' ≡ b)) ⊎ (a' ≡ b')
