-- What only contracts of inner functions, and proofs, speak of: no promise of a public call and no clause of the claim needs it.
use Rattle.std.specs.Prelude.{Bool, ◌&&◌, ℕ, ◌+◌, leb, get_or}
use Rattle.boot.specs.Layout.{in_heap}
use Rattle.search.specs.Search.{all_from}
use Rattle.choice.specs.Choice.{around}

-- the first usable cluster from start on, then from 2; 0 where there is none
unfoldable pub first_usable : (u : ℕ → Bool) (C start : ℕ) → ℕ
first_usable u C start = get_or (around u C start) 0 0

-- the n clusters from near lie in the heap and are all usable
unfoldable pub run_fits : (u : ℕ → Bool) (C near n : ℕ) → Bool
run_fits u C near n = in_heap C near && (leb (near + n) (C + 2) && all_from u near n)
