-- Where a new set goes: its slot, and the clusters that the directory grows by for it (01, "New file"; Rust: `free_run`).
use Rattle.std.specs.Prelude.{◌≡◌, Bool, true, false, not, List, ◌++◌, ℕ, ◌+◌, ◌*◌, ◌≤◌, ◌<◌, replicate, Option, Some, None}
use Rattle.search.specs.Search.{run_from, fewest}
use Rattle.directory.specs.Entries.{entry_count, in_use}

-- slot i begins n entries in a row with type bit 0x80 clear
pub record Row (bs : List ℕ) (n i : ℕ) : Type 0 where
  pub inside : i + n ≤ entry_count bs
  pub unused : (j : ℕ) → i ≤ j → j < i + n → in_use bs j ≡ false

-- the lowest sequence of n entries with type bit 0x80 clear
unfoldable pub free_run : List ℕ → ℕ → Option ℕ
free_run bs n = run_from (λ i. not (in_use bs i)) (entry_count bs) n 0

-- whether there is one, and its first slot
unfoldable pub is_at : Option ℕ → Bool
is_at (Some i) = true
is_at None = false

unfoldable pub slot_of : Option ℕ → ℕ
slot_of (Some i) = i
slot_of None = 0

-- the bytes of a directory that grew by g zeroed clusters
unfoldable pub with_zeros : List ℕ → ℕ → List ℕ
with_zeros bs n = bs ++ replicate n 0

-- the fewest zeroed clusters that give the directory n such entries in a row: n clusters always do
unfoldable pub growth : (size : ℕ) (bs : List ℕ) (n : ℕ) → ℕ
growth size bs n = fewest (λ g. is_at (free_run (with_zeros bs (g * size)) n)) n 0
