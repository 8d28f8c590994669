-- Words of n bytes in a list of bytes, low byte first (01: "4 bytes, low byte first").
use Rattle.std.specs.Prelude.{ℕ, zero, suc, ◌+◌, ◌*◌, ◌/◌, ◌%◌, ◌^◌, List, slice_index, slice_set}

-- the number that the n bytes from `at` make
unfoldable pub get_le : ℕ → List ℕ → ℕ → ℕ
get_le zero l at = 0
get_le (suc n) l at = get_le n l at + slice_index l (at + n) * 256 ^ n

-- the list with the n low bytes of v put from `at`
unfoldable pub put_le : ℕ → List ℕ → ℕ → ℕ → List ℕ
put_le zero l at v = l
put_le (suc n) l at v = slice_set (put_le n l at v) (at + n) (v / 256 ^ n % 256)
