-- The checksum of an entry set (exFAT specification, 6.3.3 SetChecksum).
use Rattle.std.specs.Prelude.{ℕ, zero, suc, ◌+◌, ◌*◌, ◌/◌, ◌%◌, ◌^◌, cond, List, ◌==◌, slice_index}

-- x rotated right by one in 16 bits
abbrev pub rotate_right : ℕ → ℕ
rotate_right x = x / 2 + x % 2 * 2 ^ 15

-- the sum after byte b
unfoldable pub add_byte : (sum b : ℕ) → ℕ
add_byte sum b = (rotate_right sum + b) % 2 ^ 16

-- the sum after byte k, which is b: bytes 2 and 3, where the checksum itself stands, leave it as it is
abbrev pub checksum_step : (sum k b : ℕ) → ℕ
checksum_step sum k b = cond (k == 2) sum (cond (k == 3) sum (add_byte sum b))

-- the checksum of the first n bytes: it starts at 0, and each byte is added in turn
unfoldable pub checksum : List ℕ → ℕ → ℕ
checksum l zero = 0
checksum l (suc k) = checksum_step (checksum l k) k (slice_index l k)
