-- The bits of a byte and of a bitmap, as arithmetic. Bit 0 is the lowest.
use Rattle.std.specs.Prelude.{ℕ, zero, suc, ◌+◌, ◌-◌, ◌*◌, ◌/◌, ◌%◌, ◌^◌, Bool, cond, List, slice_index}

-- bit j of b, 0 or 1
unfoldable pub bit_of : (b j : ℕ) → ℕ
bit_of b j = b / 2 ^ j % 2

-- b with bit j set
unfoldable pub set_bit : (b j : ℕ) → ℕ
set_bit b j = b + (1 - bit_of b j) * 2 ^ j

-- b with bit j clear
unfoldable pub clear_bit : (b j : ℕ) → ℕ
clear_bit b j = b - bit_of b j * 2 ^ j

-- b with bit j set or clear
unfoldable pub put_bit : (b j : ℕ) (on : Bool) → ℕ
put_bit b j on = cond on (set_bit b j) (clear_bit b j)

-- bit i of a bitmap: bit i % 8 of byte i / 8
unfoldable pub bit_at : List ℕ → ℕ → ℕ
bit_at l i = bit_of (slice_index l (i / 8)) (i % 8)

-- how many of the first n bits of a bitmap are set, counted bit by bit
unfoldable pub count_bits : List ℕ → ℕ → ℕ
count_bits l zero = 0
count_bits l (suc i) = count_bits l i + bit_at l i
