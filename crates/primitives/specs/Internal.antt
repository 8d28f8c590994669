-- What only contracts of inner functions, and proofs, speak of: no promise of a public call and no clause of the claim needs it.
use Rattle.std.specs.Prelude.{ℕ, Bool, List, ◌==◌, slice_index}
use Rattle.primitives.specs.Bits.{bit_at}

-- byte i of a list is b
unfoldable pub byte_is : (l : List ℕ) (b i : ℕ) → Bool
byte_is l b i = slice_index l i == b

-- bit j of a bitmap is v
unfoldable pub bit_is : (l : List ℕ) (v j : ℕ) → Bool
bit_is l v j = bit_at l j == v
