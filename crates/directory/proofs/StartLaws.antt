-- Where a call on the bytes from an offset on begins in a stream. Assumes nothing.
use mathlib.Core.Path.{◌≡◌, refl, sym, ap}
use mathlib.Core.List.{List}
use Prim.Native.Nat.{ℕ, ◌-◌, ◌*◌, ◌/◌, ◌≤◌, ◌<◌, min}
use native.Mathlib.Nat.{mul-le-mul_right, div-mul-le_self, div-lt_iff_lt-mul}
use native.Mathlib.Omega.{arith}
use Rattle.boot.specs.declared.layout.Layout.{Layout}
use Rattle.stream.specs.declared.allocation.Allocation.{Allocation}
use Rattle.stream.specs.Internal.{Known}
use Rattle.entry_set.specs.Fields.{valid_length}
use Rattle.directory.specs.Internal.{start_steps, start_place}

module _ (size valid offset n : ℕ) where
  -- not past the last cluster
  pub start_low : start_steps size valid offset n ≤ n - 1
  unfolding start_steps
  start_low = omega arith

  -- the cluster of the byte that it begins at, where the stream has that
  pub start_here : (at : ℕ) → at ≡ min valid offset → at / size < n → at / size ≡ start_steps size valid offset n
  unfolding start_steps
  start_here at e h = omega (arith, h, ap (λ (x : ℕ). x / size) e)

  at_most : start_steps size valid offset n ≤ min valid offset / size
  unfolding start_steps
  at_most = omega arith

  -- not past the byte that it begins at
  pub start_before : start_steps size valid offset n * size ≤ min valid offset
  start_before =
      omega (arith, mul-le-mul_right {m = start_steps size valid offset n} {n = min valid offset / size} size at_most, div-mul-le_self (min valid offset) size)

  -- the cluster of an offset that is read
  pub start_read : offset < valid → valid ≤ n * size → 1 ≤ size → start_steps size valid offset n ≡ offset / size
  start_read r h l = sym (start_here offset (omega arith) ((div-lt_iff_lt-mul {k = size} {x = offset} {y = n} l).1 (omega arith)))

-- the place there is one of the stream
pub start_known : (y : Layout) (d : List ℕ) (b : Allocation) (s : List ℕ) (offset : ℕ) → Known y d b (start_place y d b s offset) (min (valid_length s) offset)
start_known y d b s offset = record {
  reaches = refl;
  inside = start_low y.size (valid_length s) offset b.count;
  before = start_before y.size (valid_length s) offset b.count;
}
