-- Eight marks of one byte are one stored byte, in every bitmap. Assumes nothing.
use mathlib.Core.Path.{◌≡◌, refl, sym, ◌∙◌, ap}
use mathlib.Core.Bool.{true}
use mathlib.Core.List.{List}
use Prim.Native.Nat.{ℕ, zero, suc, ◌+◌, ◌-◌, ◌*◌, ◌/◌, ◌%◌, ◌≤◌, ◌<◌}
use native.Mathlib.Omega.{arith}
use lib.Dec.{eqb, eqb→eq}
use lib.ListN.{set}
use lib.Seq.{set-set, set_comm}
use Rattle.primitives.specs.Bits.{bit_of, set_bit, put_bit}
use Rattle.primitives.proofs.Every.{at}
use Rattle.boot.specs.declared.layout.Layout.{Layout}
use Rattle.boot.specs.Geometry.{bitmap_bytes}
use Rattle.boot.proofs.Apart.{bitmap_bitmap}
use Rattle.metadata.specs.Marks.{mark_byte, put_byte, set_mark, mark_run}
use Rattle.metadata.proofs.Stores.{byte_two, byte_one}
use Rattle.metadata.proofs.Frame.{Fits, by_two, byte_active}

-- the bits r to r + m - 1 of b set
unfoldable set_bits : (b r m : ℕ) → ℕ
set_bits b r zero = b
set_bits b r (suc m) = set_bits (set_bit b r) (r + 1) m

bits_eight : (b : ℕ) → b < 256 → set_bits b 0 8 ≡ 255
unfolding set_bits set_bit bit_of
bits_eight b h = eqb→eq _ _ (at 256 (λ b. eqb (set_bits b 0 8) 255) tt b h)

module _ (y : Layout) (d : List ℕ) (w : Fits y d) (i : ℕ) (h : i < bitmap_bytes y.count) where
  -- the second store of a byte is the one that stays
  byte_again : (b c : ℕ) → put_byte y (put_byte y d i b) i c ≡ put_byte y d i c
  byte_again b c =
      by_two y
      (λ t. let n = bitmap_bitmap y w.laid w.apart i i t h h in
      rw (byte_two y (put_byte y d i b) i c t, byte_two y d i b t, byte_two y d i c t)
      (ap (λ (l : List ℕ). set l (y.bitmap1 + i) c)
      (set_comm (set d (y.bitmap0 + i) b) (y.bitmap1 + i) (y.bitmap0 + i) b c (λ e. n (sym e))
      ∙ ap (λ (l : List ℕ). set l (y.bitmap1 + i) b) (set-set d (y.bitmap0 + i) b c))
      ∙ set-set (set d (y.bitmap0 + i) c) (y.bitmap1 + i) b c))
      (λ t. rw (byte_one y (put_byte y d i b) i c t, byte_one y d i b t, byte_one y d i c t) (set-set d (y.bitmap0 + i) b c))

  -- a mark in a byte that was stored
  mark_again : (k r b : ℕ) → k ≡ 2 + 8 * i + r → r < 8 → set_mark y (put_byte y d i b) k true ≡ put_byte y d i (set_bit b r)
  unfolding set_mark mark_byte put_bit
  mark_again k r b e t =
      let q : (k - 2) / 8 ≡ i = omega arith in
      let p : (k - 2) % 8 ≡ r = omega arith in
      rw (q, p, byte_active y d w i b h) (byte_again b (set_bit b r))

  row_bits : (m k r b : ℕ) → k ≡ 2 + 8 * i + r → r + m ≤ 8 → mark_run y (put_byte y d i b) k m ≡ put_byte y d i (set_bits b r m)
  unfolding mark_run set_bits
  row_bits zero k r b e t = refl
  row_bits (suc m) k r b e t =
      ap (λ (l : List ℕ). mark_run y l (k + 1) m) (mark_again k r b e (omega arith)) ∙ row_bits m (k + 1) (r + 1) (set_bit b r) (omega arith) (omega arith)

  first_mark : (k : ℕ) → k ≡ 2 + 8 * i → set_mark y d k true ≡ put_byte y d i (set_bit (mark_byte y d k) 0)
  unfolding set_mark put_bit
  first_mark k e =
      let q : (k - 2) / 8 ≡ i = omega arith in
      let p : (k - 2) % 8 ≡ 0 = omega arith in
      rw (q, p) refl

  row_eight : (k : ℕ) → k ≡ 2 + 8 * i → mark_byte y d k < 256 → mark_run y d k 8 ≡ put_byte y d i 255
  unfolding mark_run set_bits
  row_eight k e t =
      ap (λ (l : List ℕ). mark_run y l (k + 1) 7) (first_mark k e)
      ∙ row_bits 7 (k + 1) 1 (set_bit (mark_byte y d k) 0) (omega arith) (omega arith) ∙ ap (put_byte y d i) (bits_eight (mark_byte y d k) t)

-- the eight clusters from k, the first one of its byte
pub row_byte : (y : Layout) (d : List ℕ) (k : ℕ) → Fits y d → 2 ≤ k → k + 8 ≤ y.count + 2 → (k - 2) % 8 ≡ 0 → mark_byte y d k < 256
    → put_byte y d ((k - 2) / 8) 255 ≡ mark_run y d k 8
row_byte y d k w l h e t = sym (row_eight y d w ((k - 2) / 8) (omega arith) k (omega arith) t)

-- m of them first
pub row_append : (y : Layout) (d : List ℕ) (k m n : ℕ) → mark_run y d k (m + n) ≡ mark_run y (mark_run y d k m) (k + m) n
unfolding mark_run
row_append y d k zero n =
    let q : zero + n ≡ n = omega arith in
    let p : k + zero ≡ k = omega arith in
    rw (q, p) refl
row_append y d k (suc m) n =
    let q : suc m + n ≡ suc (m + n) = omega arith in
    let p : k + 1 + m ≡ k + suc m = omega arith in
    rw q (row_append y (set_mark y d k true) (k + 1) m n ∙ ap (λ (x : ℕ). mark_run y (mark_run y (set_mark y d k true) (k + 1) m) x n) p)
