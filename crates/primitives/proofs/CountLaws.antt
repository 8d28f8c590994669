-- The set bits of a bitmap, counted by the byte. Assumes nothing.
use Rattle.std.proofs.Common.{Bor, ◌≡◌, ℕ, zero, suc, ◌+◌, ◌-◌, ◌*◌, ◌/◌, ◌%◌, ◌^◌, ◌<◌, ◌≤◌, eqb, List, length, get_or, take, sym, refl, ap, ◌∙◌, ap₂, add-zero, add_assoc, add-suc, arith, eqb→eq, get_or-take}
use Rattle.std.specs.Bool.{⊤}
use Rattle.std.specs.Fn.{Called}
use Rattle.std.specs.Iterator.{Drains}
use Rattle.std.specs.Iterator.Adapters.{map_source, map_callee}
use Rattle.std.specs.List.{fold, sum_by}
use Rattle.std.specs.Slice.Iter.{iter_rest}
use Rattle.std.specs.declared.iter.Map.{Map}
use Rattle.std.specs.declared.slice.Iter.{Iter}
use Rattle.std.proofs.lemmas.Fn.{fronts}
use Rattle.std.proofs.lemmas.Iterator.{YieldsList-from_slice, YieldsList-from_map, maps}
use Rattle.std.proofs.lemmas.Iterator.Consumers.{sum_by_from_yields_List}
use denote.Param.Members.{Mut}
use Rattle.std.proofs.lemmas.List.Sums.{sum_by_more}
use lib.Bits.{bit_and}
use lib.Count.{ones, ones_in}
use Rattle.primitives.specs.Bits.{bit_of, bit_at, count_bits}
use Rattle.primitives.proofs.Every.{at, at₂}

-- how many of the lowest r bits of a byte are set
unfoldable pub ones_below : ℕ → ℕ → ℕ
ones_below b zero = 0
ones_below b (suc r) = ones_below b r + bit_of b r

-- the operation counts the bits of a byte
pub whole_byte_lem : (b : ℕ) → b < 256 → ones b ≡ ones_below b 8
unfolding ones ones_in ones_below bit_of
whole_byte_lem b hb = eqb→eq _ _ (at 256 (λ b. eqb (ones b) (ones_below b 8)) tt b hb)

-- and of a byte that is cut to its lowest r bits
pub cut_byte : (b r : ℕ) → b < 256 → r < 8 → ones (bit_and b ((1 * 2 ^ r) % 256 - 1)) ≡ ones_below b r
unfolding ones ones_in ones_below bit_of
cut_byte b r hb hr = eqb→eq _ _ (at₂ 256 8 (λ b r. eqb (ones (bit_and b ((1 * 2 ^ r) % 256 - 1))) (ones_below b r)) tt b r hb hr)

pub count_le : (l : List ℕ) (n : ℕ) → count_bits l n ≤ n
unfolding count_bits bit_at bit_of
count_le l zero = omega arith
count_le l (suc n) = omega (arith, count_le l n)

bit : (l : List ℕ) (i r : ℕ) → suc r ≤ 8 → bit_at l (i * 8 + r) ≡ bit_of (get_or l i 0) r
unfolding bit_at
bit l i r h =
    let q : (i * 8 + r) / 8 ≡ i = omega arith in
    let m : (i * 8 + r) % 8 ≡ r = omega arith in
    ap₂ (λ (x y : ℕ). bit_of (get_or l x 0) y) q m

-- r bits of byte i after the i bytes before it
pub byte : (l : List ℕ) (i r : ℕ) → r ≤ 8 → count_bits l (i * 8 + r) ≡ count_bits l (i * 8) + ones_below (get_or l i 0) r
unfolding count_bits ones_below
byte l i zero h = rw (add-zero, add-zero)
byte l i (suc r) h =
    rw add-suc
    (ap₂ ◌+◌ (byte l i r (omega arith)) (bit l i r h) ∙ add_assoc (count_bits l (i * 8)) (ones_below (get_or l i 0) r) (bit_of (get_or l i 0) r))

-- ---- whole bytes, and the last one that is cut

pub more_byte : (l : List ℕ) (i : ℕ) → get_or l i 0 < 256 → count_bits l ((i + 1) * 8) ≡ count_bits l (i * 8) + ones (get_or l i 0)
more_byte l i h =
    let e : (i + 1) * 8 ≡ i * 8 + 8 = omega arith in
    ap (count_bits l) e ∙ byte l i 8 (omega arith) ∙ ap (λ (x : ℕ). count_bits l (i * 8) + x) (sym (whole_byte_lem (get_or l i 0) h))

pub whole_bytes : (l : List ℕ) (i : ℕ) → ((k : ℕ) → get_or l k 0 < 256) → i ≤ length l → sum_by ones (take i l) ≡ count_bits l (i * 8)
unfolding count_bits
whole_bytes l zero f h = refl
whole_bytes l (suc i) f h =
    let e : suc i ≡ i + 1 = omega arith in
    ap (λ (n : ℕ). sum_by ones (take n l)) e ∙ sum_by_more ones l i 0 (omega arith)
    ∙ (omega (arith, whole_bytes l i f (omega arith), more_byte l i (f i))) ∙ ap (λ (n : ℕ). count_bits l (n * 8)) (sym e)

-- what a sum over the bytes before byte i returns, where the closure counts the bits of a byte
pub ones_from_sum : {F : Type 0} {g : Mut F (Bor ℕ × Unit {0}) ℕ} {s : Map (Iter ℕ) F} {f : F} (l : List ℕ) (i r : ℕ) → ((k : ℕ) → get_or l k 0 < 256) → i ≤ length l
    → (xs : List ℕ) × (⊤ → Drains (maps fronts g) s xs) × (r ≡ fold (λ a x. a + x) 0 xs)
    → iter_rest (map_source s) ≡ take i l → map_callee s ≡ f → ((x : Bor ℕ) (r : ℕ) (q : F) → Called g f (x, tt) r q → (q ≡ f) × (r ≡ ones x.now))
    → r ≡ count_bits l (i * 8)
ones_from_sum {g = g} {s = s} l i r b h ran e q t =
    sum_by_from_yields_List ones (take i l) s r ran (YieldsList-from_map g ones (YieldsList-from_slice (take i l) e) q t) ∙ whole_bytes l i b h

pub last_byte : (l : List ℕ) (n i : ℕ) → i ≡ n / 8 → get_or l (n / 8) 0 < 256
    → count_bits l n ≡ count_bits l (i * 8) + ones (bit_and (get_or l (n / 8) 0) ((1 * 2 ^ (n % 8)) % 256 - 1))
last_byte l n i e h =
    let d : n ≡ n / 8 * 8 + n % 8 = omega arith in
    let r : n % 8 < 8 = omega arith in
    ap (count_bits l) d ∙ byte l (n / 8) (n % 8) (omega arith)
    ∙ ap₂ (λ (x y : ℕ). count_bits l (x * 8) + y) (sym e) (sym (cut_byte (get_or l (n / 8) 0) (n % 8) h r))

pub no_rest : (l : List ℕ) (n i : ℕ) → i ≡ n / 8 → n % 8 ≡ 0 → count_bits l (i * 8) ≡ count_bits l n
no_rest l n i e z =
    let d : i * 8 ≡ n = omega arith in
    ap (count_bits l) d

-- bitmaps with the same bits have the same count
pub count_same : (l m : List ℕ) (n : ℕ) → ((i : ℕ) → i < n → bit_at m i ≡ bit_at l i) → count_bits m n ≡ count_bits l n
unfolding count_bits
count_same l m zero h = refl
count_same l m (suc n) h = ap₂ ◌+◌ (count_same l m n (λ i b. h i (omega arith))) (h n (omega arith))

-- the bytes after the last bit counted do not matter
pub count-take : (l : List ℕ) (k n : ℕ) → n ≤ 8 * k → count_bits (take k l) n ≡ count_bits l n
count-take l k n h = count_same l (take k l) n (λ i b. in_part i (omega arith))
  where
    in_part : (i : ℕ) → i / 8 < k → bit_at (take k l) i ≡ bit_at l i
    in_part i b = unfold bit_at in ap (λ (x : ℕ). bit_of x (i % 8)) (get_or-take k l (i / 8) 0 b)
