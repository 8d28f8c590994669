-- The laws of words of n bytes, for every width n. Assumes nothing.
use Rattle.std.proofs.Common.{◌≡◌, ℕ, zero, suc, ◌+◌, ◌*◌, ◌/◌, ◌%◌, ◌^◌, ◌<◌, ◌≤◌, List, [], ◌∷◌, ◌++◌, length, get_or, take, drop, set, sym, refl, ap, ◌∙◌, ap₂, add_assoc, zero-lt-suc, arith, length-set, get_or-drop, get_or-set_other, get_or-take, get_or-set_same}
use native.Mathlib.Nat.{pow-succ'}
use lib.Arith.{mod-mul}
use Rattle.std.specs.Int.{byte_at, byte_worth, bytes_low_first, sum_through}
use Rattle.primitives.specs.Splice.{splice}
use Rattle.primitives.specs.Words.{get_le, put_le}
use Rattle.primitives.proofs.SpliceLaws.{splice-nil, splice_turn}

pow_pos' : (n : ℕ) → zero < 256 ^ n
pow_pos' zero = zero-lt-suc 0
pow_pos' (suc n) = rw pow-succ' (omega (arith, pow_pos' n))

pub length_put : (n : ℕ) (l : List ℕ) (at v : ℕ) → length (put_le n l at v) ≡ length l
unfolding put_le
length_put zero l at v = refl
length_put (suc n) l at v = length-set (put_le n l at v) (at + n) (v / 256 ^ n % 256) ∙ length_put n l at v

-- outside the field nothing changes
pub put_off : (n : ℕ) (l : List ℕ) (at v i : ℕ) → ((r : ℕ) → r < n → i ≡ at + r → ⊥) → get_or (put_le n l at v) i 0 ≡ get_or l i 0
unfolding put_le
put_off zero l at v i h = refl
put_off (suc n) l at v i h =
    get_or-set_other (put_le n l at v) (at + n) i (v / 256 ^ n % 256) 0 (h n (omega arith)) ∙ put_off n l at v i (λ r b. h r (omega arith))

pub put_below : (n : ℕ) (l : List ℕ) (at v i : ℕ) → i < at → get_or (put_le n l at v) i 0 ≡ get_or l i 0
put_below n l at v i h = put_off n l at v i (λ r b e. omega arith)

pub put_above : (n : ℕ) (l : List ℕ) (at v i : ℕ) → at + n ≤ i → get_or (put_le n l at v) i 0 ≡ get_or l i 0
put_above n l at v i h = put_off n l at v i (λ r b e. omega arith)

-- a word is what its bytes are, wherever it stands
pub get_same : (n : ℕ) (l m : List ℕ) (at to : ℕ) → ((k : ℕ) → k < n → get_or l (at + k) 0 ≡ get_or m (to + k) 0) → get_le n l at ≡ get_le n m to
unfolding get_le
get_same zero l m at to h = refl
get_same (suc n) l m at to h = ap₂ (λ (x y : ℕ). x + y * 256 ^ n) (get_same n l m at to (λ k b. h k (omega arith))) (h n (omega arith))

-- a word of a part
pub get_part : (n : ℕ) (l : List ℕ) (a k at : ℕ) → at + n ≤ k → get_le n (take k (drop a l)) at ≡ get_le n l (a + at)
get_part n l a k at h =
    get_same n (take k (drop a l)) l at (a + at)
    (λ i b. get_or-take k (drop a l) (at + i) 0 (omega arith) ∙ get_or-drop a l (at + i) 0 ∙ ap (λ (x : ℕ). get_or l x 0) (sym (add_assoc a at i)))

-- a word that ends before another that is put, or starts after it, is kept
pub get_put_below : (n m : ℕ) (l : List ℕ) (a at v : ℕ) → a + n ≤ at → get_le n (put_le m l at v) a ≡ get_le n l a
get_put_below n m l a at v h = get_same n (put_le m l at v) l a a (λ k b. put_below m l at v (a + k) (omega arith))

-- a word that was put is its number
pub get_put : (n : ℕ) (l : List ℕ) (at v : ℕ) → at + n ≤ length l → get_le n (put_le n l at v) at ≡ v % 256 ^ n
unfolding get_le put_le
get_put zero l at v h = omega arith
get_put (suc n) l at v h =
    let p = put_le n l at v in
    let b = v / 256 ^ n % 256 in
    let in-range : at + n < length p = omega (arith, length_put n l at v) in
    ap₂ (λ (x y : ℕ). x + y * 256 ^ n)
    (get_same n (set p (at + n) b) p at at (λ k h. get_or-set_other p (at + n) (at + k) b 0 (λ e. omega arith)) ∙ get_put n l at v (omega arith))
    (get_or-set_same p (at + n) b 0 in-range)
    ∙ rw pow-succ' (omega (arith, mod-mul v {m = 256} {c = 256 ^ n} (zero-lt-suc 255) (pow_pos' n)))

-- ---- as the library reads and writes a word

bytes-get : (n : ℕ) (l : List ℕ) → sum_through (λ i. byte_worth i (get_or l i 0)) n ≡ get_le (suc n) l 0
unfolding get_le
bytes-get zero l = omega arith
bytes-get (suc n) l =
    let e : 0 + suc n ≡ suc n = omega arith in
    rw e (ap (λ (x : ℕ). x + get_or l (suc n) 0 * 256 ^ suc n) (bytes-get n l))

-- the bytes of a part, put together
pub part-get : (n : ℕ) (l : List ℕ) (at : ℕ) → sum_through (λ i. byte_worth i (get_or (take (suc n) (drop at l)) i 0)) n ≡ get_le (suc n) l at
part-get n l at =
    bytes-get n (take (suc n) (drop at l)) ∙ get_part (suc n) l at (suc n) 0 (omega arith) ∙ ap (get_le (suc n) l) (omega arith)

byte-at : (i v : ℕ) → byte_at i v ≡ v / 256 ^ i % 256
byte-at zero v = omega arith
byte-at (suc i) v = refl

pub length-bytes : (i n v : ℕ) → length (bytes_low_first i n v) ≡ n
length-bytes i zero v = refl
length-bytes i (suc n) v = ap suc (length-bytes (suc i) n v)

bytes-snoc : (i n v : ℕ) → bytes_low_first i n v ++ (byte_at (i + n) v ∷ []) ≡ bytes_low_first i (suc n) v
bytes-snoc i zero v = ap (λ (k : ℕ). byte_at k v ∷ []) (omega arith)
bytes-snoc i (suc n) v =
    let e : i + suc n ≡ suc i + n = omega arith in
    ap (λ (r : List ℕ). byte_at i v ∷ r) (ap (λ (k : ℕ). bytes_low_first (suc i) n v ++ (byte_at k v ∷ [])) e ∙ bytes-snoc (suc i) n v)

-- the bytes of a number, put in place
pub splice-put : (n : ℕ) (l : List ℕ) (at v : ℕ) → at + n ≤ length l → splice l at (bytes_low_first 0 n v) ≡ put_le n l at v
unfolding put_le
splice-put zero l at v h = splice-nil l at
splice-put (suc n) l at v h =
    sym (splice_turn l at (bytes_low_first 0 n v) (bytes_low_first 0 (suc n) v) n (byte_at n v) (length-bytes 0 n v) (omega arith)
    (ap (λ (k : ℕ). bytes_low_first 0 n v ++ (byte_at k v ∷ [])) (omega arith) ∙ bytes-snoc 0 n v))
    ∙ ap₂ (λ (r : List ℕ) (x : ℕ). set r (at + n) x) (splice-put n l at v (omega arith)) (byte-at n v)
