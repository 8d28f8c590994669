-- The parts of a file: each is a piece of what the file shows, and one of the volume is the longest there is. Assumes nothing.
use mathlib.Core.Path.{◌≡◌, refl, sym, ◌∙◌, ap, ap₂}
use mathlib.Core.Logic.{◌≢◌, inl, inr}
use mathlib.Core.Bool.{true, false, false≢true}
use mathlib.Core.List.{List, [], ◌∷◌, ◌++◌}
use Prim.Native.Nat.{ℕ, suc, ◌+◌, ◌-◌, ◌*◌, ◌/◌, ◌%◌, ◌≤◌, ◌<◌, min}
use native.Mathlib.Decide.{dec_le, dec_lt}
use native.Mathlib.Nat.{add-mul, suc-mul, mul-le-mul_right, div-add-mod', mod-lt, div-eq_of_lt-le}
use native.Mathlib.Omega.{arith}
use lib.Dec.{eqb}
use lib.ListN.{length, get_or, take, drop, replicate, length-append, length-drop, length-replicate}
use lib.Seq.{length-take-le, take-append-le, drop-append-le, drop-append-add, take-take, drop-cons, get_or-drop}
use borrow.Author.Tests.{eqb-true, lt-ltb, le-ltb}
use Rattle.tables.specs.Lists.{every}
use Rattle.tables.proofs.ListLaws.{every_head, every_tail}
use Rattle.boot.specs.declared.layout.Layout.{Layout}
use Rattle.boot.specs.Layout.{cluster_at, in_heap}
use Rattle.boot.proofs.Apart.{in_heap_lem, cluster_apart, cluster_end}
use Rattle.metadata.proofs.Frame.{Fits}
use Rattle.stream.specs.Pieces.{leading}
use Rattle.stream.specs.Bytes.{bytes_of}
use Rattle.stream.proofs.BytesSteps.{drop-take, take_zeros, drop_zeros, every_drop, some_left, place_room, bytes_over}
use Rattle.stream.proofs.BytesLaws.{length_of}
use Rattle.stream.proofs.RowLaws.{row_at}
use Rattle.stream.proofs.PieceLaws.{leading_short, leading-some, leading-take, leading_at, leading_ends, leading_piece}
use Rattle.directory.specs.Open.{shown}
use Rattle.read_file.specs.Part.{no_part, stored_part, zero_part, part_in, part_bytes, Inside}
use Rattle.read_file.specs.ReadBack.{byte_place, Longest}
use Rattle.read_file.proofs.FetchedLaws.{Piece}

-- ---- what a file shows

pub length-shown : (bs : List ℕ) (valid len : ℕ) → valid ≤ length bs → valid ≤ len → length (shown bs valid len) ≡ len
unfolding shown
length-shown bs valid len stored v =
    omega (
      arith,
      length-append (take valid bs) (replicate (len - valid) 0),
      length-take-le valid bs stored,
      length-replicate {A = ℕ} (len - valid) 0,
    )

module _ (bs : List ℕ) (valid len : ℕ) (stored : valid ≤ length bs) (offset n : ℕ) where
  -- below valid
  shown-stored : offset + n ≤ valid → take n (drop offset (shown bs valid len)) ≡ take n (drop offset bs)
  unfolding shown
  shown-stored h =
      let front = take valid bs in
      let rest : List ℕ = replicate (len - valid) 0 in
      let k : length front ≡ valid = length-take-le valid bs stored in
      ap (take n) (drop-append-le offset front rest (omega arith))
      ∙ take-append-le n (drop offset front) rest (omega (arith, length-drop offset front))
      ∙ ap (take n) (drop-take offset valid bs (omega arith)) ∙ take-take n (valid - offset) (drop offset bs) (omega arith)

  -- and past it
  shown_zeros : valid ≤ offset → offset + n ≤ len → take n (drop offset (shown bs valid len)) ≡ replicate n 0
  unfolding shown
  shown_zeros v h =
      let front = take valid bs in
      let rest : List ℕ = replicate (len - valid) 0 in
      let k : length front ≡ valid = length-take-le valid bs stored in
      let e : offset ≡ length front + (offset - valid) = omega arith in
      ap (take n)
      (ap (λ (x : ℕ). drop x (front ++ rest)) e ∙ drop-append-add front rest (offset - valid) ∙ drop_zeros (offset - valid) (len - valid) (omega arith))
      ∙ take_zeros n (len - valid - (offset - valid)) (omega arith)

-- ---- zeros

pub zeros_are : (z : List ℕ) → every (λ b. eqb b 0) z ≡ true → z ≡ replicate (length z) 0
zeros_are [] e = refl
zeros_are (b ∷ z) e =
    ap₂ (λ (x : ℕ) (l : List ℕ). x ∷ l) (eqb-true b 0 (every_head (λ b. eqb b 0) b z e)) (zeros_are z (every_tail (λ b. eqb b 0) b z e))

-- ---- which part it is

module _ (y : Layout) (ks : List ℕ) (valid len zeros offset : ℕ) where
  pub part_stored : offset < valid → part_in y ks valid len zeros offset ≡ stored_part y ks valid offset
  unfolding part_in
  part_stored h = rw (lt-ltb offset valid h) refl

  pub part_zeros : valid ≤ offset → offset < len → part_in y ks valid len zeros offset ≡ zero_part len zeros offset
  unfolding part_in
  part_zeros v h = rw (le-ltb offset valid v, lt-ltb offset len h) refl

  pub part_none : valid ≤ offset → len ≤ offset → part_in y ks valid len zeros offset ≡ no_part
  unfolding part_in
  part_none v h = rw (le-ltb offset valid v, le-ltb offset len h) refl

-- of which slice
stored-volume : (y : Layout) (ks : List ℕ) (valid offset : ℕ) → (stored_part y ks valid offset).zeros ≡ false
unfolding stored_part
stored-volume y ks valid offset = refl

zeros_zeros : (len zeros offset : ℕ) → (zero_part len zeros offset).zeros ≡ true
unfolding zero_part
zeros_zeros len zeros offset = refl

-- ---- places

-- the quotient and the rest are what they look like
quotient : (a s r n : ℕ) → r < s → n ≡ a * s + r → (n / s ≡ a) × (n % s ≡ r)
quotient a s r n h e =
    let q : n / s ≡ a = div-eq_of_lt-le {k = a} s (omega arith) (omega (arith, add-mul a 1 s)) in
    (q, omega (arith, div-add-mod' n s, ap (λ (x : ℕ). x * s) q))

-- a product that is less has the lesser factor
factor_less : (a b s : ℕ) → a * s < b * s → a < b
factor_less a b s h =
    elim (dec_lt a b) [
      | yes l ↦ l
      | no l ↦ absurd (omega (arith, mul-le-mul_right {m = b} {n = a} s (omega arith)))
    ]

heap_at : (C : ℕ) (ks : List ℕ) (i : ℕ) → every (in_heap C) ks ≡ true → i < length ks → in_heap C (get_or ks i 0) ≡ true
heap_at C ks i e h =
    every_head (in_heap C) (get_or ks i 0) (drop (suc i) ks) (ap (every (in_heap C)) (sym (drop-cons ks i 0 h)) ∙ every_drop (in_heap C) i ks e)

-- the first n clusters are enough for a part that they hold
pub stored_len : (js : List ℕ) (n size at rest : ℕ) → rest ≤ n * size - at
    → min rest (leading (take n js) * size - at) ≡ min rest (leading js * size - at)
stored_len js n size at rest h =
    elim (dec_le n (leading js)) [
      | yes l ↦
          let e : leading (take n js) ≡ n = omega (arith, leading-take n js) in
          omega (arith, ap (λ (x : ℕ). x * size) e, mul-le-mul_right {m = n} {n = leading js} size l)
      | no l ↦
          let e : leading (take n js) ≡ leading js = omega (arith, leading-take n js) in
          omega (arith, ap (λ (x : ℕ). x * size) e)
    ]

-- ---- a part of the volume

module _ (y : Layout) (d : List ℕ) (w : Fits y d) (ks : List ℕ) (heap : every (in_heap y.count) ks ≡ true) (valid : ℕ)
    (room : valid ≤ length ks * y.size) (offset : ℕ) (below : offset < valid) where
  abbrev size : ℕ
  size = y.size

  abbrev m : ℕ
  m = offset / y.size

  abbrev at : ℕ
  at = offset % y.size

  abbrev js : List ℕ
  js = drop (offset / y.size) ks

  -- its clusters, its first one, and its bytes
  abbrev l : ℕ
  l = leading js

  abbrev k : ℕ
  k = get_or js 0 0

  abbrev n : ℕ
  n = min (valid - offset) (leading js * y.size - at)

  size_low : 1 ≤ size
  size_low = omega (arith, w.laid.size_low)

  place : m * size + at ≡ offset
  place = div-add-mod' offset size

  low : at < size
  low = mod-lt offset size_low

  inside : m < length ks
  inside =
      omega (
        arith,
        some_left (length ks - m) size at (valid - offset) (place_room offset (valid - offset) (length ks) size size_low (omega arith)) (omega arith),
      )

  long : length js ≡ length ks - m
  long = length-drop m ks

  js_heap : every (in_heap y.count) js ≡ true
  js_heap = every_drop (in_heap y.count) m ks heap

  some : 1 ≤ l
  some = leading-some js (omega (arith, long, inside))

  row : size ≤ l * size
  row = omega (arith, mul-le-mul_right {m = 1} {n = l} size some)

  pub stored_some : 0 < (stored_part y ks valid offset).len
  unfolding stored_part
  stored_some = omega (arith, row, low)

  pub stored_below : offset + (stored_part y ks valid offset).len ≤ valid
  unfolding stored_part
  stored_below = omega arith

  pub stored_bytes : (z : List ℕ)
      → part_bytes d z (stored_part y ks valid offset) ≡ take (stored_part y ks valid offset).len (drop offset (bytes_of y d ks))
  unfolding part_bytes stored_part
  stored_bytes z =
      leading_piece y d w js js_heap at n (omega (arith, row, low))
      ∙ ap (take n) (sym (bytes_over y d w.laid w.long m ks at (omega (arith, inside)) heap) ∙ ap (λ (x : ℕ). drop x (bytes_of y d ks)) place)

  pub stored-length : (z : List ℕ) → length (part_bytes d z (stored_part y ks valid offset)) ≡ (stored_part y ks valid offset).len
  stored-length z =
      ap length (stored_bytes z)
      ∙ length-take-le (stored_part y ks valid offset).len (drop offset (bytes_of y d ks))
      (omega (arith, stored_below, length-drop offset (bytes_of y d ks), length_of y d w ks heap))

  -- its first cluster is in the heap
  first_low : 2 ≤ k
  first_low = (in_heap_lem y.count k (heap_at y.count js 0 js_heap (omega (arith, long, inside)))).0

  -- the clusters of the piece are those of the file
  cluster_is : (q : ℕ) → q < l → cluster_at y (get_or ks (m + q) 0) ≡ cluster_at y k + q * size
  cluster_is q h = ap (cluster_at y) (sym (get_or-drop m ks q 0) ∙ leading_at js q h) ∙ row_at y q k first_low

  -- a byte of it lies where the file's does
  stored_runs : (i : ℕ) → i < (stored_part y ks valid offset).len → (stored_part y ks valid offset).start + i ≡ byte_place y ks (offset + i)
  unfolding stored_part byte_place
  stored_runs i h =
      let q = (at + i) / size in
      let r = (at + i) % size in
      let e : q * size + r ≡ at + i = div-add-mod' (at + i) size in
      let p = quotient (m + q) size r (offset + i) (mod-lt (at + i) size_low) (omega (arith, e, place, add-mul m q size)) in
      let b : q < l = factor_less q l size (omega (arith, e)) in
      sym
      (ap₂ (λ (u v : ℕ). cluster_at y (get_or ks u 0) + v) p.0 p.1 ∙ ap (λ (x : ℕ). x + r) (cluster_is q b) ∙ (omega (arith, e)))

  -- behind it the file goes on elsewhere
  stored_ends : offset + (stored_part y ks valid offset).len < valid
      → (stored_part y ks valid offset).start + (stored_part y ks valid offset).len ≢ byte_place y ks (offset + (stored_part y ks valid offset).len)
  unfolding stored_part byte_place
  stored_ends h c =
      let e : at + n ≡ l * size = omega (arith, row, low) in
      let p = quotient (m + l) size 0 (offset + n) (omega (arith, size_low)) (omega (arith, e, place, add-mul m l size)) in
      let b : m + l < length ks = factor_less (m + l) (length ks) size (omega (arith, e, place, add-mul m l size)) in
      let j = get_or ks (m + l) 0 in
      let two = (in_heap_lem y.count j (heap_at y.count ks (m + l) heap b)).0 in
      let other : j ≢ k + l = λ x. leading_ends js (omega (arith, long, b)) (get_or-drop m ks l 0 ∙ x) in
      let same : cluster_at y (k + l) ≡ cluster_at y j =
      omega (arith, row_at y l k first_low, e, c, ap₂ (λ (u v : ℕ). cluster_at y (get_or ks u 0) + v) p.0 p.1) in
      elim (dec_lt (k + l) j) [
        | yes x ↦ omega (arith, same, size_low, cluster_apart y w.laid w.apart (k + l) j (omega (arith, first_low)) x)
        | no x ↦ (elim (dec_lt j (k + l)) [
          | yes u ↦ omega (arith, same, size_low, cluster_apart y w.laid w.apart j (k + l) two u)
          | no u ↦ other (omega arith)
        ])
      ]

  pub stored_longest : Longest y ks valid offset (stored_part y ks valid offset)
  stored_longest = record {
    from_volume = stored-volume y ks valid offset;
    runs = stored_runs;
    some_byte = stored_some;
    below = stored_below;
    ends = stored_ends;
  }

  -- it lies in the volume
  pub stored_inside : (stored_part y ks valid offset).start + (stored_part y ks valid offset).len ≤ length d
  unfolding stored_part
  stored_inside =
      let q = l - 1 in
      let e : suc q ≡ l = omega (arith, some) in
      let b : m + q < length ks = omega (arith, some, long, leading_short js, inside) in
      omega (
        arith,
        row,
        low,
        cluster_is q (omega (arith, some)),
        cluster_end y w.laid w.apart (get_or ks (m + q) 0) (heap_at y.count ks (m + q) heap b),
        suc-mul q size,
        ap (λ (x : ℕ). x * size) e,
        w.long,
      )

-- an empty part lies in every slice
pub none_inside : {vol zeros : ℕ} → Inside vol zeros no_part
none_inside = record { from_volume = λ _. omega arith; from_zeros = λ _. omega arith }

-- ---- every part of a file

module _ (y : Layout) (d z : List ℕ) (w : Fits y d) (some : 1 ≤ length z) (zs : z ≡ replicate (length z) 0) (ks : List ℕ)
    (heap : every (in_heap y.count) ks ≡ true) (valid len : ℕ) (v : valid ≤ len) (room : valid ≤ length ks * y.size) where
  abbrev part : ℕ → List ℕ
  part offset = part_bytes d z (part_in y ks valid len (length z) offset)

  abbrev tape : List ℕ
  tape = shown (bytes_of y d ks) valid len

  stored : valid ≤ length (bytes_of y d ks)
  stored = omega (arith, room, length_of y d w ks heap)

  pub tape_length : length tape ≡ len
  tape_length = length-shown (bytes_of y d ks) valid len stored v

  -- the bytes of the zeros' part
  zero_bytes : (offset : ℕ) → part_bytes d z (zero_part len (length z) offset) ≡ replicate (min (len - offset) (length z)) 0
  unfolding part_bytes zero_part
  zero_bytes offset = ap (take (min (len - offset) (length z))) zs ∙ take_zeros (min (len - offset) (length z)) (length z) (omega arith)

  zero-length : (offset : ℕ) → length (part_bytes d z (zero_part len (length z) offset)) ≡ min (len - offset) (length z)
  zero-length offset = ap length (zero_bytes offset) ∙ length-replicate {A = ℕ} (min (len - offset) (length z)) 0

  none_bytes : part_bytes d z no_part ≡ []
  unfolding part_bytes
  none_bytes = refl

  -- a piece of a list, whatever the part is called
  piece_of : (bs : List ℕ) (n offset : ℕ) → length bs ≡ n → bs ≡ take n (drop offset tape) → 0 < n → Piece tape bs offset
  piece_of bs n offset k e p = record { is = e ∙ ap (λ (x : ℕ). take x (drop offset tape)) (sym k); some = inr (omega (arith, k, p)) }

  pub part_piece : (offset : ℕ) → Piece tape (part offset) offset
  part_piece offset =
      elim (dec_lt offset valid) [
        | yes b ↦
            let n = (stored_part y ks valid offset).len in
            rw (part_stored y ks valid len (length z) offset b)
            (piece_of (part_bytes d z (stored_part y ks valid offset)) n offset (stored-length y d w ks heap valid room offset b z)
            (stored_bytes y d w ks heap valid room offset b z
            ∙ sym (shown-stored (bytes_of y d ks) valid len stored offset n (stored_below y d w ks heap valid room offset b)))
            (stored_some y d w ks heap valid room offset b))
        | no b ↦ (elim (dec_lt offset len) [
          | yes c ↦
              let n = min (len - offset) (length z) in
              rw (part_zeros y ks valid len (length z) offset (omega arith) c)
              (piece_of (part_bytes d z (zero_part len (length z) offset)) n offset (zero-length offset)
              (zero_bytes offset ∙ sym (shown_zeros (bytes_of y d ks) valid len stored offset n (omega arith) (omega arith))) (omega (arith, some)))
          | no c ↦
              rw (part_none y ks valid len (length z) offset (omega arith) (omega arith), none_bytes)
              (record { is = refl; some = inl (omega (arith, tape_length)) })
        ])
      ]

-- ---- where a part lies

-- inside the slice that it is of
module _ (y : Layout) (d : List ℕ) (w : Fits y d) (ks : List ℕ) (heap : every (in_heap y.count) ks ≡ true) (valid len zeros : ℕ)
    (room : valid ≤ length ks * y.size) where
  pub part_inside : (offset : ℕ) → Inside (length d) zeros (part_in y ks valid len zeros offset)
  part_inside offset =
      elim (dec_lt offset valid) [
        | yes b ↦
            rw (part_stored y ks valid len zeros offset b)
            (record {
              from_volume = λ _. stored_inside y d w ks heap valid room offset b;
              from_zeros = λ e. absurd (false≢true (sym (stored-volume y ks valid offset) ∙ e));
            })
        | no b ↦ (elim (dec_lt offset len) [
          | yes c ↦
              rw (part_zeros y ks valid len zeros offset (omega arith) c)
              (record { from_volume = λ e. absurd (false≢true (sym e ∙ zeros_zeros len zeros offset)); from_zeros = λ _. unfold zero_part in (omega arith) })
          | no c ↦ rw (part_none y ks valid len zeros offset (omega arith) (omega arith)) none_inside
        ])
      ]
