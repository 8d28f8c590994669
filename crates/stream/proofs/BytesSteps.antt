-- Streams gone through cluster by cluster: a step of a seek, of a store and of a reading. Assumes nothing.
use mathlib.Core.Path.{◌≡◌, refl, sym, ◌∙◌, ap, ap₂}
use mathlib.Core.Bool.{Bool, true, false, cond, false≢true}
use mathlib.Core.List.{List, [], ◌∷◌, ◌++◌, append-nil}
use Prim.Native.Nat.{ℕ, zero, suc, ◌+◌, ◌-◌, ◌*◌, ◌/◌, ◌%◌, ◌≤◌, ◌<◌, min}
use native.Mathlib.Decide.{dec_le}
use native.Mathlib.Nat.{sub-zero, zero-sub, suc-mul, add-mul, mul-le-mul_right, div-add-mod', mod-lt, le-div_iff_mul-le, div-lt_iff_lt-mul, div-eq_of_lt, div-eq-sub-div, mul-add-div_right}
use native.Mathlib.Numerals.{add-one, sub-one}
use native.Mathlib.Omega.{arith}
use lib.Dec.{leb}
use lib.ListN.{length, take, drop, replicate, length-append, length-drop, drop_of_length-le}
use lib.Seq.{length-take-le, take_all, take-nil, drop-nil, take-append-le, drop-append-le, take-append-add, drop-append-add, take-take, drop-drop}
use borrow.Author.Tests.{le-leb, lt-leb}
use Rattle.primitives.specs.Splice.{splice}
use Rattle.primitives.proofs.SpliceLaws.{splice-nil, splice_join}
use Rattle.tables.specs.Lists.{every, last_or}
use Rattle.tables.proofs.Cases.{cond_case}
use Rattle.tables.proofs.ListLaws.{every-cons, every_head, every_tail}
use Rattle.boot.specs.declared.layout.Layout.{Layout}
use Rattle.boot.specs.Internal.{Laid}
use Rattle.boot.specs.Layout.{cluster_at, in_heap}
use Rattle.boot.proofs.Apart.{in_heap_lem}
use Rattle.boot.proofs.Clusters.{cluster_in}
use Rattle.metadata.specs.Fat.{fat_entry}
use Rattle.metadata.specs.Cluster.{put_bytes}
use Rattle.metadata.proofs.Frame.{Fits, fat_bytes_lem}
use Rattle.stream.specs.declared.allocation.Allocation.{Allocation}
use Rattle.stream.specs.declared.bytes.Place.{Place}
use Rattle.stream.specs.Internal.{after, along, reached, place_at, Known}
use Rattle.stream.specs.Bytes.{cluster_bytes, bytes_of, store_at}
use Rattle.stream.proofs.StreamLaws.{along-step, along_head, along_rest, length-along}

-- ---- parts of lists

-- a number cut to the length of the list takes and drops the same
pub take_lesser : (a : ℕ) (s : List ℕ) (m : ℕ) → m ≡ min a (length s) → (take a s ≡ take m s) × (drop a s ≡ drop m s)
take_lesser a s m e =
    elim (dec_le a (length s)) [
      | yes h ↦ let q : a ≡ m = omega arith in (ap (λ (n : ℕ). take n s) q, ap (λ (n : ℕ). drop n s) q)
      | no h ↦ let q : length s ≡ m = omega arith in (
        take_all a s (omega arith) ∙ sym (take_all m s (omega arith)),
        drop_of_length-le s {i = a} (omega arith) ∙ sym (drop_of_length-le s {i = m} (omega arith)),
      )
    ]

-- a part of a part
pub drop-take : (i j : ℕ) (s : List ℕ) → i ≤ j → drop i (take j s) ≡ take (j - i) (drop i s)
drop-take zero j s h = rw sub-zero refl
drop-take (suc i) zero s h = absurd (omega arith)
drop-take (suc i) (suc j) [] h = sym (take-nil {A = ℕ} (suc j - suc i))
drop-take (suc i) (suc j) (x ∷ s) h =
    let e : j - i ≡ suc j - suc i = omega arith in
    drop-take i j s (omega arith) ∙ ap (λ (n : ℕ). take n (drop i s)) e

-- the front of two lists
pub take_two : (n : ℕ) (s t : List ℕ) (m : ℕ) → m ≡ length s - (length s - n) → take n (s ++ t) ≡ take m s ++ take (n - m) t
take_two n s t m e =
    elim (dec_le n (length s)) [
      | yes h ↦
          let q : m ≡ n = omega arith in
          let z : n - m ≡ 0 = omega arith in
          rw (z, q) (take-append-le n s t h ∙ sym (append-nil (take n s)))
      | no h ↦
          let q : n ≡ length s + (n - m) = omega arith in
          ap (λ (x : ℕ). take x (s ++ t)) q ∙ take-append-add s t (n - m) ∙ ap (λ (r : List ℕ). r ++ take (n - m) t) (sym (take_all m s (omega arith)))
    ]

pub take_zeros : (m n : ℕ) → m ≤ n → ◌≡◌ {A = List ℕ} (take m (replicate n 0)) (replicate m 0)
take_zeros zero n h = refl
take_zeros (suc m) zero h = absurd (omega arith)
take_zeros (suc m) (suc n) h = ap {B = List ℕ} (λ (r : List ℕ). 0 ∷ r) (take_zeros m n (omega arith))

pub drop_zeros : (m n : ℕ) → m ≤ n → ◌≡◌ {A = List ℕ} (drop m (replicate n 0)) (replicate (n - m) 0)
drop_zeros zero n h = rw sub-zero refl
drop_zeros (suc m) zero h = absurd (omega arith)
drop_zeros (suc m) (suc n) h =
    let e : n - m ≡ suc n - suc m = omega arith in
    drop_zeros m n (omega arith) ∙ ap (λ (x : ℕ). replicate x 0) e

pub splice-none : (d : List ℕ) (at n : ℕ) (s : List ℕ) → n ≤ 0 → splice d at (take n s) ≡ d
splice-none d at zero s h = splice-nil d at
splice-none d at (suc n) s h = absurd (omega arith)

-- ---- a test that the numbers of a part pass

module _ (p : ℕ → Bool) where
  pub every_drop : (m : ℕ) (ks : List ℕ) → every p ks ≡ true → every p (drop m ks) ≡ true
  every_drop zero ks e = e
  every_drop (suc m) [] e = e
  every_drop (suc m) (k ∷ ks) e = every_drop m ks (every_tail p k ks e)

  pub every_take : (m : ℕ) (ks : List ℕ) → every p ks ≡ true → every p (take m ks) ≡ true
  every_take zero ks e = unfold every in refl
  every_take (suc m) [] e = e
  every_take (suc m) (k ∷ ks) e = every-cons p k (take m ks) (every_head p k ks e) (every_take m ks (every_tail p k ks e))

-- ---- going along

module _ (fat : ℕ → ℕ) (run : Bool) where
  pub reach_none : (k n : ℕ) → n ≤ 0 → reached fat run k n ≡ k
  unfolding reached
  reach_none k zero h = refl
  reach_none k (suc n) h = absurd (omega arith)

  pub reach_step : (k n : ℕ) → 0 < n → reached fat run k n ≡ reached fat run (after fat run k) (n - 1)
  unfolding reached
  reach_step k zero h = absurd (omega arith)
  reach_step k (suc n) h = rw sub-one refl

  -- steps after steps
  pub reach_sum : (m k n : ℕ) → m ≤ n → reached fat run (reached fat run k m) (n - m) ≡ reached fat run k n
  unfolding reached
  reach_sum zero k n h = rw sub-zero refl
  reach_sum (suc m) k zero h = absurd (omega arith)
  reach_sum (suc m) k (suc n) h =
      let e : suc n - suc m ≡ n - m = omega arith in
      rw e (reach_sum m (after fat run k) n (omega arith))

  -- the last of the clusters on the way
  pub reach_last : (z k n : ℕ) → last_or z (along fat run k (suc n)) ≡ reached fat run k n
  unfolding reached along last_or
  reach_last z k zero = refl
  reach_last z k (suc n) = reach_last k (after fat run k) n

  -- the clusters from there on
  pub drop-along : (m k n : ℕ) → drop m (along fat run k n) ≡ along fat run (reached fat run k m) (n - m)
  unfolding along reached
  drop-along zero k n = rw sub-zero refl
  drop-along (suc m) k zero = rw zero-sub refl
  drop-along (suc m) k (suc n) =
      let e : suc n - suc m ≡ n - m = omega arith in
      rw e (drop-along m (after fat run k) n)

  pub take-along : (m k n : ℕ) → m ≤ n → take m (along fat run k n) ≡ along fat run k m
  unfolding along
  take-along zero k n h = refl
  take-along (suc m) k zero h = absurd (omega arith)
  take-along (suc m) k (suc n) h = ap (λ (l : List ℕ). k ∷ l) (take-along m (after fat run k) n (omega arith))

  module _ (p : ℕ → Bool) (m k n : ℕ) (h : m ≤ n) (e : every p (along fat run k n) ≡ true) where
    pub every_before : every p (along fat run k m) ≡ true
    every_before = ap (every p) (sym (take-along m k n h)) ∙ every_take p m (along fat run k n) e

    pub every_from : every p (along fat run (reached fat run k m) (n - m)) ≡ true
    every_from = ap (every p) (sym (drop-along m k n)) ∙ every_drop p m (along fat run k n) e

-- in a run
pub reach_run : (fat : ℕ → ℕ) (run : Bool) (k n : ℕ) → run ≡ true → reached fat run k n ≡ k + n
unfolding reached after
reach_run fat run k zero e = omega arith
reach_run fat false k (suc n) e = absurd (false≢true e)
reach_run fat true k (suc n) e = reach_run fat true (k + 1) n refl ∙ (omega arith)

pub run_end : (C : ℕ) (fat : ℕ → ℕ) (run : Bool) (k n : ℕ) → run ≡ true → every (in_heap C) (along fat run k n) ≡ true → 0 < n → k + n ≤ C + 2
unfolding along after
run_end C fat run k zero r e h = absurd (omega arith)
run_end C fat run k (suc zero) r e h = let i = in_heap_lem C k (every_head (in_heap C) k [] e) in omega arith
run_end C fat false k (suc (suc n)) r e h = absurd (false≢true r)
run_end C fat true k (suc (suc n)) r e h =
    let t = every_tail (in_heap C) k (along fat true (k + 1) (suc n)) e in
    omega (arith, run_end C fat true (k + 1) (suc n) refl t (omega arith))

-- FATs that are the same on the heap have the same streams
module _ (C : ℕ) (f g : ℕ → ℕ) (same : (k : ℕ) → in_heap C k ≡ true → f k ≡ g k) (run : Bool) where
  pub along_same : (k n : ℕ) → every (in_heap C) (along f run k n) ≡ true → along f run k n ≡ along g run k n
  unfolding along after
  along_same k zero e = refl
  along_same k (suc n) e =
      let h = every_head (in_heap C) k (along f run (cond run (k + 1) (f k)) n) e in
      let t = every_tail (in_heap C) k (along f run (cond run (k + 1) (f k)) n) e in
      ap (λ (l : List ℕ). k ∷ l) (along_same (cond run (k + 1) (f k)) n t ∙ ap (λ (x : ℕ). along g run (cond run (k + 1) x) n) (same k h))

-- the same clusters have the same places
pub reach_same : (f g : ℕ → ℕ) (run : Bool) (k m n : ℕ) → m ≤ n - 1 → along f run k n ≡ along g run k n → reached f run k m ≡ reached g run k m
reach_same f g run k m n h e =
    elim (dec_le (suc m) n) [
      | yes b ↦
          sym (reach_last f run 0 k m) ∙ ap (last_or 0) (sym (take-along f run (suc m) k n b) ∙ ap (take (suc m)) e ∙ take-along g run (suc m) k n b)
          ∙ reach_last g run 0 k m
      | no b ↦ reach_none f run k m (omega arith) ∙ sym (reach_none g run k m (omega arith))
    ]

-- ---- a place that is known

module _ (y : Layout) (d : List ℕ) (a : Allocation) where
  pub known_at : (n i : ℕ) → n ≤ a.count - 1 → n * y.size ≤ i → Known y d a (place_at y d a n) i
  known_at n i h b = record { reaches = refl; inside = h; before = b }

  pub known_first : (i : ℕ) → Known y d a (record { cluster = a.first; steps = 0 }) i
  known_first i = record { reaches = reach_none (fat_entry y d) a.no_fat_chain a.first 0 (omega arith); inside = omega arith; before = omega arith }

  module _ (p : Place) (i : ℕ) (w : Known y d a p i) where
    -- it stays where the clusters are the same
    pub known_same : (e : List ℕ)
        → along (fat_entry y d) a.no_fat_chain a.first a.count ≡ along (fat_entry y e) a.no_fat_chain a.first a.count
        → Known y e a p i
    known_same e q = record {
      reaches = sym (reach_same (fat_entry y d) (fat_entry y e) a.no_fat_chain a.first p.steps a.count w.inside q) ∙ w.reaches;
      inside = w.inside;
      before = w.before;
    }

    -- and for any byte behind
    pub known_later : (j : ℕ) → i ≤ j → Known y d a p j
    known_later j h = record { reaches = w.reaches; inside = w.inside; before = omega (arith, w.before) }

    pub known_steps : 1 ≤ y.size → p.steps ≤ i / y.size
    known_steps h = (le-div_iff_mul-le {k = y.size} {x = p.steps} {y = i} (omega arith)).1 w.before

  -- from there on
  module _ (p : Place) (q : reached (fat_entry y d) a.no_fat_chain a.first p.steps ≡ p.cluster) (n : ℕ) (h : p.steps ≤ n) where
    pub known_reach : reached (fat_entry y d) a.no_fat_chain p.cluster (n - p.steps) ≡ reached (fat_entry y d) a.no_fat_chain a.first n
    known_reach =
        ap (λ (k : ℕ). reached (fat_entry y d) a.no_fat_chain k (n - p.steps)) (sym q)
        ∙ reach_sum (fat_entry y d) a.no_fat_chain p.steps a.first n h

    pub known_heap : every (in_heap y.count) (along (fat_entry y d) a.no_fat_chain a.first n) ≡ true
        → every (in_heap y.count) (along (fat_entry y d) a.no_fat_chain p.cluster (n - p.steps)) ≡ true
    known_heap e =
        ap (λ (k : ℕ). every (in_heap y.count) (along (fat_entry y d) a.no_fat_chain k (n - p.steps))) (sym q)
        ∙ every_from (fat_entry y d) a.no_fat_chain (in_heap y.count) p.steps a.first n h e

-- ---- places in a stream

-- bytes that are left are in clusters that are left
pub some_left : (n s p m : ℕ) → p + m ≤ n * s → 0 < m → 0 < n
some_left zero s p m h b = absurd (omega arith)
some_left (suc n) s p m h b = omega arith

-- and past the first of those in the others
left_less : (n s p m : ℕ) → p + m ≤ n * s → s - p < m → m - (s - p) ≤ (n - 1) * s
left_less zero s p m h b = absurd (omega arith)
left_less (suc n) s p m h b = rw sub-one (omega (arith, suc-mul n s))

pub left_after : (n s p m r : ℕ) → p < s → p + m ≤ n * s → r ≡ min (s - p) m → 0 + (m - r) ≤ (n - 1) * s
left_after n s p m r i h e =
    elim (dec_le m (s - p)) [
      | yes b ↦ omega arith
      | no b ↦ omega (arith, left_less n s p m h (omega arith))
    ]

-- the cluster of a byte, and the byte in it
module _ (at n count s : ℕ) (low : 1 ≤ s) (h : at + n ≤ count * s) where
  pub place_is : at / s * s + at % s ≡ at
  place_is = div-add-mod' at s

  pub place_low : at % s < s
  place_low = mod-lt at (omega arith)

  pub place_count : at / s ≤ count
  place_count =
      elim (dec_le (at / s) count) [
        | yes b ↦ b
        | no b ↦ absurd (omega (arith, place_is, mul-le-mul_right {m = suc count} {n = at / s} s (omega arith), suc-mul count s))
      ]

  pub place_room : at % s + n ≤ (count - at / s) * s
  place_room =
      let c = place_count in
      let e : count - at / s + at / s ≡ count = omega arith in
      omega (arith, place_is, sym (add-mul (count - at / s) (at / s) s) ∙ ap (λ (x : ℕ). x * s) e)

-- the cluster of the last of m bytes from byte p of a cluster on: that cluster, or one step further on than from the next cluster
module _ (s p m : ℕ) (low : p < s) where
  pub last_here : m ≤ s - p → 1 ≤ m → (p + m - 1) / s ≡ 0
  last_here h i = div-eq_of_lt {n = p + m - 1} {m = s} (omega arith)

  pub last_next : s - p < m → (p + m - 1) / s ≡ suc ((0 + (m - (s - p)) - 1) / s)
  last_next h =
      let e : p + m - 1 - s ≡ 0 + (m - (s - p)) - 1 = omega arith in
      div-eq-sub-div {m = s} {n = p + m - 1} (omega arith) (omega arith) ∙ ap (λ (x : ℕ). x / s + 1) e ∙ add-one _

  pub last_inside : (n : ℕ) → p + m ≤ n * s → 1 ≤ m → (p + m - 1) / s ≤ n - 1
  last_inside n h i = let q = (div-lt_iff_lt-mul {k = s} {x = p + m - 1} {y = n} (omega arith)).1 (omega arith) in omega arith

-- the cluster of the last of n bytes from byte `at` on, from that of the first of them
pub last_from : (s at n : ℕ) → 1 ≤ s → 1 ≤ n → (at + n - 1) / s ≡ at / s + (at % s + n - 1) / s
last_from s at n h i =
    let e : at + n - 1 ≡ at / s * s + (at % s + n - 1) = omega (arith, div-add-mod' at s) in
    ap (λ (x : ℕ). x / s) e ∙ mul-add-div_right {m = s} (omega arith) (at / s) (at % s + n - 1)

-- ---- stores

module _ (y : Layout) where
  pub store_past : (d : List ℕ) (k : ℕ) (ks : List ℕ) (at : ℕ) (bs : List ℕ) → y.size ≤ at
      → store_at y d (k ∷ ks) at bs ≡ store_at y d ks (at - y.size) bs
  unfolding store_at
  store_past d k ks at bs h = rw (le-leb y.size at h) refl

  pub store_here : (d : List ℕ) (k : ℕ) (ks : List ℕ) (at : ℕ) (bs : List ℕ) → at < y.size
      → store_at y d (k ∷ ks) at bs ≡ store_at y (put_bytes y d k at (take (y.size - at) bs)) ks 0 (drop (y.size - at) bs)
  unfolding store_at
  store_here d k ks at bs h = rw (lt-leb y.size at h) refl

  -- storing nothing changes nothing
  pub store_nothing : (d ks : List ℕ) (at : ℕ) → store_at y d ks at [] ≡ d
  unfolding store_at put_bytes
  store_nothing d [] at = refl
  store_nothing d (k ∷ ks) at =
      cond_case (λ (r : List ℕ). r ≡ d) (leb y.size at) (store_at y d ks (at - y.size) [])
      (store_at y (splice d (cluster_at y k + at) (take (y.size - at) [])) ks 0 (drop (y.size - at) []))
      (λ _. store_nothing d ks (at - y.size))
      (λ _. rw (take-nil {A = ℕ} (y.size - at), drop-nil {A = ℕ} (y.size - at), splice-nil d (cluster_at y k + at)) (store_nothing d ks 0))

  pub store_empty : (d ks : List ℕ) (at : ℕ) (bs : List ℕ) → length bs ≤ 0 → store_at y d ks at bs ≡ d
  store_empty d ks at [] h = store_nothing d ks at
  store_empty d ks at (b ∷ bs) h = absurd (omega arith)

  -- whole clusters passed over
  pub store_over : (m : ℕ) (d ks : List ℕ) (at : ℕ) (bs : List ℕ) → m ≤ length ks → store_at y d ks (m * y.size + at) bs ≡ store_at y d (drop m ks) at bs
  store_over zero d ks at bs h = ap (λ (x : ℕ). store_at y d ks x bs) (omega arith)
  store_over (suc m) d [] at bs h = absurd (omega arith)
  store_over (suc m) d (k ∷ ks) at bs h =
      let e = suc-mul m y.size in
      store_past d k ks (suc m * y.size + at) bs (omega arith) ∙ ap (λ (x : ℕ). store_at y d ks x bs) (omega arith)
      ∙ store_over m d ks at bs (omega arith)

-- a turn of a loop that stores
module _ (y : Layout) (d : List ℕ) (w : Fits y d) (run : Bool) (k n : ℕ) (some : 0 < n) (h : every (in_heap y.count) (along (fat_entry y d) run k n) ≡ true)
    (at : ℕ) (low : at < y.size) where
  turn_along : (bs : List ℕ) → at + length bs ≤ y.size
      → along (fat_entry y d) run (after (fat_entry y d) run k) (n - 1) ≡ along (fat_entry y (put_bytes y d k at bs)) run (after (fat_entry y d) run k) (n - 1)
  turn_along bs f =
      let i = along_head (in_heap y.count) (fat_entry y d) run k n some h in
      let t = along_rest (in_heap y.count) (fat_entry y d) run k n some h in
      along_same y.count (fat_entry y d) (fat_entry y (put_bytes y d k at bs))
      (λ j b. sym (fat_bytes_lem y d w k at bs j i f (in_heap_lem y.count j b).1)) run (after (fat_entry y d) run k) (n - 1) t

  heap_turn : (bs : List ℕ) → at + length bs ≤ y.size
      → every (in_heap y.count) (along (fat_entry y (put_bytes y d k at bs)) run (after (fat_entry y d) run k) (n - 1)) ≡ true
  heap_turn bs f =
      ap (every (in_heap y.count)) (sym (turn_along bs f)) ∙ along_rest (in_heap y.count) (fat_entry y d) run k n some h

  store_turn : (bs : List ℕ) (m : ℕ) → m ≡ min (y.size - at) (length bs)
      → store_at y d (along (fat_entry y d) run k n) at bs
      ≡ store_at y (put_bytes y d k at (take m bs)) (along (fat_entry y (put_bytes y d k at (take m bs))) run (after (fat_entry y d) run k) (n - 1)) 0 (drop m bs)
  store_turn bs m e =
      let q = take_lesser (y.size - at) bs m e in
      let f : length (take m bs) ≡ m = length-take-le m bs (omega arith) in
      ap (λ (ks : List ℕ). store_at y d ks at bs) (along-step (fat_entry y d) run k n some)
      ∙ store_here y d k (along (fat_entry y d) run (after (fat_entry y d) run k) (n - 1)) at bs low
      ∙ ap₂ (λ (s t : List ℕ). store_at y (put_bytes y d k at s) (along (fat_entry y d) run (after (fat_entry y d) run k) (n - 1)) 0 t) q.0 q.1
      ∙ ap (λ (ks : List ℕ). store_at y (put_bytes y d k at (take m bs)) ks 0 (drop m bs)) (turn_along (take m bs) (omega arith))

  -- the same where the next volume and cluster have other names
  pub store_next : (bs d' : List ℕ) (m next : ℕ) → m ≡ min (y.size - at) (length bs) → d' ≡ put_bytes y d k at (take m bs)
      → next ≡ after (fat_entry y d) run k
      → (every (in_heap y.count) (along (fat_entry y d') run next (n - 1)) ≡ true)
      × (store_at y d' (along (fat_entry y d') run next (n - 1)) 0 (drop m bs) ≡ store_at y d (along (fat_entry y d) run k n) at bs)
  store_next bs d' m next e p q =
      let f : length (take m bs) ≡ m = length-take-le m bs (omega arith) in
      rw (p, q) (heap_turn (take m bs) (omega arith), sym (store_turn bs m e))

  -- and the clusters reached are the same
  pub reach_next : (bs d' : List ℕ) (next j : ℕ) → at + length bs ≤ y.size → d' ≡ put_bytes y d k at bs → next ≡ after (fat_entry y d) run k → suc j ≤ n - 1
      → reached (fat_entry y d') run next j ≡ reached (fat_entry y d) run k (suc j)
  unfolding reached
  reach_next bs d' next j f p q h =
      let t : along (fat_entry y d) run (after (fat_entry y d) run k) (n - 1) ≡ along (fat_entry y d') run (after (fat_entry y d) run k) (n - 1) =
      turn_along bs f ∙ ap (λ (x : List ℕ). along (fat_entry y x) run (after (fat_entry y d) run k) (n - 1)) (sym p) in
      ap (λ (x : ℕ). reached (fat_entry y d') run x j) q ∙ sym (reach_same (fat_entry y d) (fat_entry y d') run (after (fat_entry y d) run k) j (n - 1) (omega arith) t)

-- ---- readings

module _ (y : Layout) (d : List ℕ) (l : Laid y) (long : length d ≡ y.len) where
  pub cluster_room : (k : ℕ) → in_heap y.count k ≡ true → cluster_at y k + y.size ≤ length d
  unfolding cluster_at
  cluster_room k h = let i = in_heap_lem y.count k h in omega (arith, cluster_in y k l i.0 i.1)

  pub length_cluster : (k : ℕ) → in_heap y.count k ≡ true → length (cluster_bytes y d k) ≡ y.size
  unfolding cluster_bytes
  length_cluster k h = length-take-le y.size (drop (cluster_at y k) d) (omega (arith, length-drop (cluster_at y k) d, cluster_room k h))

  pub length_bytes_of : (ks : List ℕ) → every (in_heap y.count) ks ≡ true → length (bytes_of y d ks) ≡ length ks * y.size
  unfolding bytes_of
  length_bytes_of [] e = omega arith
  length_bytes_of (k ∷ ks) e =
      let n = length_cluster k (every_head (in_heap y.count) k ks e) in
      omega (arith, length-append (cluster_bytes y d k) (bytes_of y d ks), length_bytes_of ks (every_tail (in_heap y.count) k ks e), suc-mul (length ks) y.size)

  -- whole clusters passed over
  pub bytes_over : (m : ℕ) (ks : List ℕ) (at : ℕ) → m ≤ length ks → every (in_heap y.count) ks ≡ true
      → drop (m * y.size + at) (bytes_of y d ks) ≡ drop at (bytes_of y d (drop m ks))
  unfolding bytes_of
  bytes_over zero ks at h e =
      let z : 0 * y.size + at ≡ at = omega arith in
      ap (λ (x : ℕ). drop x (bytes_of y d ks)) z
  bytes_over (suc m) [] at h e = absurd (omega arith)
  bytes_over (suc m) (k ∷ ks) at h e =
      let n = length_cluster k (every_head (in_heap y.count) k ks e) in
      let z : suc m * y.size + at ≡ length (cluster_bytes y d k) + (m * y.size + at) = omega (arith, suc-mul m y.size) in
      ap (λ (x : ℕ). drop x (cluster_bytes y d k ++ bytes_of y d ks)) z
      ∙ drop-append-add (cluster_bytes y d k) (bytes_of y d ks) (m * y.size + at)
      ∙ bytes_over m ks at (omega arith) (every_tail (in_heap y.count) k ks e)

  -- a piece of a cluster
  pub piece_is : (k at n : ℕ) → at + n ≤ y.size → take n (drop (cluster_at y k + at) d) ≡ take n (drop at (cluster_bytes y d k))
  unfolding cluster_bytes
  piece_is k at n h =
      let s = drop (cluster_at y k) d in
      sym
      (ap (λ (x : List ℕ). take n x) (drop-take at y.size s (omega arith)) ∙ take-take n (y.size - at) (drop at s) (omega arith)
      ∙ ap (λ (x : List ℕ). take n x) (drop-drop at (cluster_at y k) d))

  -- a turn of a loop that reads
  module _ (fat : ℕ → ℕ) (run : Bool) (k n : ℕ) (some : 0 < n) (h : every (in_heap y.count) (along fat run k n) ≡ true) (at : ℕ) (low : at < y.size) where
    read_turn : (m r : ℕ) → r ≡ min (y.size - at) m
        → take m (drop at (bytes_of y d (along fat run k n)))
        ≡ take r (drop at (cluster_bytes y d k)) ++ take (m - r) (drop 0 (bytes_of y d (along fat run (after fat run k) (n - 1))))
    read_turn m r e =
        let c = cluster_bytes y d k in
        let t = bytes_of y d (along fat run (after fat run k) (n - 1)) in
        let z = length_cluster k (along_head (in_heap y.count) fat run k n some h) in
        let first : bytes_of y d (along fat run k n) ≡ c ++ t = ap (bytes_of y d) (along-step fat run k n some) ∙ (unfold bytes_of in refl) in
        ap (λ (x : List ℕ). take m (drop at x)) first ∙ ap (take m) (drop-append-le at c t (omega arith))
        ∙ take_two m (drop at c) t r (omega (arith, length-drop at c))

    -- the same with the piece in place, where the next list and cluster have other names
    pub read_next : (dst dst' : List ℕ) (to m r next : ℕ) → r ≡ min (y.size - at) m → to + m ≤ length dst
        → dst' ≡ splice dst to (take r (drop at (cluster_bytes y d k))) → next ≡ after fat run k
        → (every (in_heap y.count) (along fat run next (n - 1)) ≡ true)
        × (splice dst' (to + r) (take (m - r) (drop 0 (bytes_of y d (along fat run next (n - 1)))))
        ≡ splice dst to (take m (drop at (bytes_of y d (along fat run k n)))))
    read_next dst dst' to m r next e f p q =
        let c = cluster_bytes y d k in
        let z = length_cluster k (along_head (in_heap y.count) fat run k n some h) in
        let i : length (take r (drop at c)) ≡ r = length-take-le r (drop at c) (omega (arith, length-drop at c)) in
        rw (p, q) (
          along_rest (in_heap y.count) fat run k n some h,
          splice_join dst to (take r (drop at c)) (take (m - r) (drop 0 (bytes_of y d (along fat run (after fat run k) (n - 1))))) (to + r) (omega arith) (omega arith)
              ∙ ap (splice dst to) (sym (read_turn m r e)),
        )

-- ---- from the cluster of a byte on

-- what a seek to the cluster of byte `at` leads to, in a stream that has n bytes from there on
pub record Sought (y : Layout) (d : List ℕ) (run : Bool) (first count at n : ℕ) : Type 0 where
  pub steps : at / y.size ≤ count
  pub place : at % y.size < y.size
  pub room : at % y.size + n ≤ (count - at / y.size) * y.size
  pub before : every (in_heap y.count) (along (fat_entry y d) run first (at / y.size)) ≡ true
  pub heap : every (in_heap y.count) (along (fat_entry y d) run (reached (fat_entry y d) run first (at / y.size)) (count - at / y.size)) ≡ true
  pub stores : (bs : List ℕ)
      → store_at y d (along (fat_entry y d) run (reached (fat_entry y d) run first (at / y.size)) (count - at / y.size)) (at % y.size) bs
      ≡ store_at y d (along (fat_entry y d) run first count) at bs
  pub reads : drop (at % y.size) (bytes_of y d (along (fat_entry y d) run (reached (fat_entry y d) run first (at / y.size)) (count - at / y.size)))
      ≡ drop at (bytes_of y d (along (fat_entry y d) run first count))

pub sought : (y : Layout) (d : List ℕ) (run : Bool) (first count at n : ℕ) → Laid y → length d ≡ y.len
    → every (in_heap y.count) (along (fat_entry y d) run first count) ≡ true → at + n ≤ count * y.size → Sought y d run first count at n
sought y d run first count at n l long e h =
    let f = fat_entry y d in
    let i = at / y.size in
    let ks = along f run first count in
    let s : 1 ≤ y.size = omega (arith, l.size_low) in
    let c = place_count at n count y.size s h in
    let p = place_is at n count y.size s h in
    let k : i ≤ length ks = omega (arith, length-along f run first count) in
    record {
      steps = c;
      place = place_low at n count y.size s h;
      room = place_room at n count y.size s h;
      before = every_before f run (in_heap y.count) i first count c e;
      heap = every_from f run (in_heap y.count) i first count c e;
      stores = λ bs. ap (λ (js : List ℕ). store_at y d js (at % y.size) bs) (sym (drop-along f run i first count))
          ∙ sym (store_over y i d ks (at % y.size) bs k) ∙ ap (λ (x : ℕ). store_at y d ks x bs) p;
      reads = ap (λ (js : List ℕ). drop (at % y.size) (bytes_of y d js)) (sym (drop-along f run i first count))
          ∙ sym (bytes_over y d l long i ks (at % y.size) k e) ∙ ap (λ (x : ℕ). drop x (bytes_of y d ks)) p;
    }
