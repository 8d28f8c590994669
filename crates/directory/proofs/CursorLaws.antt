-- The entries of a directory one after the other: where each lies, and its type byte. Assumes nothing.
use mathlib.Core.Path.{◌≡◌, refl, sym, ◌∙◌, ap, ap₂}
use mathlib.Core.Bool.{Bool, true}
use mathlib.Core.List.{List}
use Prim.Native.Nat.{ℕ, zero, suc, ◌+◌, ◌-◌, ◌*◌, ◌/◌, ◌%◌, ◌≤◌, ◌<◌}
use native.Mathlib.Decide.{dec_le}
use native.Mathlib.Nat.{suc-mul, mul_assoc, mul_comm, mul-le-mul_right, div-add-mod', mod-lt, add-mul-div_right, div-eq_of_lt}
use native.Mathlib.Numerals.{add-one}
use native.Mathlib.Omega.{arith}
use lib.Dec.{eqb}
use lib.ListN.{length, get_or, take, drop}
use borrow.Author.Tests.{lt-ltb, le-ltb}
use Rattle.primitives.specs.Bits.{bit_of}
use Rattle.tables.specs.Lists.{every}
use Rattle.boot.specs.declared.layout.Layout.{Layout}
use Rattle.boot.specs.Layout.{cluster_at, in_heap}
use Rattle.boot.proofs.Apart.{in_heap_lem}
use Rattle.metadata.specs.Fat.{fat_entry}
use Rattle.metadata.specs.Marks.{marked}
use Rattle.metadata.specs.Cluster.{cluster_byte}
use Rattle.metadata.proofs.Frame.{Fits, small}
use Rattle.stream.specs.declared.allocation.Allocation.{Allocation}
use Rattle.stream.specs.Internal.{after, along, reached}
use Rattle.stream.specs.Bytes.{cluster_bytes, bytes_of, bytes_in}
use Rattle.stream.specs.Stream.{number_of, stream_of, clusters_of}
use Rattle.stream.proofs.StreamLaws.{length-along, along_head}
use Rattle.stream.proofs.BytesSteps.{every_from}
use Rattle.stream.proofs.BytesLaws.{length_of, byte_of}
use Rattle.stream.proofs.ListingLaws.{stream_read, along_heap}
use Rattle.stream.proofs.Distinct.{few, read_length, read_distinct}
use Rattle.directory.specs.declared.entries.Cursor.{Cursor}
use Rattle.directory.specs.Entries.{entry_count, type_at, in_use}
use Rattle.directory.specs.Internal.{next_entry, entry_at, entry_place}
use Rattle.directory.proofs.DirectoryLaws.{clusters_along}

-- ---- going along

module _ (fat : ℕ → ℕ) (run : Bool) where
  reach_next : (k n : ℕ) → reached fat run k (suc n) ≡ after fat run (reached fat run k n)
  unfolding reached
  reach_next k zero = refl
  reach_next k (suc n) = reach_next (after fat run k) n

  pub along_at : (k n m : ℕ) → m < n → get_or (along fat run k n) m 0 ≡ reached fat run k m
  unfolding along reached
  along_at k zero m h = absurd (omega arith)
  along_at k (suc n) zero h = refl
  along_at k (suc n) (suc m) h = along_at (after fat run k) n m (omega arith)

  pub reached_heap : (C k n m : ℕ) → every (in_heap C) (along fat run k n) ≡ true → m < n → in_heap C (reached fat run k m) ≡ true
  reached_heap C k n m e h =
      along_head (in_heap C) fat run (reached fat run k m) (n - m) (omega arith) (every_from fat run (in_heap C) m k n (omega arith) e)

-- a cluster's part of the volume
pub cluster_part : (y : Layout) (d : List ℕ) (k a : ℕ) → a ≡ cluster_at y k → take (a + y.size - a) (drop a d) ≡ cluster_bytes y d k
unfolding cluster_bytes
cluster_part y d k a e = let z : a + y.size - a ≡ y.size = omega arith in ap₂ (λ (n p : ℕ). take n (drop p d)) z e

-- ---- from entry to entry

module _ (y : Layout) (fat : ℕ → ℕ) (run : Bool) where
  pub next_here : (e : Cursor) → e.at + 32 < y.size → next_entry y fat run e ≡ record { cluster = e.cluster; at = e.at + 32 }
  unfolding next_entry
  next_here e h = rw (lt-ltb (e.at + 32) y.size h) refl

  pub next_over : (e : Cursor) → y.size ≤ e.at + 32 → next_entry y fat run e ≡ record { cluster = after fat run e.cluster; at = 0 }
  unfolding next_entry
  next_over e h = rw (le-ltb (e.at + 32) y.size h) refl

  pub entry_first : (first : ℕ) → record { cluster = first; at = 0 } ≡ entry_at y fat run first 0
  unfolding entry_at
  entry_first first = refl

  pub entry_next : (first i : ℕ) → next_entry y fat run (entry_at y fat run first i) ≡ entry_at y fat run first (i + 1)
  unfolding entry_at
  entry_next first i = rw add-one refl

  -- p entries to a cluster: entry j of cluster m
  module _ (p : ℕ) (whole : 32 * p ≡ y.size) (first : ℕ) where
    abbrev place : ℕ → ℕ → Cursor
    place m at = record { cluster = reached fat run first m; at = at }

    row : (m s j : ℕ) → entry_at y fat run first s ≡ place m 0 → j < p → entry_at y fat run first (s + j) ≡ place m (32 * j)
    row m s zero e h = ap (entry_at y fat run first) (omega arith) ∙ e
    row m s (suc j) e h =
        let z : s + suc j ≡ s + j + 1 = omega arith in
        let q : 32 * j + 32 ≡ 32 * suc j = omega arith in
        ap (entry_at y fat run first) z ∙ sym (entry_next first (s + j)) ∙ ap (next_entry y fat run) (row m s j e (omega arith))
        ∙ next_here (place m (32 * j)) (omega arith) ∙ ap (place m) q

    rows : (m : ℕ) → 1 ≤ p → entry_at y fat run first (m * p) ≡ place m 0
    rows zero l = ap (entry_at y fat run first) (omega arith) ∙ sym (entry_first first) ∙ (unfold reached in refl)
    rows (suc m) l =
        let z : suc m * p ≡ m * p + (p - 1) + 1 = omega (arith, suc-mul m p) in
        ap (entry_at y fat run first) z ∙ sym (entry_next first (m * p + (p - 1)))
        ∙ ap (next_entry y fat run) (row m (m * p) (p - 1) (rows m l) (omega arith))
        ∙ next_over (place m (32 * (p - 1))) (omega arith) ∙ ap (λ (k : ℕ). record { cluster = k; at = 0 }) (sym (reach_next fat run first m))

    pub entry_place_lem : (m j : ℕ) → j < p → entry_at y fat run first (m * p + j) ≡ record { cluster = reached fat run first m; at = 32 * j }
    entry_place_lem m j h = row m (m * p) j (rows m (omega arith)) h

-- ---- a directory that reads

module _ (y : Layout) (d : List ℕ) (w : Fits y d) (dir : Allocation) (reads : number_of (stream_of y d dir) ≡ 0) where
  abbrev fat : ℕ → ℕ
  fat = fat_entry y d

  abbrev run : Bool
  run = dir.no_fat_chain

  abbrev per : ℕ
  per = y.size / 32

  abbrev bs : List ℕ
  bs = bytes_in y d dir

  pub bytes_along : bytes_in y d dir ≡ bytes_of y d (along fat run dir.first dir.count)
  unfolding bytes_in
  bytes_along = ap (bytes_of y d) (clusters_along y d dir reads)

  pub dir_heap : every (in_heap y.count) (along fat run dir.first dir.count) ≡ true
  dir_heap = along_heap y d dir reads

  pub count_few : dir.count ≤ y.count
  count_few =
      let r = stream_read y d dir reads in
      let ks = clusters_of (stream_of y d dir) in
      omega (
        arith,
        read_length y.count fat (marked y d) dir ks r,
        few y.count ks (read_distinct y.count fat (marked y d) dir (small y d w) ks r) r.heap,
      )

  pub length_in : length (bytes_in y d dir) ≡ dir.count * y.size
  length_in =
      ap length bytes_along ∙ length_of y d w (along fat run dir.first dir.count) dir_heap
      ∙ ap (λ (n : ℕ). n * y.size) (length-along fat run dir.first dir.count)

  per_low : 16 ≤ per
  per_low = let l = w.laid in omega (arith, l.size_low, l.whole)

  in_bytes : (n : ℕ) → 32 * (n * per) ≡ n * y.size
  in_bytes n = sym (mul_assoc 32 n per) ∙ ap (λ (x : ℕ). x * per) (mul_comm 32 n) ∙ mul_assoc n 32 per ∙ ap (λ (x : ℕ). n * x) w.laid.whole

  pub length-entries : length (bytes_in y d dir) ≡ 32 * (dir.count * per)
  length-entries = length_in ∙ sym (in_bytes dir.count)

  pub entries_is : dir.count * per ≡ entry_count (bytes_in y d dir)
  unfolding entry_count
  entries_is = omega (arith, length-entries)

  -- a slot of the directory, in bytes
  pub slot_bytes : (i n : ℕ) → i + n ≤ entry_count (bytes_in y d dir) → 32 * i + 32 * n ≤ dir.count * y.size
  slot_bytes i n h = omega (arith, length_in, length-entries, entries_is)

  pub entries_small : dir.count * per ≤ 524288
  entries_small =
      let l = w.laid in
      omega (arith, in_bytes y.count, l.heap_in, l.len_high, mul-le-mul_right {m = dir.count} {n = y.count} per count_few)

  -- entry i lies in the cluster at place i / per
  module _ (i : ℕ) (h : i < entry_count (bytes_in y d dir)) where
    pub split : i / per * per + i % per ≡ i
    split = div-add-mod' i per

    pub rest : i % per < per
    rest = mod-lt i (omega (arith, per_low))

    pub inside : i / per < dir.count
    inside =
        elim (dec_le dir.count (i / per)) [
          | yes b ↦ absurd (omega (arith, split, entries_is, mul-le-mul_right {m = dir.count} {n = i / per} per b))
          | no b ↦ omega arith
        ]

    abbrev there : Cursor
    there = record { cluster = reached fat run dir.first (i / per); at = 32 * (i % per) }

    pub there_is : entry_at y fat run dir.first i ≡ there
    there_is = ap (entry_at y fat run dir.first) (sym split) ∙ entry_place_lem y fat run per w.laid.whole dir.first (i / per) (i % per) rest

    here_in : (2 ≤ there.cluster) × ((there.cluster < y.count + 2) × (there.at + 32 ≤ y.size))
    here_in =
        let q = in_heap_lem y.count there.cluster (reached_heap fat run y.count dir.first dir.count (i / per) dir_heap inside) in
        (q.0, (q.1, omega (arith, rest, w.laid.whole)))

    -- where a cursor that stands at entry i lies
    pub cursor_in : (e : Cursor) → e ≡ entry_at y fat run dir.first i → (2 ≤ e.cluster) × ((e.cluster < y.count + 2) × (e.at + 32 ≤ y.size))
    cursor_in e q = rw (q ∙ there_is) here_in

    -- and the type byte there
    pub cursor_type : (e : Cursor) → e ≡ entry_at y fat run dir.first i → cluster_byte y d e.cluster e.at ≡ type_at (bytes_in y d dir) i
    unfolding type_at
    cursor_type e q =
        let ks = along fat run dir.first dir.count in
        let z : i / per * y.size + 32 * (i % per) ≡ 32 * i = omega (arith, split, in_bytes (i / per)) in
        ap (λ (x : Cursor). cluster_byte y d x.cluster x.at) (q ∙ there_is)
        ∙ sym
        (ap (λ (l : List ℕ). get_or l (32 * i) 0) bytes_along ∙ ap (λ (x : ℕ). get_or (bytes_of y d ks) x 0) (sym z)
        ∙ byte_of y d w ks (i / per) (32 * (i % per)) dir_heap (omega (arith, inside, length-along fat run dir.first dir.count)) (omega (arith, here_in.1.1))
        ∙ ap (λ (k : ℕ). cluster_byte y d k (32 * (i % per))) (along_at fat run dir.first dir.count (i / per) inside))

    -- and whether it is in use
    pub cursor_use : (e : Cursor) → e ≡ entry_at y fat run dir.first i → eqb (bit_of (cluster_byte y d e.cluster e.at) 7) 1 ≡ in_use (bytes_in y d dir) i
    unfolding in_use
    cursor_use e q = ap (λ (x : ℕ). eqb (bit_of x 7) 1) (cursor_type e q)

-- ---- from an entry to one further on

-- entry i counted from a cluster on, `more` entries of it to go: the clusters before are whole
pub record Counted (y : Layout) (d : List ℕ) (dir : Allocation) (i cluster more : ℕ) : Type 0 where
  pub few : more ≤ i
  pub there : cluster ≡ reached (fat_entry y d) dir.no_fat_chain dir.first ((i - more) / (y.size / 32))
  pub whole : (i - more) / (y.size / 32) * (y.size / 32) + more ≡ i

-- quotient and rest of j s and r, r less than s
place_of : (s j r i : ℕ) → r < s → j * s + r ≡ i → (i / s ≡ j) × (i % s ≡ r)
place_of s j r i h e =
    let z : i ≡ r + j * s = omega arith in
    let q : i / s ≡ j = ap (λ (x : ℕ). x / s) z ∙ add-mul-div_right r j (omega arith) ∙ omega (arith, div-eq_of_lt {n = r} {m = s} h) in
    (q, omega (arith, div-add-mod' i s, ap (λ (x : ℕ). x * s) q))

quotient : (p j : ℕ) → 1 ≤ p → j * p / p ≡ j
quotient p j h = let e : j * p ≡ 0 + j * p = omega arith in ap (λ (x : ℕ). x / p) e ∙ add-mul-div_right 0 j h ∙ omega (arith, div-eq_of_lt {n = 0} {m = p} h)

module _ (y : Layout) (d : List ℕ) (w : Fits y d) (dir : Allocation) (reads : number_of (stream_of y d dir) ≡ 0) where
  abbrev p : ℕ
  p = y.size / 32

  p_low : 1 ≤ p
  p_low = let l = w.laid in omega (arith, l.size_low, l.whole)

  counted_by : (i j cluster more : ℕ) → j * p + more ≡ i → cluster ≡ reached (fat_entry y d) dir.no_fat_chain dir.first j → Counted y d dir i cluster more
  counted_by i j cluster more e c =
      let q : (i - more) / p ≡ j = ap (λ (x : ℕ). x / p) (omega arith) ∙ quotient p j p_low in
      record {
        few = omega arith;
        there = c ∙ ap (reached (fat_entry y d) dir.no_fat_chain dir.first) (sym q);
        whole = ap (λ (x : ℕ). x * p + more) q ∙ e;
      }

  pub counted_first : (i : ℕ) → Counted y d dir i dir.first i
  counted_first i = counted_by i 0 dir.first i (omega arith) (unfold reached in refl)

  pub counted_start : (k m : ℕ) → k < entry_count (bytes_in y d dir) → (e : Cursor) → e ≡ entry_at y (fat_entry y d) dir.no_fat_chain dir.first k
      → Counted y d dir (k + m) e.cluster (e.at / 32 + m)
  counted_start k m h e q =
      let t = there_is y d w dir reads k h in
      let s = split y d w dir reads k h in
      let a : e.at ≡ 32 * (k % p) = ap (λ (x : Cursor). x.at) (q ∙ t) in
      counted_by (k + m) (k / p) e.cluster (e.at / 32 + m) (omega arith) (ap (λ (x : Cursor). x.cluster) (q ∙ t))

  module _ (i cluster more : ℕ) (c : Counted y d dir i cluster more) where
    abbrev j : ℕ
    j = (i - more) / p

    pub counted_next : p ≤ more → Counted y d dir i (after (fat_entry y d) dir.no_fat_chain cluster) (more - p)
    counted_next h =
        counted_by i (suc j) (after (fat_entry y d) dir.no_fat_chain cluster) (more - p) (omega (arith, c.whole, suc-mul j p))
        (ap (after (fat_entry y d) dir.no_fat_chain) c.there ∙ sym (reach_next (fat_entry y d) dir.no_fat_chain dir.first j))

    pub counted_heap : i < entry_count (bytes_in y d dir) → in_heap y.count cluster ≡ true
    counted_heap h =
        ap (in_heap y.count) c.there
        ∙ reached_heap (fat_entry y d) dir.no_fat_chain y.count dir.first dir.count j (dir_heap y d w dir reads)
        (elim (dec_le dir.count j) [
          | yes b ↦ absurd (omega (arith, c.whole, entries_is y d w dir reads, mul-le-mul_right {m = dir.count} {n = j} p b))
          | no b ↦ omega arith
        ])

    pub counted_end : more < p → record { cluster = cluster; at = 32 * more } ≡ entry_at y (fat_entry y d) dir.no_fat_chain dir.first i
    counted_end h =
        ap (λ (x : ℕ). record { cluster = x; at = 32 * more }) c.there
        ∙ sym (ap (entry_at y (fat_entry y d) dir.no_fat_chain dir.first) (sym c.whole) ∙ entry_place_lem y (fat_entry y d) dir.no_fat_chain p w.laid.whole dir.first j more h)

    -- by its byte
    pub counted_place : more < p → record { cluster = cluster; at = 32 * more } ≡ entry_place y d dir i
    counted_place h =
        let q = place_of y.size j (32 * more) (32 * i) (omega (arith, w.laid.whole)) (omega (arith, c.whole, in_bytes y d w dir reads j)) in
        ap₂ (λ (k x : ℕ). record { cluster = k; at = x }) (c.there ∙ ap (reached (fat_entry y d) dir.no_fat_chain dir.first) (sym q.0)) (sym q.1)
