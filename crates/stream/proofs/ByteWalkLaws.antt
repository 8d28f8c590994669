-- A walk over bytes of a stream, turn by turn: what it stores and what it reads. Assumes nothing.
use mathlib.Core.Path.{◌≡◌, refl, sym, ◌∙◌, ap, subst}
use mathlib.Core.Bool.{Bool, true, false}
use mathlib.Core.List.{List}
use Prim.Native.Nat.{ℕ, ◌+◌, ◌-◌, ◌*◌, ◌/◌, ◌%◌, ◌≤◌, ◌<◌, min}
use native.Mathlib.Omega.{arith}
use lib.ListN.{length, take, drop, replicate, length-drop}
use lib.Seq.{drop-drop, take_all}
use Rattle.std.proofs.lemmas.List.{length-take, length-take-le}
use Rattle.primitives.specs.Splice.{splice}
use Rattle.primitives.proofs.SpliceLaws.{splice_whole}
use Rattle.tables.specs.Lists.{every}
use Rattle.boot.specs.declared.layout.Layout.{Layout}
use Rattle.boot.specs.Internal.{Laid}
use Rattle.boot.specs.Layout.{cluster_at, in_heap}
use Rattle.metadata.specs.Fat.{fat_entry}
use Rattle.metadata.specs.Cluster.{put_bytes}
use Rattle.metadata.proofs.Frame.{Fits}
use Rattle.stream.specs.declared.allocation.Allocation.{Allocation}
use Rattle.stream.specs.declared.bytes.ByteWalk.{ByteWalk}
use Rattle.stream.specs.Internal.{after, along, reached}
use Rattle.stream.specs.Internal.{byte_walk, piece_length, past_piece}
use Rattle.stream.specs.Bytes.{bytes_of, store_at}
use Rattle.stream.proofs.StreamLaws.{along_head, length-along}
use Rattle.stream.proofs.BytesSteps.{Sought, some_left, left_after, cluster_room, piece_is, splice-none, store_next, store_empty, take_zeros, drop_zeros, reach_none, reach_sum, reach_next, read_next, last_here, last_next, last_inside, last_from, length_bytes_of}
use Rattle.stream.proofs.RowLaws.{run_inside, store_run, read_run}

pub zeros_part : (m i n : ℕ) → i + m ≤ n → ◌≡◌ {A = List ℕ} (take m (drop i (replicate n 0))) (replicate m 0)
zeros_part m i n h = ap (take m) (drop_zeros i n (omega arith)) ∙ take_zeros m (n - i) (omega arith)

-- the part of n bytes of a list as code takes it, by its two ends
pub part_is : (bs : List ℕ) (from n : ℕ) → take (from + n - from) (drop from bs) ≡ take n (drop from bs)
part_is bs from n = ap (λ (k : ℕ). take k (drop from bs)) (omega arith)

pub length-part : (bs : List ℕ) (from n : ℕ) → length (take (from + n - from) (drop from bs)) ≤ n
length-part bs from n = rw (part_is bs from n) (omega (arith, length-take n (drop from bs)))

pub length-whole_part : (bs : List ℕ) (from n : ℕ) → from + n ≤ length bs → length (take (from + n - from) (drop from bs)) ≡ n
length-whole_part bs from n h = rw (part_is bs from n) (length-take-le n (drop from bs) (omega (arith, length-drop from bs)))

module _ (y : Layout) where
  -- bytes that are left of a walk stand in clusters of the heap, `left` of them from the walk's on
  pub record Stands (d : List ℕ) (c : ByteWalk) : Type 0 where
    pub left : ℕ
    pub low : c.at < y.size
    pub room : c.at + (c.end - c.from) ≤ left * y.size
    pub heap : every (in_heap y.count) (along (fat_entry y d) c.run c.cluster left) ≡ true

  pub length-run : (c : ByteWalk) → c.run ≡ true → piece_length y c ≡ c.end - c.from
  unfolding piece_length
  length-run c r = rw r refl

  pub length-chain : (c : ByteWalk) → c.run ≡ false → piece_length y c ≡ min (y.size - c.at) (c.end - c.from)
  unfolding piece_length
  length-chain c r = rw r refl

  pub length-piece : (c : ByteWalk) → piece_length y c ≤ c.end - c.from
  length-piece c = by c.run refl
    where
      by : (b : Bool) → c.run ≡ b → piece_length y c ≤ c.end - c.from
      by true r = omega (arith, length-run c r)
      by false r = omega (arith, length-chain c r)

  -- no piece goes past the end of the walk
  pub piece_whole : (c : ByteWalk) → c.from < c.end → c.from + piece_length y c ≤ c.end
  piece_whole c more = omega (arith, length-piece c)

  pub some_piece : (d : List ℕ) (c : ByteWalk) → Stands d c → c.from < c.end → 0 < piece_length y c
  some_piece d c s more = by c.run refl
    where
      by : (b : Bool) → c.run ≡ b → 0 < piece_length y c
      by true r = omega (arith, length-run c r)
      by false r = omega (arith, length-chain c r, s.low)

  -- nothing is left
  none_left : (d : List ℕ) (k : ℕ) (run : Bool) → every (in_heap y.count) (along (fat_entry y d) run k 0) ≡ true
  unfolding along every
  none_left d k run = refl

  -- the piece lies in the heap
  module _ (d : List ℕ) (l : Laid y) (long : length d ≡ y.len) (c : ByteWalk) (s : Stands d c) (more : c.from < c.end) where
    pub some : 0 < s.left
    some = some_left s.left y.size c.at (c.end - c.from) s.room (omega arith)

    pub in_first : in_heap y.count c.cluster ≡ true
    in_first = along_head (in_heap y.count) (fat_entry y d) c.run c.cluster s.left some s.heap

    pub piece_in : cluster_at y c.cluster + c.at + piece_length y c ≤ y.len
    piece_in = by c.run refl
      where
        by : (b : Bool) → c.run ≡ b → cluster_at y c.cluster + c.at + piece_length y c ≤ y.len
        by true r =
            let e = length-run c r in
            omega (arith, run_inside y d l long c.run r c.cluster s.left s.heap c.at (c.end - c.from) s.low (omega arith) s.room)
        by false r = omega (arith, length-chain c r, cluster_room y d l long c.cluster in_first, s.low)

  -- ---- a store

  -- what is left of a store of src makes e of the volume
  pub record Storing (d : List ℕ) (c : ByteWalk) (src e : List ℕ) : Type 0 where
    pub stands : Stands d c
    pub long : length d ≡ y.len
    pub whole : c.end ≡ length src
    pub goes : store_at y d (along (fat_entry y d) c.run c.cluster stands.left) c.at (drop c.from src) ≡ e

  pub storing_start : (d : List ℕ) (a : Allocation) (i : ℕ) (src : List ℕ) (c : ByteWalk)
      → Sought y d a.no_fat_chain a.first a.count i (length src) → length d ≡ y.len → c ≡ byte_walk y d a i (length src)
      → Storing d c src (store_at y d (along (fat_entry y d) a.no_fat_chain a.first a.count) i src)
  storing_start d a i src c s long e =
      let z : i % y.size + (length src - 0) ≤ (a.count - i / y.size) * y.size = omega (arith, s.room) in
      subst (λ (x : ByteWalk). Storing d x src (store_at y d (along (fat_entry y d) a.no_fat_chain a.first a.count) i src)) (sym e)
      (record { stands = record { left = a.count - i / y.size; low = s.place; room = z; heap = s.heap }; long = long; whole = refl; goes = s.stores src })

  pub storing_turn : (d : List ℕ) (w : Fits y d) (c : ByteWalk) (src e : List ℕ) (s : Storing d c src e) → c.from < c.end
      → (d' : List ℕ) (c' : ByteWalk) → length d' ≡ length d → d' ≡ put_bytes y d c.cluster c.at (take (piece_length y c) (drop c.from src)) → c' ≡ past_piece y d c
      → Storing d' c' src e
  storing_turn d w c src e s more d' c' long p q =
      subst (λ (x : ByteWalk). Storing d' x src e) (sym q) (by c.run refl)
    where
      n : ℕ
      n = piece_length y c

      bs : List ℕ
      bs = drop c.from src

      by : (b : Bool) → c.run ≡ b → Storing d' (past_piece y d c) src e
      by true r =
          let l = length-run c r in
          let t : take n bs ≡ bs = take_all n bs (omega (arith, length-drop c.from src, s.whole)) in
          let u = store_run y d w.laid w.long c.run r c.cluster s.stands.left s.stands.heap c.at (c.end - c.from) s.stands.low (omega arith) s.stands.room bs (omega (arith, length-drop c.from src, s.whole)) in
          record {
            stands = record { left = 0; low = omega (arith, s.stands.low); room = omega arith; heap = none_left d' _ c.run };
            long = long ∙ s.long;
            whole = s.whole;
            goes = store_empty y d' _ 0 _ (omega (arith, length-drop (c.from + n) src, s.whole)) ∙ p ∙ ap (put_bytes y d c.cluster c.at) t ∙ sym u ∙ s.goes;
          }
      by false r =
          let l = length-chain c r in
          let k = some d w.laid w.long c s.stands more in
          let t =
          store_next y d w c.run c.cluster s.stands.left k s.stands.heap c.at s.stands.low bs d' n (after (fat_entry y d) c.run c.cluster)
          (omega (arith, length-drop c.from src, s.whole)) p refl in
          let z : c.end - (c.from + n) ≡ c.end - c.from - n = omega arith in
          record {
            stands = record {
              left = s.stands.left - 1;
              low = omega (arith, s.stands.low);
              room = rw z (left_after s.stands.left y.size c.at (c.end - c.from) n s.stands.low s.stands.room l);
              heap = t.0;
            };
            long = long ∙ s.long;
            whole = s.whole;
            goes = ap (store_at y d' _ 0) (sym (drop-drop n c.from src)) ∙ t.1 ∙ s.goes;
          }

  pub storing_end : (d : List ℕ) (c : ByteWalk) (src e : List ℕ) → Storing d c src e → c.end ≤ c.from → d ≡ e
  storing_end d c src e s h = sym (store_empty y d _ c.at _ (omega (arith, length-drop c.from src, s.whole))) ∙ s.goes

  -- the cluster of the last byte of a chain: what is left leads to it, and at the end it is `last`
  pub record Reaching (d : List ℕ) (c : ByteWalk) (last e : ℕ) : Type 0 where
    pub ahead : c.from < c.end → reached (fat_entry y d) c.run c.cluster ((c.at + (c.end - c.from) - 1) / y.size) ≡ e
    pub there : c.end ≤ c.from → last ≡ e

  pub reaching_start : (d : List ℕ) (a : Allocation) (i n : ℕ) (c : ByteWalk) (last : ℕ) → 1 ≤ y.size → 1 ≤ n → c ≡ byte_walk y d a i n
      → Reaching d c last (reached (fat_entry y d) a.no_fat_chain a.first ((i + n - 1) / y.size))
  reaching_start d a i n c last low one e =
      let f = fat_entry y d in
      let k = reached f a.no_fat_chain a.first (i / y.size) in
      let t = last_from y.size i n low one in
      let u : i % y.size + (n - 0) - 1 ≡ i % y.size + n - 1 = omega arith in
      let z : (i % y.size + (n - 0) - 1) / y.size ≡ (i + n - 1) / y.size - i / y.size = ap (λ (x : ℕ). x / y.size) u ∙ omega (arith, t) in
      subst (λ (x : ByteWalk). Reaching d x last (reached f a.no_fat_chain a.first ((i + n - 1) / y.size))) (sym e)
      (record {
        ahead = λ h. ap (reached f a.no_fat_chain k) z ∙ reach_sum f a.no_fat_chain (i / y.size) a.first ((i + n - 1) / y.size) (omega (arith, t));
        there = λ h. absurd (omega arith);
      })

  pub reaching_turn : (d : List ℕ) (w : Fits y d) (c : ByteWalk) (s : Stands d c) (last e : ℕ) → c.run ≡ false → Reaching d c last e → c.from < c.end
      → (d' bs : List ℕ) (c' : ByteWalk) → length bs ≡ piece_length y c → d' ≡ put_bytes y d c.cluster c.at bs → c' ≡ past_piece y d c
      → Reaching d' c' c.cluster e
  reaching_turn d w c s last e r g more d' bs c' f p q =
      subst (λ (x : ByteWalk). Reaching d' x c.cluster e) (sym q) (record { ahead = onward; there = at_last })
    where
      n : ℕ
      n = piece_length y c

      m : ℕ
      m = c.end - c.from

      onward : c.from + n < c.end
          → reached (fat_entry y d') c.run (after (fat_entry y d) c.run c.cluster) ((0 + (c.end - (c.from + n)) - 1) / y.size) ≡ e
      onward h =
          let l = length-chain c r in
          let k = some d w.laid w.long c s more in
          let z : c.end - (c.from + n) ≡ m - (y.size - c.at) = omega arith in
          let t = last_next y.size c.at m s.low (omega arith) in
          let i = last_inside y.size c.at m s.low s.left s.room (omega arith) in
          rw z
          (reach_next y d w c.run c.cluster s.left k s.heap c.at s.low bs d' (after (fat_entry y d) c.run c.cluster)
          ((0 + (m - (y.size - c.at)) - 1) / y.size) (omega (arith, s.low)) p refl (omega (arith, t, i))
          ∙ ap (reached (fat_entry y d) c.run c.cluster) (sym t) ∙ g.ahead more)

      at_last : c.end ≤ c.from + n → c.cluster ≡ e
      at_last h =
          let l = length-chain c r in
          let t = last_here y.size c.at m s.low (omega arith) (omega arith) in
          sym (reach_none (fat_entry y d) c.run c.cluster ((c.at + m - 1) / y.size) (omega (arith, t))) ∙ g.ahead more

  -- ---- a reading

  -- what is left of a reading makes e of the list
  pub record Reading (d : List ℕ) (dst : List ℕ) (c : ByteWalk) (e : List ℕ) : Type 0 where
    pub stands : Stands d c
    pub fits : c.end ≤ length dst
    pub goes : splice dst c.from (take (c.end - c.from) (drop c.at (bytes_of y d (along (fat_entry y d) c.run c.cluster stands.left)))) ≡ e

  module _ (d : List ℕ) (l : Laid y) (long : length d ≡ y.len) where
    pub reading_start : (a : Allocation) (i : ℕ) (dst : List ℕ) (c : ByteWalk)
        → Sought y d a.no_fat_chain a.first a.count i (length dst) → c ≡ byte_walk y d a i (length dst)
        → Reading d dst c (take (length dst) (drop i (bytes_of y d (along (fat_entry y d) a.no_fat_chain a.first a.count))))
    reading_start a i dst c s e =
        let n = length dst in
        let k = reached (fat_entry y d) a.no_fat_chain a.first (i / y.size) in
        let m = a.count - i / y.size in
        let ks = along (fat_entry y d) a.no_fat_chain k m in
        let bs = drop (i % y.size) (bytes_of y d ks) in
        let z : i % y.size + (n - 0) ≤ m * y.size = omega (arith, s.room) in
        let u : n - 0 ≡ n = omega arith in
        let whole : length (bytes_of y d ks) ≡ m * y.size =
        length_bytes_of y d l long ks s.heap ∙ ap (λ (x : ℕ). x * y.size) (length-along (fat_entry y d) a.no_fat_chain k m) in
        let full : length (take n bs) ≡ n = length-take-le n bs (omega (arith, length-drop (i % y.size) (bytes_of y d ks), whole, s.room)) in
        subst (λ (x : ByteWalk). Reading d dst x (take n (drop i (bytes_of y d (along (fat_entry y d) a.no_fat_chain a.first a.count))))) (sym e)
        (record {
          stands = record { left = m; low = s.place; room = z; heap = s.heap };
          fits = omega arith;
          goes = rw u (splice_whole dst (take n bs) full ∙ ap (take n) s.reads);
        })

    pub reading_turn : (dst : List ℕ) (c : ByteWalk) (e : List ℕ) (s : Reading d dst c e) → c.from < c.end
        → (dst' : List ℕ) (c' : ByteWalk) → length dst' ≡ length dst
        → dst' ≡ splice dst c.from (take (piece_length y c) (drop (cluster_at y c.cluster + c.at) d)) → c' ≡ past_piece y d c → Reading d dst' c' e
    reading_turn dst c e s more dst' c' same p q =
        subst (λ (x : ByteWalk). Reading d dst' x e) (sym q) (by c.run refl)
      where
        n : ℕ
        n = piece_length y c

        by : (b : Bool) → c.run ≡ b → Reading d dst' (past_piece y d c) e
        by true r =
            let f = length-run c r in
            let u = read_run y d l long c.run r c.cluster s.stands.left s.stands.heap c.at (c.end - c.from) s.stands.low (omega arith) s.stands.room in
            record {
              stands = record { left = 0; low = omega (arith, s.stands.low); room = omega arith; heap = none_left d _ c.run };
              fits = omega (arith, s.fits);
              goes = splice-none dst' (c.from + n) (c.end - (c.from + n)) _ (omega arith) ∙ p
                  ∙ ap (λ (x : ℕ). splice dst c.from (take x (drop (cluster_at y c.cluster + c.at) d))) f ∙ ap (splice dst c.from) (sym u) ∙ s.goes;
            }
        by false r =
            let f = length-chain c r in
            let k = some d l long c s.stands more in
            let z : c.end - (c.from + n) ≡ c.end - c.from - n = omega arith in
            let t =
            read_next y d l long (fat_entry y d) c.run c.cluster s.stands.left k s.stands.heap c.at s.stands.low dst dst' c.from (c.end - c.from) n
            (after (fat_entry y d) c.run c.cluster) f (omega (arith, s.fits)) (p ∙ ap (splice dst c.from) (piece_is y d l long c.cluster c.at n (omega arith))) refl in
            record {
              stands = record {
                left = s.stands.left - 1;
                low = omega (arith, s.stands.low);
                room = rw z (left_after s.stands.left y.size c.at (c.end - c.from) n s.stands.low s.stands.room f);
                heap = t.0;
              };
              fits = omega (arith, s.fits);
              goes = rw z t.1 ∙ s.goes;
            }

    pub reading_end : (dst : List ℕ) (c : ByteWalk) (e : List ℕ) → Reading d dst c e → c.end ≤ c.from → dst ≡ e
    reading_end dst c e s h = sym (splice-none dst c.from (c.end - c.from) _ (omega arith)) ∙ s.goes
