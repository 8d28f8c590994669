-- Before the first type 0, gone along entry by entry and cluster by cluster. Assumes nothing.
use mathlib.Core.Path.{◌≡◌, refl, sym, ◌∙◌, ap, ap₂}
use mathlib.Core.Logic.{◌≢◌}
use mathlib.Core.Bool.{Bool, true, false, not, ◌&&◌, and-true, and_assoc}
use mathlib.Core.List.{List, [], ◌∷◌, ◌++◌}
use Prim.Native.Nat.{ℕ, zero, suc, ◌+◌, ◌-◌, ◌*◌, ◌/◌, ◌%◌, ◌≤◌, ◌<◌}
use native.Mathlib.Decide.{dec_le}
use native.Mathlib.Nat.{suc-mul}
use native.Mathlib.Omega.{arith}
use lib.Dec.{eqb}
use lib.ListN.{length, get_or, take, drop, get_or-append, length-append, length-take, length-drop}
use lib.Seq.{get_or-append-add, get_or-take, get_or-drop}
use Rattle.tables.specs.Lists.{every}
use Rattle.tables.proofs.Cases.{not_so}
use Rattle.boot.specs.declared.layout.Layout.{Layout}
use Rattle.boot.specs.Layout.{in_heap}
use Rattle.metadata.specs.Fat.{fat_entry}
use Rattle.metadata.proofs.Frame.{Fits}
use Rattle.stream.specs.declared.allocation.Allocation.{Allocation}
use Rattle.stream.specs.Internal.{after, along}
use Rattle.stream.specs.Bytes.{cluster_bytes, bytes_of, bytes_in}
use Rattle.stream.specs.Stream.{number_of, stream_of}
use Rattle.stream.proofs.StreamLaws.{along-step, along_head, along_rest}
use Rattle.stream.proofs.BytesSteps.{length_cluster}
use Rattle.search.specs.Search.{all_from}
use Rattle.search.proofs.Runs.{all_none}
use Rattle.std.specs.Prelude.{Some, None}
use Rattle.std.specs.Iterator.{AlwaysYields}
use Rattle.std.specs.Slice.Iter.{chunks_exact_size, chunks_exact_rest, chunks_exact_steps}
use Rattle.std.specs.List.{list_all}
use Rattle.std.proofs.lemmas.List.{take_at, drop_at, take-append-drop}
use Rattle.directory.specs.declared.entries.Cursor.{Cursor}
use Rattle.directory.specs.Entries.{entry_count, type_at, before_end}
use Rattle.directory.specs.Internal.{entry_place, slot_entry}
use Rattle.directory.proofs.CursorLaws.{bytes_along, dir_heap, entries_is}

-- ---- entry by entry

module _ (bs : List ℕ) where
  abbrev on : ℕ → Bool
  on j = not (eqb (type_at bs j) 0)

  pub before_none : before_end bs 0 ≡ true
  unfolding before_end
  before_none = all_none on 0 0 refl

  before_suc : (i : ℕ) → before_end bs (suc i) ≡ (before_end bs i && not (eqb (type_at bs i) 0))
  unfolding before_end all_from
  before_suc i = let z : 0 + i ≡ i = omega arith in rw z refl

-- ---- of two lists joined

module _ (xs ys : List ℕ) where
  type_front : (i : ℕ) → 32 * i < length xs → type_at (xs ++ ys) i ≡ type_at xs i
  unfolding type_at
  type_front i h = get_or-append xs ys 0 (32 * i) h

  type_back : (p i : ℕ) → length xs ≡ 32 * p → type_at (xs ++ ys) (p + i) ≡ type_at ys i
  unfolding type_at
  type_back p i h =
      let z : 32 * (p + i) ≡ length xs + 32 * i = omega arith in
      ap (λ (x : ℕ). get_or (xs ++ ys) x 0) z ∙ get_or-append-add xs ys (32 * i) 0

  before_front : (n : ℕ) → 32 * n ≤ length xs → before_end (xs ++ ys) n ≡ before_end xs n
  before_front zero h = before_none (xs ++ ys) ∙ sym (before_none xs)
  before_front (suc n) h =
      before_suc (xs ++ ys) n
      ∙ ap₂ (λ (a : Bool) (t : ℕ). a && not (eqb t 0)) (before_front n (omega arith)) (type_front n (omega arith)) ∙ sym (before_suc xs n)

  before_join : (p n : ℕ) → length xs ≡ 32 * p → before_end (xs ++ ys) (p + n) ≡ (before_end xs p && before_end ys n)
  before_join p zero h =
      let z : p + zero ≡ p = omega arith in
      ap (before_end (xs ++ ys)) z ∙ before_front p (omega arith) ∙ sym (ap (λ (b : Bool). before_end xs p && b) (before_none ys) ∙ and-true (before_end xs p))
  before_join p (suc n) h =
      let z : p + suc n ≡ suc (p + n) = omega arith in
      ap (before_end (xs ++ ys)) z
      ∙ before_suc (xs ++ ys) (p + n)
      ∙ ap₂ (λ (a : Bool) (t : ℕ). a && not (eqb t 0)) (before_join p n h) (type_back p n h)
      ∙ and_assoc (before_end xs p) (before_end ys n) (not (eqb (type_at ys n) 0))
      ∙ ap (λ (b : Bool). before_end xs p && b) (sym (before_suc ys n))

-- ---- two entries a turn

-- n chunks of 64 bytes
unfoldable pub chunks : ℕ → List ℕ → List (List ℕ)
chunks zero bs = []
chunks (suc n) bs = take 64 bs ∷ chunks n (drop 64 bs)

-- neither entry of a chunk has type 0
abbrev pub both_on : List ℕ → Bool
both_on e = not (eqb (get_or e 0 0) 0) && not (eqb (get_or e 32 0) 0)

pub chunks_give : (n : ℕ) (s : _) → chunks_exact_size {T = ℕ} s ≡ 64 → 64 * n ≤ length (chunks_exact_rest s) → length (chunks_exact_rest s) < 64 * n + 64
    → AlwaysYields chunks_exact_steps (λ x. x.now) s (chunks n (chunks_exact_rest s))
unfolding chunks
chunks_give zero s z l h = λ x j q. omega (arith, q.1.1, simp length-append at (ap length q.1.0))
chunks_give (suc n) s z l h = (
  λ j q. omega (arith, q.1),
  λ x j q.
      let e : chunks_exact_rest s ≡ x.now ++ chunks_exact_rest j = q.1.0 in
      let f : drop 64 (chunks_exact_rest s) ≡ chunks_exact_rest j = ap (drop 64) e ∙ drop_at x.now (chunks_exact_rest j) 64 (omega (arith, q.1.1)) in
      let k = simp length-append at (ap length e) in (
        sym (ap (take 64) e ∙ take_at x.now (chunks_exact_rest j) 64 (omega (arith, q.1.1))),
        rw f (chunks_give n j (q.0 ∙ z) (omega (arith, q.1.1, k)) (omega (arith, q.1.1, k))),
      ),
)

before_two : (xs : List ℕ) → before_end xs 2 ≡ both_on xs
unfolding type_at
before_two xs = rw (before_suc xs 1, before_suc xs 0, before_none xs) refl

pub chunks_all : (n : ℕ) (bs : List ℕ) → 64 * n ≤ length bs → list_all both_on (chunks n bs) ≡ before_end bs (2 * n)
unfolding chunks
chunks_all zero bs h = sym (before_none bs)
chunks_all (suc n) bs h =
    let z : 2 + 2 * n ≡ 2 * suc n = omega arith in
    ap₂ (λ (a b : Bool). a && b) (sym (before_two (take 64 bs))) (chunks_all n (drop 64 bs) (simp length-drop (omega arith)))
    ∙ sym (before_join (take 64 bs) (drop 64 bs) 2 (2 * n) (simp length-take (omega arith)))
    ∙ ap₂ before_end (take-append-drop 64 bs) z

-- n entries, two a turn, and the last of an odd number by itself
module _ (bs : List ℕ) (n : ℕ) (l : 32 * n ≤ length bs) (r : Bool) (a : r ≡ list_all both_on (chunks (n / 2) (take (32 * n) bs))) where
  halves : r ≡ before_end bs (2 * (n / 2))
  halves =
      a ∙ chunks_all (n / 2) (take (32 * n) bs) (simp length-take (omega arith))
      ∙ sym (before_front (take (32 * n) bs) (drop (32 * n) bs) (2 * (n / 2)) (simp length-take (omega arith)))
      ∙ ap (λ (x : List ℕ). before_end x (2 * (n / 2))) (take-append-drop (32 * n) bs)

  even : n % 2 ≡ 0 → r ≡ before_end bs n
  even e = halves ∙ ap (before_end bs) (omega arith)

  odd : n % 2 ≡ 1 → (r && not (eqb (type_at bs (2 * (n / 2))) 0)) ≡ before_end bs n
  odd e =
      ap (λ (b : Bool). b && not (eqb (type_at bs (2 * (n / 2))) 0)) halves ∙ sym (before_suc bs (2 * (n / 2))) ∙ ap (before_end bs) (omega arith)

  pub pairs_no : r ≡ false → r ≡ before_end bs n
  pairs_no f =
      elim (dec_le (n % 2) 0) [
        | yes b ↦ even (omega arith)
        | no b ↦ f ∙ (ap (λ (b : Bool). b && not (eqb (type_at bs (2 * (n / 2))) 0)) (sym f) ∙ odd (omega arith))
      ]

  module _ (f : r ≡ true) (last : List ℕ) (e : last ≡ drop (length (take (32 * n) bs) - length (take (32 * n) bs) % 64) (take (32 * n) bs))
      (m : length last ≡ length (take (32 * n) bs) % 64) where
    whole : length (take (32 * n) bs) ≡ 32 * n
    whole = simp length-take (omega arith)

    pub pairs_even : length last ≡ 0 → true ≡ before_end bs n
    pairs_even z = sym f ∙ even (omega (arith, whole))

    pub pairs_odd : length last ≢ 0 → not (eqb (get_or last 0 0) 0) ≡ before_end bs n
    unfolding type_at
    pairs_odd z =
        let i : length (take (32 * n) bs) - length (take (32 * n) bs) % 64 + 0 ≡ 32 * (2 * (n / 2)) = omega (arith, whole) in
        let g : get_or last 0 0 ≡ get_or bs (32 * (2 * (n / 2))) 0 =
        ap (λ (x : List ℕ). get_or x 0 0) e ∙ get_or-drop (length (take (32 * n) bs) - length (take (32 * n) bs) % 64) (take (32 * n) bs) 0 0
        ∙ ap (λ (x : ℕ). get_or (take (32 * n) bs) x 0) i ∙ get_or-take (32 * n) bs (32 * (2 * (n / 2))) 0 (omega (arith, whole)) in
        ap (λ (x : ℕ). not (eqb x 0)) g ∙ ap (λ (b : Bool). b && not (eqb (get_or bs (32 * (2 * (n / 2))) 0) 0)) (sym f) ∙ odd (omega (arith, whole))

-- ---- cluster by cluster

-- the entries before a slot that are left: as many of those from cluster k on, in `clusters` clusters
pub record Ahead (y : Layout) (d : List ℕ) (dir : Allocation) (slot k left : ℕ) : Type 0 where
  pub clusters : ℕ
  pub heap : every (in_heap y.count) (along (fat_entry y d) dir.no_fat_chain k clusters) ≡ true
  pub room : left ≤ clusters * (y.size / 32)
  pub same : before_end (bytes_of y d (along (fat_entry y d) dir.no_fat_chain k clusters)) left ≡ before_end (bytes_in y d dir) slot

module _ (y : Layout) (d : List ℕ) (w : Fits y d) (dir : Allocation) where
  abbrev fat : ℕ → ℕ
  fat = fat_entry y d

  abbrev run : Bool
  run = dir.no_fat_chain

  abbrev per : ℕ
  per = y.size / 32

  pub ahead_first : (slot : ℕ) → number_of (stream_of y d dir) ≡ 0 → slot ≤ entry_count (bytes_in y d dir) → Ahead y d dir slot dir.first slot
  ahead_first slot reads h = record {
    clusters = dir.count;
    heap = dir_heap y d w dir reads;
    room = omega (arith, entries_is y d w dir reads);
    same = ap (λ (l : List ℕ). before_end l slot) (sym (bytes_along y d w dir reads));
  }

  module _ (slot k left : ℕ) (a : Ahead y d dir slot k left) where
    pub ahead_none : left ≡ 0 → before_end (bytes_in y d dir) slot ≡ true
    ahead_none z = sym a.same ∙ ap (before_end (bytes_of y d (along fat run k a.clusters))) z ∙ before_none (bytes_of y d (along fat run k a.clusters))

    module _ (some : 0 < left) where
      more : (n : ℕ) → left ≤ n * per → 0 < n
      more zero h = absurd (omega arith)
      more (suc n) h = omega arith

      low : 0 < a.clusters
      low = more a.clusters a.room

      pub ahead_heap : in_heap y.count k ≡ true
      ahead_heap = along_head (in_heap y.count) fat run k a.clusters low a.heap

      abbrev rest : List ℕ
      rest = bytes_of y d (along fat run (after fat run k) (a.clusters - 1))

      long : length (cluster_bytes y d k) ≡ 32 * per
      long = length_cluster y d w.laid w.long k ahead_heap ∙ sym w.laid.whole

      split : before_end (cluster_bytes y d k ++ rest) left ≡ before_end (bytes_in y d dir) slot
      split =
          ap (λ (l : List ℕ). before_end l left)
          (sym (ap (bytes_of y d) (along-step fat run k a.clusters low) ∙ (unfold bytes_of in refl))) ∙ a.same

      pub ahead_last : left ≤ per → before_end (cluster_bytes y d k) left ≡ before_end (bytes_in y d dir) slot
      ahead_last h = sym (before_front (cluster_bytes y d k) rest left (omega (arith, long))) ∙ split

      module _ (h : per ≤ left) where
        joined : (before_end (cluster_bytes y d k) per && before_end rest (left - per)) ≡ before_end (bytes_in y d dir) slot
        joined =
            let z : per + (left - per) ≡ left = omega arith in
            sym (before_join (cluster_bytes y d k) rest per (left - per) long) ∙ ap (before_end (cluster_bytes y d k ++ rest)) z ∙ split

        fewer : (n : ℕ) → left ≤ n * per → left - per ≤ (n - 1) * per
        fewer zero b = omega arith
        fewer (suc n) b =
            let q : suc n - 1 ≡ n = omega arith in
            rw q (omega (arith, suc-mul n per))

        pub ahead_next : (next : ℕ) → next ≡ after fat run k → before_end (cluster_bytes y d k) per ≡ true → Ahead y d dir slot next (left - per)
        ahead_next next q e =
            rw q (record {
              clusters = a.clusters - 1;
              heap = along_rest (in_heap y.count) fat run k a.clusters low a.heap;
              room = fewer a.clusters a.room;
              same = ap (λ (b : Bool). b && before_end rest (left - per)) (sym e) ∙ joined;
            })

        pub ahead_not : before_end (cluster_bytes y d k) per ≡ false → before_end (bytes_in y d dir) slot ≡ false
        ahead_not e = sym joined ∙ ap (λ (b : Bool). b && before_end rest (left - per)) e

    -- the entries in the slot's own cluster
    pub ahead_end : left < per → before_end (cluster_bytes y d k) left ≡ before_end (bytes_in y d dir) slot
    ahead_end h =
        elim (dec_le 1 left) [
          | yes b ↦ ahead_last b (omega arith)
          | no b ↦
              let z : left ≡ 0 = omega arith in
              ap (before_end (cluster_bytes y d k)) z ∙ before_none (cluster_bytes y d k) ∙ sym (ahead_none z)
        ]

-- the entry of a slot by what stands before it
module _ (y : Layout) (d : List ℕ) (dir : Allocation) (slot : ℕ) where
  pub slot_ends : before_end (bytes_in y d dir) slot ≡ false → None ≡ slot_entry y d dir slot
  unfolding slot_entry
  slot_ends e = rw e refl

  pub slot_stands : before_end (bytes_in y d dir) slot ≡ true → Some (entry_place y d dir slot) ≡ slot_entry y d dir slot
  unfolding slot_entry
  slot_stands e = rw e refl

  -- what the answer says
  pub slot_none : slot_entry y d dir slot ≡ None → before_end (bytes_in y d dir) slot ≡ false
  slot_none z = not_so (before_end (bytes_in y d dir) slot) (λ e. let t = slot_stands e in cc)

  pub slot_some : (e : Cursor) → slot_entry y d dir slot ≡ Some e → (e ≡ entry_place y d dir slot) × (before_end (bytes_in y d dir) slot ≡ true)
  slot_some e z = by (before_end (bytes_in y d dir) slot) refl
    where
      by : (b : Bool) → before_end (bytes_in y d dir) slot ≡ b → (e ≡ entry_place y d dir slot) × (before_end (bytes_in y d dir) slot ≡ true)
      by true q = (let t = slot_stands q in cc, q)
      by false q = (let t = slot_ends q in cc, let t = slot_ends q in cc)
