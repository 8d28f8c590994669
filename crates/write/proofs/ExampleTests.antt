-- A consistent volume by tests that compute: bs are the root's bytes, n its entries, and each cluster of a stream has that stream's slot
-- as its owner, the root's clusters n. Assumes nothing.
use mathlib.Core.Path.{◌≡◌, sym, ◌∙◌}
use mathlib.Core.Bool.{Bool, true, false, ◌&&◌, not, false≢true}
use mathlib.Core.List.{List}
use Prim.Native.Nat.{ℕ, ◌+◌, ◌*◌, ◌/◌, ◌%◌, ◌^◌, ◌≤◌, ◌<◌}
use native.Mathlib.Decide.{dec_lt}
use native.Mathlib.Omega.{arith}
use lib.Dec.{eqb, leb, ltb}
use lib.ListN.{length, get_or, get_or-eq_default}
use borrow.Author.Tests.{eqb-true, leb-true, not-true, lt-ltb, eq-eqb}
use Rattle.primitives.specs.Bits.{bit_of}
use Rattle.tables.specs.Lists.{Mem, every}
use Rattle.tables.proofs.Cases.{not_so, and_left, and_right, and_both}
use Rattle.tables.proofs.ListLaws.{every_mem}
use Rattle.boot.specs.declared.geometry.Geometry.{Geometry}
use Rattle.boot.specs.Limits.{limits}
use Rattle.boot.specs.Layout.{in_heap}
use Rattle.metadata.specs.Marks.{marked}
use Rattle.search.specs.Search.{all_from}
use Rattle.search.proofs.Lowest.{all_whole}
use Rattle.directory.specs.Directory.{directory_cause}
use Rattle.stream.specs.Stream.{clusters_in}
use Rattle.directory.specs.Entries.{type_at, in_use, before_end, is_file, entries_at, set_at, is_sound}
use Rattle.directory.specs.Open.{file_record, stream_cause}
use Rattle.write.specs.Consistent.{Consistent, lay, root, root_clusters, root_bytes, file_at, set_of, stream_at, file_clusters}
use Rattle.write.specs.Demand.{Lost}

-- a test that is to be passed where another one is
unfoldable pub implies : Bool → Bool → Bool
implies true b = b
implies false b = true

implied : (a b : Bool) → implies a b ≡ true → a ≡ true → b ≡ true
unfolding implies
implied true b e p = e
implied false b e p = absurd (false≢true p)

-- cluster k belongs to i
unfoldable pub owns : List ℕ → ℕ → ℕ → Bool
owns owners i k = eqb (get_or owners k 0) i

-- a file entry at slot i is sound, its stream is read, and it owns the stream's clusters
unfoldable pub slot_test : Geometry → List ℕ → List ℕ → List ℕ → List ℕ → ℕ → Bool
slot_test g m d bs owners i =
    implies (is_file bs i)
    (is_sound (lay g d).count (lay g d).size bs i
    && (eqb (stream_cause (lay g d) d m (file_record (lay g d) d (set_at bs i))) 0
    && every (owns owners i) (clusters_in (lay g d) d (file_record (lay g d) d (set_at bs i)))))

-- slots i and j, i before j: after a type 0 none is in use, and sets don't overlap
unfoldable pub pair_test : List ℕ → ℕ → ℕ → Bool
pair_test bs i j =
    implies (ltb i j)
    (implies (eqb (type_at bs i) 0) (not (in_use bs j))
    && implies (is_file bs i && is_file bs j) (leb (i + entries_at bs i) j))

-- all tests are passed
pub record Passed (g : Geometry) (m d bs owners : List ℕ) (n : ℕ) : Type 0 where
  pub limits_hold : limits g (length d) m ≡ true
  pub root_reads : directory_cause (lay g d) d (root g d) ≡ 0
  pub root_owned : every (owns owners n) (root_clusters g d) ≡ true
  pub whole : length bs ≡ 32 * n
  pub slots : all_from (slot_test g m d bs owners) 0 n ≡ true
  pub pairs : all_from (λ i. all_from (pair_test bs i) 0 n) 0 n ≡ true

-- past the end, type bytes are 0
type_past : (bs : List ℕ) (n i : ℕ) → length bs ≡ 32 * n → n ≤ i → type_at bs i ≡ 0
unfolding type_at
type_past bs n i e l = get_or-eq_default bs 0 {n = 32 * i} (omega arith)

-- a slot with a file entry is one of the n
file_below : (bs : List ℕ) (n i : ℕ) → length bs ≡ 32 * n → is_file bs i ≡ true → i < n
unfolding is_file
file_below bs n i e f =
    elim (dec_lt i n) [
      | yes l ↦ l
      | no l ↦ (
          let t : type_at bs i ≡ 0x85 = eqb-true (type_at bs i) 0x85 (and_right (before_end bs i) (eqb (type_at bs i) 0x85) f) in
          absurd (omega (arith, type_past bs n i e (omega arith))))
    ]

-- and so is one in use
use_below : (bs : List ℕ) (n i : ℕ) → length bs ≡ 32 * n → in_use bs i ≡ true → i < n
unfolding in_use bit_of
use_below bs n i e u =
    elim (dec_lt i n) [
      | yes l ↦ l
      | no l ↦ (
          let t : type_at bs i / 2 ^ 7 % 2 ≡ 1 = eqb-true (type_at bs i / 2 ^ 7 % 2) 1 u in
          absurd (omega (arith, type_past bs n i e (omega arith))))
    ]

module _ (g : Geometry) (m d owners : List ℕ) (n : ℕ) (p : Passed g m d (root_bytes g d) owners n) where
  below : (i : ℕ) → file_at g d i ≡ true → i < n
  unfolding file_at
  below i f = file_below (root_bytes g d) n i p.whole f

  abbrev sound_at : ℕ → Bool
  sound_at i = is_sound (lay g d).count (lay g d).size (root_bytes g d) i

  abbrev read_at : ℕ → Bool
  read_at i = eqb (stream_cause (lay g d) d m (stream_at g d i)) 0

  abbrev own_at : ℕ → Bool
  own_at i = every (owns owners i) (file_clusters g d i)

  slot : (i : ℕ) → file_at g d i ≡ true → (sound_at i && (read_at i && own_at i)) ≡ true
  unfolding slot_test file_at set_of stream_at file_clusters
  slot i f =
      implied (is_file (root_bytes g d) i) (sound_at i && (read_at i && own_at i))
      (all_whole (slot_test g m d (root_bytes g d) owners) 0 n p.slots i (omega arith) (omega (arith, below i f))) f

  reads : (i : ℕ) → file_at g d i ≡ true → (read_at i && own_at i) ≡ true
  reads i f = and_right (sound_at i) (read_at i && own_at i) (slot i f)

  owner : (i : ℕ) → file_at g d i ≡ true → (k : ℕ) → Mem k (file_clusters g d i) → get_or owners k 0 ≡ i
  unfolding owns
  owner i f k h =
      eqb-true (get_or owners k 0) i (every_mem (owns owners i) (file_clusters g d i) (and_right (read_at i) (own_at i) (reads i f)) k h)

  root_owner : (k : ℕ) → Mem k (root_clusters g d) → get_or owners k 0 ≡ n
  unfolding owns
  root_owner k h = eqb-true (get_or owners k 0) n (every_mem (owns owners n) (root_clusters g d) p.root_owned k h)

  -- a marked cluster that belongs to none of them
  pub passed_lost : (k : ℕ) → in_heap (lay g d).count k ≡ true → marked (lay g d) d k ≡ true → n < get_or owners k 0 → Lost g d k
  passed_lost k h e o = record {
    heap = h;
    mark = e;
    off_root = λ q. omega (arith, root_owner k q);
    off_files = λ i f q. omega (arith, below i f, owner i f k q);
  }

  abbrev end_at : ℕ → ℕ → Bool
  end_at i j = implies (eqb (type_at (root_bytes g d) i) 0) (not (in_use (root_bytes g d) j))

  abbrev both_files : ℕ → ℕ → Bool
  both_files i j = is_file (root_bytes g d) i && is_file (root_bytes g d) j

  abbrev apart_at : ℕ → ℕ → Bool
  apart_at i j = implies (both_files i j) (leb (i + entries_at (root_bytes g d) i) j)

  pair : (i j : ℕ) → i < j → j < n → (end_at i j && apart_at i j) ≡ true
  unfolding pair_test
  pair i j l h =
      let row = all_whole (λ i. all_from (pair_test (root_bytes g d) i) 0 n) 0 n p.pairs i (omega arith) (omega arith) in
      implied (ltb i j) (end_at i j && apart_at i j)
      (all_whole (pair_test (root_bytes g d) i) 0 n row j (omega arith) (omega arith)) (lt-ltb i j l)

  pub passed_consistent : Consistent g m d
  passed_consistent = record {
    limits_hold = p.limits_hold;
    root_reads = p.root_reads;
    sound = λ i f. and_left (sound_at i) (read_at i && own_at i) (slot i f);
    streams_read = λ i f. eqb-true (stream_cause (lay g d) d m (stream_at g d i)) 0 (and_left (read_at i) (own_at i) (reads i f));
    streams_apart = λ i j f h o k a b. o (sym (owner i f k a) ∙ owner j h k b);
    root_apart = λ i f k a b. omega (arith, below i f, owner i f k a, root_owner k b);
    ended = ended;
    sets_apart = apart;
  }
    where
      ended : (i j : ℕ) → i < j → type_at (root_bytes g d) i ≡ 0 → in_use (root_bytes g d) j ≡ false
      ended i j l t = not_so (in_use (root_bytes g d) j) (λ u. false≢true (sym (off u) ∙ u))
        where
          off : in_use (root_bytes g d) j ≡ true → in_use (root_bytes g d) j ≡ false
          off u =
              not-true (in_use (root_bytes g d) j)
              (implied (eqb (type_at (root_bytes g d) i) 0) (not (in_use (root_bytes g d) j))
              (and_left (end_at i j) (apart_at i j) (pair i j l (use_below (root_bytes g d) n j p.whole u)))
              (eq-eqb (type_at (root_bytes g d) i) 0 t))

      apart : (i j : ℕ) → file_at g d i ≡ true → file_at g d j ≡ true → i < j → i + entries_at (root_bytes g d) i ≤ j
      apart i j f h l =
          leb-true (i + entries_at (root_bytes g d) i) j
          (implied (both_files i j) (leb (i + entries_at (root_bytes g d) i) j)
          (and_right (end_at i j) (apart_at i j) (pair i j l (below j h)))
          (and_both (is_file (root_bytes g d) i) (is_file (root_bytes g d) j) (unfold file_at in f) (unfold file_at in h)))
