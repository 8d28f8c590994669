-- A row of clusters tested at once: its marks, the system map and the FAT's entries. Assumes nothing.
use mathlib.Core.Path.{◌≡◌, refl, sym, ◌∙◌, ap}
use mathlib.Core.Bool.{Bool, true, false, cond, not, ◌&&◌, and_assoc}
use mathlib.Core.List.{List}
use Prim.Native.Nat.{ℕ, zero, suc, ◌+◌, ◌-◌, ◌*◌, ◌/◌, ◌%◌, ◌≤◌, ◌<◌}
use native.Mathlib.Omega.{arith}
use borrow.Author.Tests.{eqb-true}
use lib.Dec.{eqb}
use lib.ListN.{get_or, take, drop}
use lib.Seq.{get_or-take, get_or-drop}
use Rattle.primitives.specs.Bits.{bit_at}
use Rattle.primitives.specs.Internal.{bit_is}
use Rattle.primitives.proofs.ByteLaws.{zero_byte}
use Rattle.tables.proofs.Cases.{and_left, and_right}
use Rattle.std.specs.Prelude.{Some, is_none}
use Rattle.search.specs.Search.{all_from}
use Rattle.search.proofs.Runs.{all_first, all_shift}
use Rattle.boot.specs.declared.layout.Layout.{Layout}
use Rattle.boot.specs.Limits.{in_map}
use Rattle.metadata.specs.Fat.{BAD, fat_entry}
use Rattle.metadata.specs.Marks.{mark_byte, marked}
use Rattle.metadata.specs.Usable.{is_free, is_usable}
use Rattle.metadata.specs.Internal.{first_bad, none_refused, byte_unmarked}

-- a bit of the bitmap's part is the cluster's mark
pub bit_mark : (y : Layout) (d : List ℕ) (c i : ℕ) → i < 8 * c → bit_is (take c (drop y.bitmap d)) 1 i ≡ marked y d (i + 2)
unfolding bit_is bit_at marked mark_byte
bit_mark y d c i h =
    let e : i + 2 - 2 ≡ i = omega arith in
    rw (e, get_or-take c (drop y.bitmap d) (i / 8) 0 (omega arith), get_or-drop y.bitmap d (i / 8) 0) refl

-- the test of the bitmap's part
pub marks_part : (y : Layout) (d : List ℕ) (c k n : ℕ) → 2 ≤ k → k - 2 + n ≤ 8 * c
    → all_from (λ j. not (bit_is (take c (drop y.bitmap d)) 1 j)) (k - 2) n ≡ all_from (λ j. not (marked y d j)) k n
marks_part y d c k n l h =
    let e : k - 2 + 2 ≡ k = omega arith in
    all_shift _ (λ j. not (marked y d j)) 2 (k - 2) n (λ j a b. ap not (bit_mark y d c j (omega arith))) ∙ ap (λ (x : ℕ). all_from (λ j. not (marked y d j)) x n) e

-- the test of the map
pub map-all : (m : List ℕ) (k n : ℕ) → 2 ≤ k → all_from (λ j. not (bit_is m 1 j)) (k - 2) n ≡ all_from (λ j. not (in_map m j)) k n
unfolding bit_is in_map
map-all m k n l =
    let e : k - 2 + 2 ≡ k = omega arith in
    all_shift _ (λ j. not (in_map m j)) 2 (k - 2) n (λ j a b. let q : j ≡ j + 2 - 2 = omega arith in ap (λ (x : ℕ). not (bit_is m 1 x)) q)
    ∙ ap (λ (x : ℕ). all_from (λ j. not (in_map m j)) x n) e

-- two tests at once
all-and : (p q : ℕ → Bool) (k n : ℕ) → all_from (λ j. p j && q j) k n ≡ all_from p k n && all_from q k n
unfolding all_from
all-and p q k zero = refl
all-and p q k (suc n) = ap (λ b. b && (p (k + n) && q (k + n))) (all-and p q k n) ∙ swap (all_from p k n) (all_from q k n) (p (k + n)) (q (k + n))
  where
    swap : (a b c e : Bool) → (a && b) && (c && e) ≡ (a && c) && (b && e)
    swap true true c e = refl
    swap true false true e = refl
    swap true false false e = refl
    swap false b c e = refl

-- the search for a bad entry finds none where none is bad
pub bad_all : (fat : ℕ → ℕ) (k n : ℕ) → is_none (first_bad fat k n) ≡ all_from (λ j. not (eqb (fat j) BAD)) k n
unfolding first_bad all_from
bad_all fat k zero = refl
bad_all fat k (suc n) = by (bad_all fat (k + 1) n) (eqb (fat k) BAD) refl ∙ sym (all_first (λ j. not (eqb (fat j) BAD)) k n)
  where
    by : is_none (first_bad fat (k + 1) n) ≡ all_from (λ j. not (eqb (fat j) BAD)) (k + 1) n → (b : Bool) → eqb (fat k) BAD ≡ b
        → is_none (cond (eqb (fat k) BAD) (Some k) (first_bad fat (k + 1) n)) ≡ not (eqb (fat k) BAD) && all_from (λ j. not (eqb (fat j) BAD)) (k + 1) n
    by rest true e = rw e refl
    by rest false e = rw e rest

module _ (y : Layout) (d m : List ℕ) (k n : ℕ) where
  pub usable-all : all_from (is_usable y d m) k n ≡ all_from (λ j. not (marked y d j)) k n && none_refused y d m k n
  unfolding is_usable is_free none_refused
  usable-all =
      all-and (λ j. not (marked y d j) && not (in_map m j)) (λ j. not (eqb (fat_entry y d j) BAD)) k n
      ∙ ap (λ b. b && all_from (λ j. not (eqb (fat_entry y d j) BAD)) k n) (all-and (λ j. not (marked y d j)) (λ j. not (in_map m j)) k n)
      ∙ and_assoc (all_from (λ j. not (marked y d j)) k n) (all_from (λ j. not (in_map m j)) k n) (all_from (λ j. not (eqb (fat_entry y d j) BAD)) k n)

-- ---- a byte of none marked

module _ (y : Layout) (d : List ℕ) (k : ℕ) where
  -- its eight clusters are unmarked
  pub byte_each : byte_unmarked y d k ≡ true → (j : ℕ) → 2 ≤ j → k < j + 8 → j ≤ k → marked y d j ≡ false
  unfolding byte_unmarked marked mark_byte
  byte_each e j a b t =
      let r = eqb-true ((k - 2) % 8) 7 (and_left (eqb ((k - 2) % 8) 7) (eqb (get_or d (y.bitmap + (k - 2) / 8) 0) 0) e) in
      let z = eqb-true (get_or d (y.bitmap + (k - 2) / 8) 0) 0 (and_right (eqb ((k - 2) % 8) 7) (eqb (get_or d (y.bitmap + (k - 2) / 8) 0) 0) e) in
      let q : (j - 2) / 8 ≡ (k - 2) / 8 = omega arith in
      rw (q, z, zero_byte ((j - 2) % 8) (omega arith)) refl
