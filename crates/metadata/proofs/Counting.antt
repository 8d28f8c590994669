-- Counts of clusters: the marked ones, as the free count counts them, and the usable ones. Assumes nothing.
use mathlib.Core.Path.{◌≡◌, refl, sym, ◌∙◌, ap₂}
use mathlib.Core.Logic.{◌≢◌}
use mathlib.Core.Bool.{Bool, true, false, ◌&&◌, not}
use mathlib.Core.List.{List}
use Prim.Native.Nat.{ℕ, zero, suc, ◌+◌, ◌-◌, ◌/◌, ◌%◌, ◌^◌, ◌≤◌, ◌<◌}
use native.Mathlib.Decide.{ℕ_discrete}
use native.Mathlib.Omega.{arith}
use lib.Dec.{eqb}
use lib.ListN.{get_or, drop}
use lib.Seq.{get_or-drop}
use Rattle.primitives.specs.Bits.{bit_of, bit_at, count_bits}
use Rattle.tables.specs.Count.{one, count}
use Rattle.tables.proofs.CountLaws.{count_le, count_cong, count_last, count_split}
use Rattle.boot.specs.declared.layout.Layout.{Layout}
use Rattle.boot.specs.Limits.{in_map}
use Rattle.boot.specs.Layout.{in_heap}
use borrow.Author.Tests.{not-true, eqb-false}
use Rattle.tables.proofs.Cases.{and_left, and_right}
use Rattle.boot.proofs.Apart.{in_heap_lem}
use Rattle.metadata.specs.Fat.{BAD, fat_entry, set_fat}
use Rattle.metadata.specs.Marks.{mark_byte, marked, set_mark, allocated_count, free_count}
use Rattle.metadata.specs.Usable.{is_free, is_usable}
use Rattle.metadata.proofs.Frame.{Fits, fat_fat_other, mark_fat, mark_mark_other, fat_mark}
use Rattle.metadata.proofs.Stores.{usable-not_free, free_marked}

-- how many clusters are marked, and how many may be taken
unfoldable pub marked_count : Layout → List ℕ → ℕ
marked_count y d = count (marked y d) 2 y.count

unfoldable pub usable_count : Layout → List ℕ → List ℕ → ℕ
usable_count y d m = count (is_usable y d m) 2 y.count

-- ---- the ones of the bitmap are the marked clusters

-- 0 or 1 as a test
bit_one : (b : ℕ) → b < 2 → one (eqb b 1) ≡ b
bit_one zero h = refl
bit_one (suc zero) h = refl
bit_one (suc (suc b)) h = absurd (omega arith)

mark_bit : (y : Layout) (d : List ℕ) (n : ℕ) → bit_at (drop y.bitmap d) n ≡ one (marked y d (2 + n))
unfolding bit_at bit_of marked mark_byte
mark_bit y d n =
    let e : 2 + n - 2 ≡ n = omega arith in
    let b = get_or d (y.bitmap + n / 8) 0 / 2 ^ (n % 8) % 2 in
    rw (e, get_or-drop y.bitmap d (n / 8) 0) (sym (bit_one b (omega arith)))

bits_marked : (y : Layout) (d : List ℕ) (n : ℕ) → count_bits (drop y.bitmap d) n ≡ count (marked y d) 2 n
unfolding count_bits count
bits_marked y d zero = refl
bits_marked y d (suc n) = ap₂ ◌+◌ (bits_marked y d n) (mark_bit y d n) ∙ sym (count_last (marked y d) 2 n)

pub allocated_is : (y : Layout) (d : List ℕ) → allocated_count y d ≡ marked_count y d
unfolding allocated_count marked_count
allocated_is y d = bits_marked y d y.count

pub free_is_unmarked : (y : Layout) (d : List ℕ) → free_count y d + marked_count y d ≡ y.count
unfolding free_count marked_count
free_is_unmarked y d = omega (arith, allocated_is y d, count_le (marked y d) 2 y.count)

-- ---- a store's effect on the counts

module _ (y : Layout) (d : List ℕ) (w : Fits y d) where
  pub fat_counts : (k v : ℕ) → k < y.count + 2 → marked_count y (set_fat y d k v) ≡ marked_count y d
  unfolding marked_count
  fat_counts k v h = count_cong (marked y d) (marked y (set_fat y d k v)) 2 y.count (λ j l b. mark_fat y d w k v j h)

  -- ---- and on which clusters may be taken

  pub usable_mark_other : (m : List ℕ) (k : ℕ) (on : Bool) (j : ℕ) → in_heap y.count k ≡ true → in_heap y.count j ≡ true → j ≢ k
      → is_usable y (set_mark y d k on) m j ≡ is_usable y d m j
  unfolding is_usable is_free
  usable_mark_other m k on j h i n = rw (mark_mark_other y d w k on j h i n, fat_mark y d w k on j (in_heap_lem y.count j i).1) refl

  pub usable_fat_other : (m : List ℕ) (k v j : ℕ) → k < y.count + 2 → j < y.count + 2 → j ≢ k
      → is_usable y (set_fat y d k v) m j ≡ is_usable y d m j
  unfolding is_usable is_free
  usable_fat_other m k v j h i n = rw (mark_fat y d w k v j h, fat_fat_other y d w k v j h i n) refl

  -- the entry of a marked cluster does not matter: it may not be taken, before or after
  pub usable_fat_marked : (m : List ℕ) (k v j : ℕ) → k < y.count + 2 → marked y d k ≡ true → j < y.count + 2
      → is_usable y (set_fat y d k v) m j ≡ is_usable y d m j
  usable_fat_marked m k v j h e i =
      elim (ℕ_discrete j k) [
        | yes q ↦ rw q
            (usable-not_free y (set_fat y d k v) m k (free_marked y (set_fat y d k v) m k (mark_fat y d w k v k h ∙ e))
            ∙ sym (usable-not_free y d m k (free_marked y d m k e)))
        | no n ↦ usable_fat_other m k v j h i n
      ]

-- ---- the usable clusters

-- what holds of one
pub usable_facts : (y : Layout) (d m : List ℕ) (k : ℕ) → is_usable y d m k ≡ true
    → (marked y d k ≡ false) × (in_map m k ≡ false) × (fat_entry y d k ≢ BAD)
unfolding is_usable is_free
usable_facts y d m k e =
    let a = not (marked y d k) in
    let b = not (in_map m k) in
    let z = not (eqb (fat_entry y d k) BAD) in
    let f = and_left (a && b) z e in (
      not-true (marked y d k) (and_left a b f),
      not-true (in_map m k) (and_right a b f),
      eqb-false (fat_entry y d k) BAD (not-true (eqb (fat_entry y d k) BAD) (and_right (a && b) z e)),
    )

module _ (y : Layout) (d m : List ℕ) where
  -- never more than the free count says
  pub usable_free : usable_count y d m ≤ free_count y d
  unfolding usable_count marked_count
  usable_free =
      omega (arith, free_is_unmarked y d, count_split (is_usable y d m) (marked y d) 2 y.count (λ k e. (usable_facts y d m k e).0))
