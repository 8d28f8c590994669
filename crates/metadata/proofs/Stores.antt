-- The stores by the number of FATs, and what reads one after the other say. Assumes nothing.
use mathlib.Core.Path.{◌≡◌, refl, sym, ap, ◌∙◌}
use mathlib.Core.Bool.{Bool, true, false, cond, not, ◌&&◌}
use mathlib.Core.List.{List}
use Prim.Native.Nat.{ℕ, zero, suc, ◌+◌, ◌*◌, ◌≤◌, ◌<◌}
use native.Mathlib.Decide.{ℕ_discrete}
use native.Mathlib.Omega.{arith}
use lib.Dec.{eqb}
use lib.ListN.{set, take, drop}
use borrow.Author.Tests.{ne_eqb}
use Rattle.tables.proofs.Cases.{clash}
use Rattle.primitives.specs.Words.{put_le}
use Rattle.primitives.specs.Bits.{count_bits}
use Rattle.primitives.proofs.WordLaws.{get_part}
use Rattle.primitives.proofs.CountLaws.{count-take}
use Rattle.boot.specs.declared.geometry.Geometry.{Geometry}
use Rattle.boot.specs.declared.layout.Layout.{Layout}
use Rattle.boot.specs.declared.cause.Cause.{Cause}
use Rattle.boot.specs.Causes.{cause_number, admit_cause}
use Rattle.boot.proofs.CauseLaws.{cause-not0}
use Rattle.boot.proofs.Admission.{Admits}
use Rattle.std.specs.Prelude.{Option, Some, None, Ok, Err, is_some, is_none, MatchOption}
use Rattle.metadata.specs.Fat.{BAD, fat_entry, set_fat}
use Rattle.metadata.specs.Internal.{entry_of, first_bad}
use Rattle.metadata.specs.Marks.{marked, put_byte, allocated_count, free_count}
use Rattle.metadata.specs.Usable.{is_free, is_usable}
use Rattle.metadata.specs.Free.{free_answer, free_clusters}

-- ---- stores to one copy or two

module _ (y : Layout) (d : List ℕ) where
  pub fat_two : (k v : ℕ) → y.two ≡ true → set_fat y d k v ≡ put_le 4 (put_le 4 d (y.fat0 + 4 * k) v) (y.fat1 + 4 * k) v
  unfolding set_fat
  fat_two k v e = rw e refl

  pub fat_one : (k v : ℕ) → y.two ≡ false → set_fat y d k v ≡ put_le 4 d (y.fat0 + 4 * k) v
  unfolding set_fat
  fat_one k v e = rw e refl

  pub byte_two : (i b : ℕ) → y.two ≡ true → put_byte y d i b ≡ set (set d (y.bitmap0 + i) b) (y.bitmap1 + i) b
  unfolding put_byte
  byte_two i b e = rw e refl

  pub byte_one : (i b : ℕ) → y.two ≡ false → put_byte y d i b ≡ set d (y.bitmap0 + i) b
  unfolding put_byte
  byte_one i b e = rw e refl

  -- the count of the bitmap's part
  pub count_part : (n : ℕ) → y.count ≤ 8 * n → count_bits (take n (drop y.bitmap d)) y.count ≡ allocated_count y d
  unfolding allocated_count
  count_part n h = count-take (drop y.bitmap d) n y.count h

-- ---- the search for a bad entry

-- what `find` over the entries finds: the first that is bad
pub first_bad_is : (fat : ℕ → ℕ) (k n : ℕ) (r : Option ℕ)
    → MatchOption r ((j : ℕ) → k ≤ j → j < k + n → eqb (fat j) BAD ≡ false)
    (λ i. (k ≤ i) × (i < k + n) × (eqb (fat i) BAD ≡ true) × ((j : ℕ) → k ≤ j → j < i → eqb (fat j) BAD ≡ false))
    → r ≡ first_bad fat k n
unfolding first_bad
first_bad_is fat k zero None h = refl
first_bad_is fat k zero (Some i) h = absurd (omega (arith, h.0, h.1))
first_bad_is fat k (suc n) r h = by (first_bad_is fat (k + 1) n) (eqb (fat k) BAD) refl r h
  where
    by : ((r : Option ℕ)
        → MatchOption r ((j : ℕ) → k + 1 ≤ j → j < k + 1 + n → eqb (fat j) BAD ≡ false)
        (λ i. (k + 1 ≤ i) × (i < k + 1 + n) × (eqb (fat i) BAD ≡ true) × ((j : ℕ) → k + 1 ≤ j → j < i → eqb (fat j) BAD ≡ false))
        → r ≡ first_bad fat (k + 1) n)
        → (b : Bool) → eqb (fat k) BAD ≡ b → (r : Option ℕ)
        → MatchOption r ((j : ℕ) → k ≤ j → j < k + suc n → eqb (fat j) BAD ≡ false)
        (λ i. (k ≤ i) × (i < k + suc n) × (eqb (fat i) BAD ≡ true) × ((j : ℕ) → k ≤ j → j < i → eqb (fat j) BAD ≡ false))
        → r ≡ cond (eqb (fat k) BAD) (Some k) (first_bad fat (k + 1) n)
    by rest true e None h = clash (cc (e, h k (omega arith) (omega arith)))
    by rest true e (Some i) h =
        elim (ℕ_discrete i k) [
          | yes q ↦ rw (e, q) refl
          | no q ↦ clash (cc (e, h.3 k (omega arith) (omega (arith, h.0))))
        ]
    by rest false e None h = rw e (rest None (λ j a b. h j (omega arith) (omega arith)))
    by rest false e (Some i) h =
        elim (ℕ_discrete i k) [
          | yes q ↦ clash (cc (e, ap (λ (x : ℕ). eqb (fat x) BAD) (sym q) ∙ h.2))
          | no q ↦ rw e (rest (Some i) (omega (arith, h.0), omega (arith, h.1), h.2, λ j a b. h.3 j (omega arith) b))
        ]

-- only the entries that are searched matter
pub bad_cong : (fat fat' : ℕ → ℕ) (k n : ℕ) → ((j : ℕ) → k ≤ j → j < k + n → fat' j ≡ fat j) → first_bad fat' k n ≡ first_bad fat k n
unfolding first_bad
bad_cong fat fat' k zero h = refl
bad_cong fat fat' k (suc n) h =
    cc (h k (omega arith) (omega arith), bad_cong fat fat' (k + 1) n (λ j a b. h j (omega arith) (omega arith)))

-- an entry of the FAT's part is the volume's
pub bad_part : (y : Layout) (d : List ℕ) (a n k c : ℕ) → a ≡ y.fat → 4 * (k + c) ≤ n
    → first_bad (entry_of (take n (drop a d))) k c ≡ first_bad (fat_entry y d) k c
unfolding entry_of fat_entry
bad_part y d a n k c e h =
    rw e (bad_cong (fat_entry y d) (entry_of (take n (drop y.fat d))) k c (λ j l b. get_part 4 d y.fat n (4 * j) (omega arith)))

-- what the library's `is_none` says of an option
pub none_is : (o : Option ℕ) (r : Bool) → is_some o ≡ not r → r ≡ is_none o
none_is None true e = refl
none_is None false e = clash (cc e)
none_is (Some x) true e = clash (cc e)
none_is (Some x) false e = refl

-- ---- usable

module _ (y : Layout) (d m : List ℕ) (k : ℕ) where
  pub free_marked : marked y d k ≡ true → is_free y d m k ≡ false
  unfolding is_free
  free_marked e = rw e refl

  pub usable-not_free : is_free y d m k ≡ false → is_usable y d m k ≡ false
  unfolding is_usable
  usable-not_free e = rw e refl

  -- by whether the search of one entry found none
  pub usable_bad : is_free y d m k ≡ true → is_none (first_bad (fat_entry y d) k 1) ≡ is_usable y d m k
  unfolding is_usable first_bad
  usable_bad e = by (eqb (fat_entry y d k) BAD) refl
    where
      by : (b : Bool) → eqb (fat_entry y d k) BAD ≡ b → is_none (cond (eqb (fat_entry y d k) BAD) (Some k) None) ≡ is_free y d m k && not (eqb (fat_entry y d k) BAD)
      by true r = rw (e, r) refl
      by false r = rw (e, r) refl

-- ---- the free count

pub free_refused : (g : Geometry) (d m : List ℕ) (e : Cause) → cause_number e ≡ admit_cause g d m → free_answer (Err e) ≡ free_clusters g d m
unfolding free_answer free_clusters
free_refused g d m e q = rw (← q, ne_eqb (cause_number e) 0 (cause-not0 e)) refl

pub free_is : (g : Geometry) (d m : List ℕ) (y : Layout) → Admits g d m y → free_answer (Ok (free_count y d)) ≡ free_clusters g d m
unfolding free_answer free_clusters
free_is g d m y a = rw (a.cause, a.is) refl
