-- Marks, links and takings, as the code meets them. Assumes nothing.
use mathlib.Core.Path.{◌≡◌, refl, sym, ◌∙◌, ap}
use mathlib.Core.Logic.{◌≢◌}
use mathlib.Core.Bool.{true, false, or-true}
use mathlib.Core.List.{List, [], ◌∷◌}
use Prim.Native.Nat.{ℕ, zero, suc, ◌+◌, ◌-◌, ◌%◌, ◌≤◌, ◌<◌}
use native.Mathlib.Decide.{dec_le, ℕ_discrete}
use native.Mathlib.Numerals.{sub-one, add-one}
use native.Mathlib.Omega.{arith}
use lib.Dec.{eqb, leb}
use lib.ListN.{length, take}
use borrow.Author.Tests.{eq-eqb, ne_eqb, eqb-true, leb-true}
use Rattle.tables.specs.Count.{keep}
use Rattle.tables.proofs.Cases.{and_left, and_right}
use Rattle.tables.proofs.CountLaws.{keep_cong}
use Rattle.boot.specs.declared.layout.Layout.{Layout}
use Rattle.boot.specs.Internal.{Laid, Apart}
use Rattle.boot.specs.Layout.{in_heap}
use Rattle.boot.proofs.Apart.{in_heap_lem, heap_in}
use Rattle.metadata.specs.Fat.{set_fat}
use Rattle.metadata.specs.Marks.{marked, set_mark, mark_run}
use Rattle.metadata.specs.Usable.{is_usable}
use Rattle.metadata.proofs.RowLaws.{row_append}
use Rattle.search.specs.Search.{fewest}
use Rattle.search.proofs.Lowest.{fewest_bounds, fewest_before}
use Rattle.metadata.proofs.Frame.{Fits, fits_kept, length_mark, mark_mark_same, mark_mark_other, mark_fat}
use Rattle.metadata.proofs.Counting.{usable_mark_other, usable_fat_marked, usable_fat_other}
use Rattle.write_alloc.specs.declared.take.Taken.{Taken}
use Rattle.tables.specs.Lists.{last_or}
use Rattle.write_alloc.specs.Take.{link_run, take_single, take_each}
use Rattle.write_alloc.specs.Internal.{prev_taken, taken_from, taken_of, whole_byte}

module _ (y : Layout) (d : List ℕ) where
  pub mark_none : (k n : ℕ) → n ≤ 0 → mark_run y d k n ≡ d
  unfolding mark_run
  mark_none k zero h = refl
  mark_none k (suc n) h = absurd (omega arith)

  pub mark_step : (k n : ℕ) → 0 < n → mark_run y d k n ≡ mark_run y (set_mark y d k true) (k + 1) (n - 1)
  unfolding mark_run
  mark_step k zero h = absurd (omega arith)
  mark_step k (suc n) h = rw sub-one refl

  -- eight at once
  pub mark_eight : (k n : ℕ) → 8 ≤ n → mark_run y d k n ≡ mark_run y (mark_run y d k 8) (k + 8) (n - 8)
  mark_eight k n h =
      let q : n ≡ 8 + (n - 8) = omega arith in
      ap (mark_run y d k) q ∙ row_append y d k 8 (n - 8)

  pub link-none : (k n : ℕ) → n ≤ 0 → link_run y d k n ≡ d
  unfolding link_run
  link-none k zero h = refl
  link-none k (suc n) h = absurd (omega arith)

  pub link-step : (k n : ℕ) → 0 < n → link_run y d k n ≡ link_run y (set_fat y d k (k + 1)) (k + 1) (n - 1)
  unfolding link_run
  link-step k zero h = absurd (omega arith)
  link-step k (suc n) h = rw sub-one refl

  pub one_first : (prev k : ℕ) → prev ≡ 0 → take_single y d prev k ≡ set_mark y d k true
  unfolding take_single
  one_first prev k e = rw (eq-eqb prev 0 e) refl

  pub one_more : (prev k : ℕ) → prev ≢ 0 → take_single y d prev k ≡ set_fat y (set_mark y d k true) prev k
  unfolding take_single
  one_more prev k n = rw (ne_eqb prev 0 n) refl

-- ---- one cluster taken

module _ (y : Layout) (d : List ℕ) (w : Fits y d) where
  marked_fits : (k : ℕ) → Fits y (set_mark y d k true)
  marked_fits k = fits_kept y d (set_mark y d k true) (length_mark y d k true) w

  -- the one before it is taken, where there is one
  prev_marked : (prev : ℕ) → prev ≢ 0 → prev_taken y d prev ≡ true → marked y d prev ≡ true
  unfolding prev_taken
  prev_marked prev n e = rw (ne_eqb prev 0 n) at e

  module _ (prev k : ℕ) (h : in_heap y.count k ≡ true) (b : prev < y.count + 2) (t : prev_taken y d prev ≡ true) where
    -- the others stay usable or not
    pub one-usable : (m : List ℕ) (j : ℕ) → in_heap y.count j ≡ true → j ≢ k → is_usable y (take_single y d prev k) m j ≡ is_usable y d m j
    one-usable m j i n =
        elim (ℕ_discrete prev 0) [
          | yes e ↦ rw (one_first y d prev k e) marks
          | no e ↦ rw (one_more y d prev k e) (links e ∙ marks)
        ]
      where
        marks : is_usable y (set_mark y d k true) m j ≡ is_usable y d m j
        marks = usable_mark_other y d w m k true j h i n

        still : prev ≢ 0 → 2 ≤ prev → marked y (set_mark y d k true) prev ≡ true
        still e l =
            elim (ℕ_discrete prev k) [
              | yes q ↦ rw q (mark_mark_same y d w k true h)
              | no q ↦ mark_mark_other y d w k true prev h (heap_in y.count prev l b) q ∙ prev_marked prev e t
            ]

        links : prev ≢ 0 → is_usable y (set_fat y (set_mark y d k true) prev k) m j ≡ is_usable y (set_mark y d k true) m j
        links e =
            let r = in_heap_lem y.count j i in
            elim (dec_le 2 prev) [
              | yes l ↦ usable_fat_marked y (set_mark y d k true) (marked_fits k) m prev k j b (still e l) r.1
              | no l ↦ usable_fat_other y (set_mark y d k true) (marked_fits k) m prev k j b r.1 (omega arith)
            ]

-- and it is taken then
pub one_taken : (y : Layout) (d e : List ℕ) (prev k : ℕ) → Laid y → Apart y → length d ≡ y.len → 2 ≤ k → k < y.count + 2 → prev < y.count + 2
    → e ≡ take_single y d prev k → prev_taken y e k ≡ true
unfolding prev_taken
one_taken y d e prev k a z n l h b q = rw (q, now) (or-true (eqb k 0))
  where
    w : Fits y d
    w = record { laid = a; apart = z; long = n }

    marks : marked y (set_mark y d k true) k ≡ true
    marks = mark_mark_same y d w k true (heap_in y.count k l h)

    now : marked y (take_single y d prev k) k ≡ true
    now =
        elim (ℕ_discrete prev 0) [
          | yes e ↦ rw (one_first y d prev k e) marks
          | no e ↦ rw (one_more y d prev k e) (mark_fat y (set_mark y d k true) (marked_fits y d w k) prev k k b ∙ marks)
        ]

-- ---- the clusters that are taken, from the front

take-nil : (n : ℕ) → ◌≡◌ {A = List ℕ} (take n []) []
take-nil zero = refl
take-nil (suc n) = refl

module _ (y : Layout) (d m : List ℕ) (k end : ℕ) where
  taken_none : (n : ℕ) → end ≤ k → taken_from y d m k end n ≡ []
  unfolding taken_from keep
  taken_none n h = let q : end - k ≡ zero = omega arith in rw q (take-nil n)

  taken_zero : taken_from y d m k end 0 ≡ []
  unfolding taken_from
  taken_zero = refl

  taken_no : (n : ℕ) → k < end → is_usable y d m k ≡ false → taken_from y d m k end n ≡ taken_from y d m (k + 1) end n
  unfolding taken_from keep
  taken_no n h e = let q : end - k ≡ suc (end - (k + 1)) = omega arith in rw (q, e, add-one k) refl

  taken_yes : (n : ℕ) → k < end → 0 < n → is_usable y d m k ≡ true → taken_from y d m k end n ≡ k ∷ taken_from y d m (k + 1) end (n - 1)
  unfolding taken_from keep
  taken_yes zero h p e = absurd (omega arith)
  taken_yes (suc n) h p e = let q : end - k ≡ suc (end - (k + 1)) = omega arith in rw (q, e, add-one k, sub-one) refl

-- only what is usable matters
pub taken_cong : (y : Layout) (d d' m : List ℕ) (k end n : ℕ) → ((j : ℕ) → k ≤ j → j < end → is_usable y d' m j ≡ is_usable y d m j)
    → taken_from y d' m k end n ≡ taken_from y d m k end n
unfolding taken_from
taken_cong y d d' m k end n h =
    ap (take n) (keep_cong (is_usable y d m) (is_usable y d' m) k (end - k) (λ j a b. h j a (omega arith)))

-- ---- the whole of the taking, as the loop goes on

pub record Took : Type 0 where
  pub bytes : List ℕ
  pub taken : Taken

-- what is left to do from cluster k on
unfoldable pub takes : Layout → List ℕ → List ℕ → ℕ → ℕ → ℕ → ℕ → Took
takes y d m end k prev left =
    let ks = taken_from y d m k end left in
    record { bytes = take_each y d prev ks; taken = taken_of (record { prev = prev; left = left }) ks }

abbrev still : List ℕ → ℕ → ℕ → Took
still d prev left = record { bytes = d; taken = record { prev = prev; left = left } }

module _ (y : Layout) (d m : List ℕ) (end k prev left : ℕ) where
  takes_nil : taken_from y d m k end left ≡ [] → takes y d m end k prev left ≡ still d prev left
  unfolding takes take_each last_or
  takes_nil e = let q : left - 0 ≡ left = omega arith in rw e (ap (λ (x : ℕ). still d prev x) q)

  pub takes_end : end ≤ k → takes y d m end k prev left ≡ still d prev left
  takes_end h = takes_nil (taken_none y d m k end left h)

  pub takes_done : left ≡ 0 → takes y d m end k prev left ≡ still d prev left
  takes_done e = takes_nil (rw e (taken_zero y d m k end))

  takes_no : k < end → is_usable y d m k ≡ false → takes y d m end k prev left ≡ takes y d m end (k + 1) prev left
  unfolding takes
  takes_no h e = rw (taken_no y d m k end left h e) refl

  pub takes_yes : Laid y → Apart y → length d ≡ y.len → 2 ≤ k → k < end → end ≤ y.count + 2 → 0 < left → prev < y.count + 2
      → prev_taken y d prev ≡ true → is_usable y d m k ≡ true
      → takes y d m end k prev left ≡ takes y (take_single y d prev k) m end (k + 1) k (left - 1)
  unfolding takes take_each last_or
  takes_yes a z n l h f p b t e =
      rw (taken_yes y d m k end left h p e, same)
      (λ i. record { bytes = rest; taken = record { prev = last_or k ks; left = more i } })
    where
      w : Fits y d
      w = record { laid = a; apart = z; long = n }

      ks : List ℕ
      ks = taken_from y (take_single y d prev k) m (k + 1) end (left - 1)

      rest : List ℕ
      rest = take_each y (take_single y d prev k) k ks

      same : taken_from y d m (k + 1) end (left - 1) ≡ ks
      same =
          sym (taken_cong y d (take_single y d prev k) m (k + 1) end (left - 1)
          (λ j g i. one-usable y d w prev k (heap_in y.count k l (omega arith)) b t m j (heap_in y.count j (omega arith) (omega arith)) (omega arith)))

      more : left - suc (length ks) ≡ left - 1 - length ks
      more = omega arith

-- on to the first cluster that is usable
pub takes_past : (y : Layout) (d m : List ℕ) (end k prev left next : ℕ) → k ≤ end → next ≡ fewest (is_usable y d m) (end - k) k
    → takes y d m end k prev left ≡ takes y d m end next prev left
takes_past y d m end k prev left next h e =
    let b = fewest_bounds (is_usable y d m) (end - k) k in
    over (next - k) k (omega arith) (λ j a t. fewest_before (is_usable y d m) (end - k) k j a (omega arith))
    ∙ ap (λ (x : ℕ). takes y d m end x prev left) (omega arith)
  where
    over : (i k : ℕ) → k + i ≤ end → ((j : ℕ) → k ≤ j → j < k + i → is_usable y d m j ≡ false)
        → takes y d m end k prev left ≡ takes y d m end (k + i) prev left
    over zero k h f = ap (λ (x : ℕ). takes y d m end x prev left) (omega arith)
    over (suc i) k h f =
        takes_no y d m end k prev left (omega arith) (f k (omega arith) (omega arith))
        ∙ over i (k + 1) (omega arith) (λ j a b. f j (omega arith) (omega arith)) ∙ ap (λ (x : ℕ). takes y d m end x prev left) (omega arith)

pub byte_yes : (k left : ℕ) → whole_byte k left ≡ true → (8 ≤ left) × ((k - 2) % 8 ≡ 0)
unfolding whole_byte
byte_yes k left e = (
  leb-true 8 left (and_left (leb 8 left) (eqb ((k - 2) % 8) 0) e),
  eqb-true ((k - 2) % 8) 0 (and_right (leb 8 left) (eqb ((k - 2) % 8) 0) e),
)

-- where it has come to its end, what is taken and where that led
pub took : (y : Layout) (d m : List ℕ) (end k prev left : ℕ) (e : List ℕ) (p l : ℕ) → still e p l ≡ takes y d m end k prev left
    → (e ≡ take_each y d prev (taken_from y d m k end left))
    × (◌≡◌ {A = Taken} (record { prev = p; left = l }) (taken_of (record { prev = prev; left = left }) (taken_from y d m k end left)))
unfolding takes
took y d m end k prev left e p l q = (ap (λ (t : Took). t.bytes) q, ap (λ (t : Took). t.taken) q)
