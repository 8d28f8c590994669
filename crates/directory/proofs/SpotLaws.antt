-- Where a set stands in a directory. Assumes nothing.
use mathlib.Core.Path.{◌≡◌, refl, sym, ◌∙◌, ap, ap₂}
use mathlib.Core.Bool.{Bool, true}
use mathlib.Core.List.{List, [], ◌∷◌}
use Prim.Native.Nat.{ℕ, zero, suc, ◌+◌, ◌-◌, ◌*◌, ◌/◌, ◌%◌, ◌≤◌, ◌<◌}
use native.Mathlib.Decide.{dec_le}
use native.Mathlib.Nat.{mul-le-mul_right}
use native.Mathlib.Omega.{arith}
use lib.ListN.{length, get_or, drop, length-drop}
use lib.Seq.{get_or-drop}
use Rattle.tables.specs.Lists.{every}
use Rattle.tables.proofs.ListLaws.{every_head, every_tail}
use Rattle.boot.specs.declared.layout.Layout.{Layout}
use Rattle.boot.specs.Internal.{Laid}
use Rattle.boot.specs.Layout.{in_heap}
use Rattle.metadata.specs.Fat.{fat_entry}
use Rattle.stream.specs.declared.allocation.Allocation.{Allocation}
use Rattle.stream.specs.Stream.{number_of, stream_of, clusters_in}
use Rattle.stream.specs.Internal.{after, along, reached}
use Rattle.stream.specs.Bytes.{store_at}
use Rattle.stream.proofs.ListingLaws.{along_heap}
use Rattle.stream.proofs.BytesSteps.{every_drop, drop-along, every_before, every_from, place_is, place_low, place_count, place_room, store_empty, store_over}
use Rattle.stream.proofs.BytesLaws.{store_front}
use Rattle.directory.proofs.DirectoryLaws.{clusters_along, clusters_heap, clusters_length}
use Rattle.directory.specs.Internal.{spot_of, spot_clusters, Reaches}

-- ---- a spot located

module _ (fat : ℕ → ℕ) (run : Bool) where
  pub second_of : (k n : ℕ) → 1 < n → get_or (along fat run k n) 1 0 ≡ after fat run k
  unfolding along
  second_of k zero h = absurd (omega arith)
  second_of k (suc zero) h = absurd (omega arith)
  second_of k (suc (suc n)) h = refl

  pub second_none : (k n : ℕ) → n ≤ 1 → get_or (along fat run k n) 1 0 ≡ 0
  unfolding along
  second_none k zero h = refl
  second_none k (suc zero) h = refl
  second_none k (suc (suc n)) h = absurd (omega arith)

  -- the clusters from the second one on
  pub along_second : (k n : ℕ) → 1 ≤ n → along fat run (get_or (along fat run k n) 1 0) (n - 1) ≡ drop 1 (along fat run k n)
  unfolding along
  along_second k zero h = absurd (omega arith)
  along_second k (suc zero) h = refl
  along_second k (suc (suc n)) h = let e : suc (suc n) - 1 ≡ suc n = omega arith in rw e refl

  pub first_of : (k n : ℕ) → 1 ≤ n → get_or (along fat run k n) 0 0 ≡ k
  unfolding along
  first_of k zero h = absurd (omega arith)
  first_of k (suc n) h = refl

-- a product of the same number that is less
mul_less : (m n s : ℕ) → m * s < n * s → m < n
mul_less m n s h =
    elim (dec_le n m) [
      | yes b ↦ absurd (omega (arith, mul-le-mul_right {m = n} {n = m} s b))
      | no b ↦ omega arith
    ]

-- the cluster of a byte that a stream has
pub record Inside (y : Layout) (d : List ℕ) (a : Allocation) (slot : ℕ) : Type 0 where
  pub steps : 32 * slot / y.size < a.count
  pub before : every (in_heap y.count) (along (fat_entry y d) a.no_fat_chain a.first (32 * slot / y.size)) ≡ true
  pub heap : every (in_heap y.count)
      (along (fat_entry y d) a.no_fat_chain (reached (fat_entry y d) a.no_fat_chain a.first (32 * slot / y.size)) (a.count - 32 * slot / y.size)) ≡ true

module _ (y : Layout) (d : List ℕ) (a : Allocation) (slot : ℕ) (l : Laid y) (e : number_of (stream_of y d a) ≡ 0) (h : 32 * slot < a.count * y.size) where
  pub slot_inside : Inside y d a slot
  slot_inside =
      let s : 1 ≤ y.size = omega (arith, l.size_low) in
      let p = place_is (32 * slot) 1 a.count y.size s (omega arith) in
      let c : 32 * slot / y.size < a.count = mul_less (32 * slot / y.size) a.count y.size (omega arith) in
      record {
        steps = c;
        before = every_before (fat_entry y d) a.no_fat_chain (in_heap y.count) (32 * slot / y.size) a.first a.count (omega arith) (along_heap y d a e);
        heap = every_from (fat_entry y d) a.no_fat_chain (in_heap y.count) (32 * slot / y.size) a.first a.count (omega arith) (along_heap y d a e);
      }

  -- the spot from clusters found one after the other
  pub spot_found : (first second third left : ℕ) → left ≡ a.count - 32 * slot / y.size
      → first ≡ reached (fat_entry y d) a.no_fat_chain a.first (32 * slot / y.size)
      → second ≡ get_or (along (fat_entry y d) a.no_fat_chain first left) 1 0
      → third ≡ get_or (along (fat_entry y d) a.no_fat_chain second (left - 1)) 1 0
      → record { first = first; second = second; third = third; at = 32 * slot % y.size } ≡ spot_of y d a slot
  unfolding spot_of
  spot_found first second third left u f s t =
      let i = slot_inside.steps in
      let fat = fat_entry y d in
      let run = a.no_fat_chain in
      let n : ℕ = 32 * slot / y.size in
      let ks : List ℕ = drop n (clusters_in y d a) in
      let q : along fat run first left ≡ ks =
      ap₂ (along fat run) f u ∙ sym (drop-along fat run n a.first a.count) ∙ ap (drop n) (sym (clusters_along y d a e)) in
      let one : first ≡ get_or ks 0 0 = sym (first_of fat run first left (omega arith)) ∙ ap (λ (r : List ℕ). get_or r 0 0) q in
      let two : second ≡ get_or ks 1 0 = s ∙ ap (λ (r : List ℕ). get_or r 1 0) q in
      let three : third ≡ get_or ks 2 0 =
      t ∙ ap (λ (x : ℕ). get_or (along fat run x (left - 1)) 1 0) s
      ∙ ap (λ (r : List ℕ). get_or r 1 0) (along_second fat run first left (omega arith)) ∙ get_or-drop 1 (along fat run first left) 1 0
      ∙ ap (λ (r : List ℕ). get_or r 2 0) q in
      λ z. record { first = one z; second = two z; third = three z; at = 32 * slot % y.size }

-- the clusters from the second one on are in the heap
pub second_heap : (C : ℕ) (fat : ℕ → ℕ) (run : Bool) (k n second : ℕ) → 1 ≤ n → second ≡ get_or (along fat run k n) 1 0
    → every (in_heap C) (along fat run k n) ≡ true → every (in_heap C) (along fat run second (n - 1)) ≡ true
second_heap C fat run k n second h s e =
    ap (λ (x : ℕ). every (in_heap C) (along fat run x (n - 1))) s ∙ ap (every (in_heap C)) (along_second fat run k n h)
    ∙ every_drop (in_heap C) 1 (along fat run k n) e

-- ---- the spot of a slot of a directory that reads

every_at : (p : ℕ → Bool) (ks : List ℕ) (i : ℕ) → every p ks ≡ true → i < length ks → p (get_or ks i 0) ≡ true
every_at p [] i e h = absurd (omega arith)
every_at p (k ∷ ks) zero e h = every_head p k ks e
every_at p (k ∷ ks) (suc i) e h = every_at p ks i (every_tail p k ks e) (omega arith)

pub spot_reaches : (y : Layout) (d : List ℕ) (a : Allocation) (slot n : ℕ) → Laid y → number_of (stream_of y d a) ≡ 0
    → 32 * (slot + n) ≤ a.count * y.size → n ≤ 19 → Reaches y (spot_of y d a slot) n
unfolding spot_of
spot_reaches y d a slot n l e h f =
    let s : 1 ≤ y.size = omega (arith, l.size_low) in
    let at : ℕ = 32 * slot in
    let steps : ℕ = at / y.size in
    let room = place_room at (32 * n) a.count y.size s (omega arith) in
    let c = place_count at (32 * n) a.count y.size s (omega arith) in
    let ks : List ℕ = drop steps (clusters_in y d a) in
    let g : every (in_heap y.count) ks ≡ true = every_drop (in_heap y.count) steps (clusters_in y d a) (clusters_heap y d a e) in
    let m : length ks ≡ a.count - steps = length-drop steps (clusters_in y d a) ∙ ap (λ (x : ℕ). x - steps) (clusters_length y d a e) in
    record {
      inside = place_low at (32 * n) a.count y.size s (omega arith);
      few = f;
      one = λ b. every_at (in_heap y.count) ks 0 g (omega (arith, m, mul_less 0 (a.count - steps) y.size (omega arith)));
      two = λ b. every_at (in_heap y.count) ks 1 g (omega (arith, m, mul_less 1 (a.count - steps) y.size (omega arith)));
      three = λ b. every_at (in_heap y.count) ks 2 g (omega (arith, m, mul_less 2 (a.count - steps) y.size (omega arith)));
    }

-- on every volume a store at the spot is a store in the directory's clusters
pub spot_store : (y : Layout) (d : List ℕ) (a : Allocation) (slot : ℕ) → Laid y → (e bs : List ℕ) → length bs ≤ 608
    → 32 * slot + length bs ≤ length (clusters_in y d a) * y.size
    → store_at y e (spot_clusters (spot_of y d a slot)) (spot_of y d a slot).at bs ≡ store_at y e (clusters_in y d a) (32 * slot) bs
unfolding spot_of spot_clusters
spot_store y d a slot l e bs b h =
    let low = l.size_low in
    let s : 1 ≤ y.size = omega arith in
    let at : ℕ = 32 * slot in
    let ks = clusters_in y d a in
    let steps : ℕ = at / y.size in
    let c = place_count at (length bs) (length ks) y.size s h in
    let room = place_room at (length bs) (length ks) y.size s h in
    three (drop steps ks) (at % y.size) (place_low at (length bs) (length ks) y.size s h)
    (omega (arith, ap (λ (x : ℕ). x * y.size) (length-drop steps ks)))
    ∙ sym (store_over y steps e ks (at % y.size) bs c)
    ∙ ap (λ (x : ℕ). store_at y e ks x bs) (place_is at (length bs) (length ks) y.size s h)
  where
    three : (js : List ℕ) (p : ℕ) → p < y.size → p + length bs ≤ length js * y.size
        → store_at y e (get_or js 0 0 ∷ get_or js 1 0 ∷ get_or js 2 0 ∷ []) p bs ≡ store_at y e js p bs
    three [] p i r = store_empty y e (0 ∷ 0 ∷ 0 ∷ []) p bs (omega arith) ∙ sym (store_empty y e [] p bs (omega arith))
    three (j ∷ []) p i r = store_front y e (j ∷ []) (0 ∷ 0 ∷ []) p bs r
    three (j ∷ k ∷ []) p i r = store_front y e (j ∷ k ∷ []) (0 ∷ []) p bs r
    three (j ∷ k ∷ i₃ ∷ js) p i r = sym (store_front y e (j ∷ k ∷ i₃ ∷ []) js p bs (omega (arith, l.size_low)))
