-- What marking, linking and taking clusters leaves as it was, byte by byte. Assumes nothing.
use mathlib.Core.Path.{◌≡◌, refl, ◌∙◌}
use mathlib.Core.Logic.{◌≢◌}
use mathlib.Core.Bool.{Bool, true}
use mathlib.Core.List.{List, [], ◌∷◌}
use Prim.Native.Nat.{ℕ, zero, suc, ◌+◌, ◌-◌, ◌*◌, ◌/◌, ◌%◌, ◌≤◌, ◌<◌}
use native.Mathlib.Omega.{arith}
use lib.Dec.{eqb}
use lib.ListN.{get_or, set}
use lib.Seq.{get_or-set_other}
use borrow.Author.Tests.{eqb-false}
use Rattle.primitives.specs.Bits.{put_bit}
use Rattle.primitives.specs.Words.{put_le}
use Rattle.primitives.proofs.WordLaws.{put_off, get_same}
use Rattle.tables.specs.Lists.{here, there}
use Rattle.tables.proofs.Cases.{cond_case}
use Rattle.boot.specs.declared.layout.Layout.{Layout}
use Rattle.boot.specs.Layout.{in_heap}
use Rattle.boot.proofs.Apart.{in_heap_lem, heap_in, cluster_start_lem}
use Rattle.metadata.specs.Fat.{set_fat}
use Rattle.metadata.specs.Marks.{mark_byte, put_byte, set_mark, mark_run}
use Rattle.kept.specs.Copies.{fat0_at, fat1_at}
use Rattle.metadata.proofs.Frame.{Fits}
use Rattle.write_alloc.specs.Take.{link_run, take_single, take_each}
use Rattle.choice_claim.specs.Adds.{OffBitmaps, OffEntries, EntryKept}
use Rattle.write_alloc.proofs.TakeLaws.{Inside}

-- byte p is not of entry k
abbrev pub OffEntry : Layout → ℕ → ℕ → Type 0
OffEntry y k p = (r : ℕ) → r < 4 → (p ≢ y.fat0 + 4 * k + r) × (p ≢ y.fat1 + 4 * k + r)

module _ (y : Layout) (p : ℕ) where
  pub fat_off : (d : List ℕ) (k v : ℕ) → OffEntry y k p → get_or (set_fat y d k v) p 0 ≡ get_or d p 0
  unfolding set_fat
  fat_off d k v h =
      let first = put_off 4 d (y.fat0 + 4 * k) v p (λ r b. (h r b).0) in
      cond_case (λ (e : List ℕ). get_or e p 0 ≡ get_or d p 0) y.two (put_le 4 (put_le 4 d (y.fat0 + 4 * k) v) (y.fat1 + 4 * k) v) (put_le 4 d (y.fat0 + 4 * k) v)
      (λ _. put_off 4 (put_le 4 d (y.fat0 + 4 * k) v) (y.fat1 + 4 * k) v p (λ r b. (h r b).1) ∙ first) (λ _. first)

  -- entries of a run linked, whatever is marked
  pub link_off : (d : List ℕ) (k n : ℕ) → ((j : ℕ) → k ≤ j → j < k + n → OffEntry y j p) → get_or (link_run y d k n) p 0 ≡ get_or d p 0
  unfolding link_run
  link_off d k zero h = refl
  link_off d k (suc n) h =
      link_off (set_fat y d k (k + 1)) (k + 1) n (λ j a b. h j (omega arith) (omega arith)) ∙ fat_off d k (k + 1) (h k (omega arith) (omega arith))

  module _ (off : OffBitmaps y p) where
    pub mark_off : (d : List ℕ) (k : ℕ) (on : Bool) → in_heap y.count k ≡ true → get_or (set_mark y d k on) p 0 ≡ get_or d p 0
    unfolding set_mark put_byte
    mark_off d k on h =
        let i = (k - 2) / 8 in
        let b = put_bit (mark_byte y d k) ((k - 2) % 8) on in
        let u = in_heap_lem y.count k h in
        let o = off ((k - 2) / 8) (omega arith) in
        let first = get_or-set_other d (y.bitmap0 + i) p b 0 o.0 in
        cond_case (λ (e : List ℕ). get_or e p 0 ≡ get_or d p 0) y.two (set (set d (y.bitmap0 + i) b) (y.bitmap1 + i) b) (set d (y.bitmap0 + i) b)
        (λ _. get_or-set_other (set d (y.bitmap0 + i) b) (y.bitmap1 + i) p b 0 o.1 ∙ first) (λ _. first)

    pub run_off : (d : List ℕ) (k n : ℕ) → 2 ≤ k → k + n ≤ y.count + 2 → get_or (mark_run y d k n) p 0 ≡ get_or d p 0
    unfolding mark_run
    run_off d k zero l h = refl
    run_off d k (suc n) l h =
        run_off (set_mark y d k true) (k + 1) n (omega arith) (omega arith) ∙ mark_off d k true (heap_in y.count k l (omega arith))

    pub take_off : (d : List ℕ) (prev : ℕ) (ks : List ℕ) → (prev ≢ 0 → OffEntry y prev p) → OffEntries y ks p → Inside y ks
        → get_or (take_each y d prev ks) p 0 ≡ get_or d p 0
    unfolding take_each take_single
    take_off d prev [] before o i = refl
    take_off d prev (k ∷ ks) before o i =
        let first = mark_off d k true (i k (here refl)) in
        take_off (take_single y d prev k) k ks (λ _ r b. o k r (here refl) b) (λ j r q b. o j r (there q) b) (λ j q. i j (there q))
        ∙ cond_case (λ (e : List ℕ). get_or e p 0 ≡ get_or d p 0) (eqb prev 0) (set_mark y d k true) (set_fat y (set_mark y d k true) prev k) (λ _. first)
        (λ t. fat_off (set_mark y d k true) prev k (before (eqb-false prev 0 t)) ∙ first)

-- the bitmaps lie in the heap: what is of no bitmap is kept, so every entry of every FAT is
module _ (y : Layout) (d e : List ℕ) (w : Fits y d) where
  low_off : (p : ℕ) → p < y.heap → OffBitmaps y p
  low_off p h i b =
      let a = w.apart in
      let s = cluster_start_lem y w.laid w.apart y.first0 in
      let t = cluster_start_lem y w.laid w.apart y.first1 in
      (λ q. omega (arith, a.at0), λ q. omega (arith, a.at1))

  pub entries_kept : ((p : ℕ) → OffBitmaps y p → get_or e p 0 ≡ get_or d p 0) → (k : ℕ) → k < y.count + 2 → EntryKept y d e k
  unfolding fat0_at fat1_at
  entries_kept same k h =
      let a = w.apart in (
        get_same 4 e d (y.fat0 + 4 * k) (y.fat0 + 4 * k) (λ r b. same (y.fat0 + 4 * k + r) (low_off (y.fat0 + 4 * k + r) (omega (arith, a.fat0_heap)))),
        get_same 4 e d (y.fat1 + 4 * k) (y.fat1 + 4 * k) (λ r b. same (y.fat1 + 4 * k + r) (low_off (y.fat1 + 4 * k + r) (omega (arith, a.fat1_heap)))),
      )
