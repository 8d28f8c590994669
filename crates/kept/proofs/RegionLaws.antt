-- What each store leaves by its place: FAT stores leave the heap, marks and bytes of clusters what lies before it. Assumes nothing.
use mathlib.Core.Path.{◌≡◌}
use mathlib.Core.Logic.{◌≢◌}
use mathlib.Core.Bool.{Bool, true}
use mathlib.Core.List.{List}
use Prim.Native.Nat.{ℕ, ◌+◌, ◌-◌, ◌*◌, ◌/◌, ◌%◌, ◌≤◌, ◌<◌}
use native.Mathlib.Omega.{arith}
use lib.ListN.{length, get_or}
use Rattle.primitives.specs.Bits.{put_bit}
use Rattle.primitives.specs.Words.{get_le}
use Rattle.primitives.proofs.WordLaws.{get_same}
use Rattle.primitives.proofs.SpliceLaws.{splice_off}
use Rattle.boot.specs.declared.layout.Layout.{Layout}
use Rattle.boot.specs.Layout.{cluster_at, in_heap}
use Rattle.boot.proofs.Apart.{in_heap_lem, cluster_start_lem, fat_bitmap}
use Rattle.metadata.specs.Fat.{set_fat}
use Rattle.metadata.specs.Marks.{mark_byte, set_mark}
use Rattle.metadata.specs.Cluster.{put_bytes}
use Rattle.metadata.proofs.Frame.{Fits, fat_out, byte_out, fits_in}

module _ (y : Layout) (d : List ℕ) (w : Fits y d) where
  pub fat_heap : (k v p : ℕ) → in_heap y.count k ≡ true → y.heap ≤ p → get_or (set_fat y d k v) p 0 ≡ get_or d p 0
  fat_heap k v p h l =
      let q = in_heap_lem y.count k h in
      let a = w.apart in
      fat_out y d k v p (λ r b e. omega arith) (λ t r b e. omega arith)

  pub mark_below : (k : ℕ) (on : Bool) (p : ℕ) → p < y.heap → get_or (set_mark y d k on) p 0 ≡ get_or d p 0
  unfolding set_mark
  mark_below k on p h =
      let z = fat_bitmap y w.laid w.apart ((k - 2) / 8) in
      byte_out y d ((k - 2) / 8) (put_bit (mark_byte y d k) ((k - 2) % 8) on) p (omega arith) (λ t. omega arith)

  pub put_below : (k j : ℕ) (bs : List ℕ) (p : ℕ) → in_heap y.count k ≡ true → j + length bs ≤ y.size → p < y.heap
      → get_or (put_bytes y d k j bs) p 0 ≡ get_or d p 0
  unfolding put_bytes
  put_below k j bs p h f l =
      let z = cluster_start_lem y w.laid w.apart k in
      splice_off d (cluster_at y k + j) bs (fits_in y d w k j bs h f) p (λ s b e. omega arith)

  -- entries depend on what lies before the heap
  pub entries_below : (e : List ℕ) → ((p : ℕ) → p < y.heap → get_or e p 0 ≡ get_or d p 0) → (j : ℕ) → in_heap y.count j ≡ true
      → (get_le 4 e (y.fat0 + 4 * j) ≡ get_le 4 d (y.fat0 + 4 * j)) × (get_le 4 e (y.fat1 + 4 * j) ≡ get_le 4 d (y.fat1 + 4 * j))
  entries_below e k j i =
      let q = in_heap_lem y.count j i in
      let a = w.apart in (
        get_same 4 e d (y.fat0 + 4 * j) (y.fat0 + 4 * j) (λ r b. k (y.fat0 + 4 * j + r) (omega arith)),
        get_same 4 e d (y.fat1 + 4 * j) (y.fat1 + 4 * j) (λ r b. k (y.fat1 + 4 * j + r) (omega arith)),
      )

  -- and a FAT store leaves the others
  pub entries_other : (k v j : ℕ) → in_heap y.count k ≡ true → in_heap y.count j ≡ true → j ≢ k
      → (get_le 4 (set_fat y d k v) (y.fat0 + 4 * j) ≡ get_le 4 d (y.fat0 + 4 * j))
      × (y.two ≡ true → get_le 4 (set_fat y d k v) (y.fat1 + 4 * j) ≡ get_le 4 d (y.fat1 + 4 * j))
  entries_other k v j h i n =
      let p = in_heap_lem y.count k h in
      let q = in_heap_lem y.count j i in (
        get_same 4 (set_fat y d k v) d (y.fat0 + 4 * j) (y.fat0 + 4 * j)
            (λ r b. fat_out y d k v (y.fat0 + 4 * j + r) (λ s c e. omega arith) (λ t s c e. let f = w.apart.fats t in omega arith)),
        λ t. let f = w.apart.fats t in
            get_same 4 (set_fat y d k v) d (y.fat1 + 4 * j) (y.fat1 + 4 * j)
            (λ r b. fat_out y d k v (y.fat1 + 4 * j + r) (λ s c e. omega arith) (λ _ s c e. omega arith)),
      )
