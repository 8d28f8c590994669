-- Clusters that follow each other in the heap are one piece of the volume, and are stored as one. Assumes nothing.
use mathlib.Core.Path.{◌≡◌, refl, sym, ◌∙◌, ap}
use mathlib.Core.Bool.{Bool, true}
use mathlib.Core.List.{List, [], ◌++◌}
use Prim.Native.Nat.{ℕ, zero, suc, ◌+◌, ◌-◌, ◌*◌, ◌≤◌, ◌<◌}
use native.Mathlib.Decide.{dec_le}
use native.Mathlib.Nat.{suc-mul, add-mul}
use native.Mathlib.Omega.{arith}
use lib.ListN.{length, take, drop, length-drop, take-append-drop}
use lib.Seq.{length-take-le, take-take, drop-drop, take-append-add}
use Rattle.primitives.specs.Splice.{splice}
use Rattle.primitives.proofs.SpliceLaws.{length-splice, splice_join}
use Rattle.tables.specs.Lists.{every, consec}
use Rattle.tables.proofs.ListLaws.{every_mem, consec_in}
use Rattle.boot.specs.declared.layout.Layout.{Layout}
use Rattle.boot.specs.Layout.{cluster_at, in_heap}
use Rattle.boot.specs.Internal.{Laid}
use Rattle.boot.proofs.Apart.{in_heap_lem}
use Rattle.metadata.specs.Fat.{fat_entry}
use Rattle.metadata.specs.Cluster.{put_bytes}
use Rattle.stream.specs.Internal.{along}
use Rattle.stream.specs.Bytes.{cluster_bytes, bytes_of, store_at}
use Rattle.stream.proofs.StreamLaws.{along_head, consec-along}
use Rattle.stream.proofs.BytesSteps.{some_left, cluster_room, drop-take, store_here}
use Rattle.stream.proofs.BytesLaws.{store_first}

-- ---- one piece of the volume

pub row_at : (y : Layout) (c k : ℕ) → 2 ≤ k → cluster_at y (k + c) ≡ cluster_at y k + c * y.size
unfolding cluster_at
row_at y c k h =
    let e : k + c - 2 ≡ k - 2 + c = omega arith in
    rw e (omega (arith, add-mul (k - 2) c y.size))

-- bytes stored in clusters that follow each other
store_row : (y : Layout) (c : ℕ) (d : List ℕ) (k at : ℕ) (bs : List ℕ) → 2 ≤ k → cluster_at y k + suc c * y.size ≤ length d → at < y.size
    → at + length bs ≤ suc c * y.size → store_at y d (consec k (suc c)) at bs ≡ put_bytes y d k at bs
unfolding consec put_bytes
store_row y zero d k at bs two room low fits = store_first y d k [] at bs low (omega (arith, suc-mul 0 y.size))
store_row y (suc c) d k at bs two room low fits =
    let m = y.size - at in
    let p = cluster_at y k + at in
    let s = suc-mul (suc c) y.size in
    elim (dec_le (at + length bs) y.size) [
      | yes h ↦ store_first y d k (consec (k + 1) (suc c)) at bs low h
      | no h ↦
          let n : length (take m bs) ≡ m = length-take-le m bs (omega arith) in
          let e = row_at y 1 k two in
          store_here y d k (consec (k + 1) (suc c)) at bs low
          ∙ store_row y c (splice d p (take m bs)) (k + 1) 0 (drop m bs) (omega arith) (omega (arith, length-splice d p (take m bs) (omega arith))) (omega arith)
          (omega (arith, length-drop m bs))
          ∙ splice_join d p (take m bs) (drop m bs) (cluster_at y (k + 1) + 0) (omega arith) (omega arith) ∙ ap (splice d p) (take-append-drop m bs)
    ]

-- the bytes of clusters that follow each other
bytes_row : (y : Layout) (n : ℕ) (d : List ℕ) (k : ℕ) → 2 ≤ k → cluster_at y k + n * y.size ≤ length d
    → bytes_of y d (consec k n) ≡ take (n * y.size) (drop (cluster_at y k) d)
unfolding consec bytes_of cluster_bytes
bytes_row y zero d k two room = let z : 0 * y.size ≡ 0 = omega arith in rw z refl
bytes_row y (suc n) d k two room =
    let s = suc-mul n y.size in
    let e = row_at y 1 k two in
    let l = drop (cluster_at y k) d in
    let c : length (take y.size l) ≡ y.size = length-take-le y.size l (omega (arith, length-drop (cluster_at y k) d)) in
    let z : cluster_at y (k + 1) ≡ cluster_at y k + y.size = omega arith in
    let u : suc n * y.size ≡ length (take y.size l) + n * y.size = omega arith in
    ap (λ (r : List ℕ). take y.size l ++ r)
    (bytes_row y n d (k + 1) (omega arith) (omega arith) ∙ ap (λ (x : ℕ). take (n * y.size) (drop x d)) z ∙ ap (take (n * y.size)) (sym (drop-drop y.size (cluster_at y k) d)))
    ∙ sym (ap (λ (x : ℕ). take x l) u ∙ ap (take (length (take y.size l) + n * y.size)) (sym (take-append-drop y.size l)) ∙ take-append-add (take y.size l) (drop y.size l) (n * y.size))

-- ---- a run

module _ (y : Layout) (d : List ℕ) (laid : Laid y) (long : length d ≡ y.len) (run : Bool) (r : run ≡ true) (k n : ℕ)
    (h : every (in_heap y.count) (along (fat_entry y d) run k n) ≡ true) (at bytes : ℕ) (low : at < y.size) (pos : 0 < bytes)
    (room : at + bytes ≤ n * y.size) where
  some : 0 < n
  some = some_left n y.size at bytes room pos

  pub run_first : (2 ≤ k) × (k < y.count + 2)
  run_first = in_heap_lem y.count k (along_head (in_heap y.count) (fat_entry y d) run k n some h)

  run_row : along (fat_entry y d) run k n ≡ consec k n
  run_row = rw r (sym (consec-along (fat_entry y d) k n))

  run_long : cluster_at y k + n * y.size ≤ length d
  run_long =
      let last = k + (n - 1) in
      let i = every_mem (in_heap y.count) (consec k n) (ap (every (in_heap y.count)) (sym run_row) ∙ h) last (consec_in k n last (omega arith) (omega (arith, some))) in
      let z : suc (n - 1) ≡ n = omega (arith, some) in
      omega (arith, row_at y (n - 1) k run_first.0, cluster_room y d laid long last i, suc-mul (n - 1) y.size, ap (λ (x : ℕ). x * y.size) z)

  pub run_inside : cluster_at y k + at + bytes ≤ y.len
  run_inside = omega (arith, run_long)

  pub store_run : (bs : List ℕ) → length bs ≡ bytes → store_at y d (along (fat_entry y d) run k n) at bs ≡ put_bytes y d k at bs
  store_run bs e =
      let z : n ≡ suc (n - 1) = omega (arith, some) in
      ap (λ (l : List ℕ). store_at y d l at bs) (run_row ∙ ap (consec k) z)
      ∙ store_row y (n - 1) d k at bs run_first.0 (omega (arith, run_long, ap (λ (x : ℕ). x * y.size) z)) low
      (omega (arith, ap (λ (x : ℕ). x * y.size) z))

  pub read_run : take bytes (drop at (bytes_of y d (along (fat_entry y d) run k n))) ≡ take bytes (drop (cluster_at y k + at) d)
  read_run =
      let l = drop (cluster_at y k) d in
      ap (λ (x : List ℕ). take bytes (drop at (bytes_of y d x))) run_row ∙ ap (λ (x : List ℕ). take bytes (drop at x)) (bytes_row y n d k run_first.0 run_long)
      ∙ ap (take bytes) (drop-take at (n * y.size) l (omega arith)) ∙ take-take bytes (n * y.size - at) (drop at l) (omega arith)
      ∙ ap (take bytes) (drop-drop at (cluster_at y k) d)
