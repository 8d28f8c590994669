-- The places of a geometry that keeps the limits lie in the volume, and its regions are apart. Assumes nothing.
use mathlib.Core.Path.{◌≡◌, refl, sym, ◌∙◌, ap}
use Prim.Native.Nat.{ℕ, zero, suc, ◌+◌, ◌-◌, ◌*◌, ◌/◌, ◌^◌, ◌≤◌, ◌<◌}
use native.Mathlib.Omega.{arith}
use native.Mathlib.Nat.{mul-le-mul_right, add-mul, one-mul, div-add-mod', mod-lt}
use lib.Pow.{pow_pos, pow_mono, pow-add}
use borrow.Author.Tests.{ne_eqb}
use Rattle.boot.specs.declared.geometry.Geometry.{Geometry}
use Rattle.boot.specs.Geometry.{sector_shift, cluster_shift, fat_offset, fat_length, number_of_fats, active_fat, cluster_heap_offset, cluster_count, bitmap0, bitmap1, sector_size, cluster_size, bitmap_bytes, bitmap_clusters}
use Rattle.boot.specs.Internal.{Accepted, Laid}
use Rattle.boot.specs.Layout.{fat_start, cluster_start, bitmap_first, layout_of}

size_pos : (g : Geometry) → 1 ≤ cluster_size g
unfolding cluster_size
size_pos g = pow_pos (sector_shift g + cluster_shift g)

size_low : (g : Geometry) → 9 ≤ sector_shift g → 512 ≤ cluster_size g
unfolding cluster_size
size_low g h = pow_mono {i = 9} (omega arith)

-- a whole number of entries of 32 bytes
size_whole : (g : Geometry) → 9 ≤ sector_shift g → 32 * (cluster_size g / 32) ≡ cluster_size g
unfolding cluster_size
size_whole g h =
    let k = sector_shift g + cluster_shift g in
    let e : 5 + (k - 5) ≡ k = omega arith in
    let p : 2 ^ k ≡ 32 * 2 ^ (k - 5) = ap (λ (x : ℕ). 2 ^ x) (sym e) ∙ pow-add 2 5 (k - 5) in
    omega arith

size_high : (g : Geometry) → sector_shift g + cluster_shift g ≤ 15 → cluster_size g ≤ 32768
unfolding cluster_size
size_high g h = pow_mono h

-- a bitmap's clusters hold its bytes
pub bytes_le : (g : Geometry) → bitmap_bytes (cluster_count g) ≤ bitmap_clusters g * cluster_size g
unfolding bitmap_clusters
bytes_le g =
    let b = bitmap_bytes (cluster_count g) in
    let pos : 0 < cluster_size g = size_pos g in
    omega (arith, div-add-mod' (b + (cluster_size g - 1)) (cluster_size g), mod-lt (b + (cluster_size g - 1)) pos)

pub first_zero : (g : Geometry) → bitmap_first g zero ≡ bitmap0 g
unfolding bitmap_first
first_zero g = refl

pub first_suc : (g : Geometry) (i : ℕ) → bitmap_first g (suc i) ≡ bitmap1 g
unfolding bitmap_first
first_suc g i = rw (ne_eqb (suc i) 0 (λ e. omega arith)) refl

module _ (g : Geometry) (len : ℕ) (p : Accepted g len) where
  -- the first cluster of each bitmap
  pub first_low : (i : ℕ) → i < number_of_fats g → 2 ≤ bitmap_first g i
  first_low zero h = rw (first_zero g) p.bitmaps.low0
  first_low (suc i) h = let s = p.shape in rw (first_suc g i) (p.bitmaps.low1 (omega arith))

  pub first_high : (i : ℕ) → i < number_of_fats g → bitmap_first g i + bitmap_clusters g ≤ cluster_count g + 2
  first_high zero h = rw (first_zero g) p.bitmaps.high0
  first_high (suc i) h = let s = p.shape in rw (first_suc g i) (p.bitmaps.high1 (omega arith))

  -- a FAT's entries end where the heap begins, or before
  pub fat_heap : (i : ℕ) → i < number_of_fats g → fat_start g i + 4 * (cluster_count g + 2) ≤ cluster_start g 2
  unfolding fat_start cluster_start
  fat_heap i h =
      let o = fat_offset g + i * fat_length g in
      let a : (i + 1) * fat_length g ≤ number_of_fats g * fat_length g = mul-le-mul_right (fat_length g) (omega arith) in
      let b = add-mul i 1 (fat_length g) in
      let r = p.room in
      let d : o + fat_length g ≤ cluster_heap_offset g = omega arith in
      let e = mul-le-mul_right (sector_size g) d in
      omega (arith, add-mul o (fat_length g) (sector_size g))

  -- and the first FAT's before the second begins
  pub fat_fat : fat_start g 0 + 4 * (cluster_count g + 2) ≤ fat_start g 1
  unfolding fat_start
  fat_fat =
      let r = p.room in
      let a = add-mul (fat_offset g) (1 * fat_length g) (sector_size g) in
      let z : (fat_offset g + 0 * fat_length g) * sector_size g ≡ fat_offset g * sector_size g = ap (λ (x : ℕ). x * sector_size g) (omega arith) in
      let y : 1 * fat_length g * sector_size g ≡ fat_length g * sector_size g = ap (λ (x : ℕ). x * sector_size g) (one-mul (fat_length g)) in
      omega arith

  -- n clusters of the heap from k lie in the volume
  run_in : (k n : ℕ) → 2 ≤ k → k + n ≤ cluster_count g + 2 → cluster_start g k + n * cluster_size g ≤ len
  unfolding cluster_start
  run_in k n h l =
      let a = mul-le-mul_right {m = k - 2 + n} {n = cluster_count g} (cluster_size g) (omega arith) in
      let r = p.room in
      omega (arith, add-mul (k - 2) n (cluster_size g))

  bitmap_in : (i : ℕ) → i < number_of_fats g → cluster_start g (bitmap_first g i) + bitmap_bytes (cluster_count g) ≤ len
  bitmap_in i h = omega (arith, bytes_le g, run_in (bitmap_first g i) (bitmap_clusters g) (first_low i h) (first_high i h))

  heap_len : cluster_start g 2 + cluster_count g * cluster_size g ≤ len
  heap_len = run_in 2 (cluster_count g) (omega arith) (omega arith)

  pub laid_of : Laid (layout_of g len)
  unfolding layout_of
  laid_of =
      let s = p.shape in
      let r = p.room in
      record {
        fat_in = omega (arith, heap_len, fat_heap (active_fat g) (omega arith));
        fat0_in = omega (arith, heap_len, fat_heap 0 (omega arith));
        fat1_in = omega (arith, heap_len, fat_heap (number_of_fats g - 1) (omega arith));
        bitmap_in = bitmap_in (active_fat g) (omega arith);
        bitmap0_in = rw (first_zero g) at (bitmap_in 0 (omega arith));
        bitmap1_in = bitmap_in (number_of_fats g - 1) (omega arith);
        heap_in = heap_len;
        run0_in = p.bitmaps.high0;
        run1_in = first_high (number_of_fats g - 1) (omega arith);
        size_low = size_low g s.sector_low;
        size_high = size_high g (omega arith);
        whole = size_whole g s.sector_low;
        count_low = s.count_low;
        count_high = s.count_high;
        len_high = r.len_high;
      }
