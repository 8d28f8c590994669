-- The bytes of a volume that belong to no cluster.
use Rattle.std.specs.Prelude.{◌≡◌, ◌≢◌, ◌⊎◌, true, ℕ, ◌+◌, ◌*◌, ◌≤◌, ◌<◌}
use Rattle.boot.specs.declared.layout.Layout.{Layout}
use Rattle.boot.specs.Layout.{in_heap}

-- byte p is of no cluster: neither of the heap nor of a cluster's FAT entry. It lies before the FATs, in FAT entry 0 or 1, between the
-- last entry and FatLength, before the heap or behind it
pub record Outer (y : Layout) (p : ℕ) : Type 0 where
  pub off_fat0 : (k r : ℕ) → in_heap y.count k ≡ true → r < 4 → p ≢ y.fat0 + 4 * k + r
  pub off_fat1 : (k r : ℕ) → in_heap y.count k ≡ true → r < 4 → p ≢ y.fat1 + 4 * k + r
  pub off_heap : (p < y.heap) ⊎ (y.heap + y.count * y.size ≤ p)
