-- What a new file's clusters and slot are, in 01's words: the fewest zeroed clusters that give the root enough entries in a row with
-- type bit 0x80 clear, and the lowest such sequence. Assumes nothing.
use mathlib.Core.List.{List}
use Prim.Native.Nat.{ℕ, ◌*◌, ◌/◌, ◌≤◌, ◌<◌}
use native.Mathlib.Omega.{arith}
use lib.ListN.{length}
use Rattle.boot.specs.declared.geometry.Geometry.{Geometry}
use Rattle.entry_set.specs.declared.stamp.Stamps.{Stamps}
use Rattle.entry_set.specs.New.{new_entries}
use Rattle.directory.specs.Room.{Row, with_zeros}
use Rattle.directory.proofs.GrowthLaws.{growth_fits, growth_lowest, growth-fewest}
use Rattle.write_file.specs.NewFile.{new_growth}
use Rattle.write.specs.Calls.{Call, New}
use Rattle.write.specs.Consistent.{Consistent, lay, root_bytes}
use Rattle.write.specs.Space.{must_add}
use Rattle.write.specs.Demand.{root_adds, root_grown, slot_answered}
use Rattle.write.proofs.Scene.{size_per, per_low, ordered}

module _ (g : Geometry) (m d : List ℕ) (w : Consistent g m d) (name : List ℕ) (attributes hash : ℕ) (t : Stamps) (hint : ℕ) where
  abbrev c : Call
  c = New name attributes hash t hint

  per : 1 ≤ (lay g d).size / 32
  per = omega (arith, per_low g m d w)

  -- the root so grown has a place for the set, at the slot that the call answers ..
  pub new_fits : Row (root_grown g d (New name attributes hash t hint)) (new_entries (length name)) (slot_answered g d (New name attributes hash t hint))
  unfolding slot_answered root_grown root_adds must_add new_growth root_bytes
  new_fits = growth_fits (lay g d).size ((lay g d).size / 32) (size_per g m d w) per _ (new_entries (length name)) (ordered g m d w).whole

  -- .. at no lower one ..
  pub new_lowest : (i : ℕ) → i < slot_answered g d (New name attributes hash t hint)
      → Row (root_grown g d (New name attributes hash t hint)) (new_entries (length name)) i → ⊥
  unfolding slot_answered root_grown root_adds must_add new_growth root_bytes
  new_lowest = growth_lowest (lay g d).size ((lay g d).size / 32) (size_per g m d w) per _ (new_entries (length name)) (ordered g m d w).whole

  -- .. and with fewer clusters it has none
  pub new-fewest : (n : ℕ) → n < must_add g d (New name attributes hash t hint) → (i : ℕ)
      → Row (with_zeros (root_bytes g d) (n * (lay g d).size)) (new_entries (length name)) i → ⊥
  unfolding must_add new_growth root_bytes
  new-fewest = growth-fewest (lay g d).size ((lay g d).size / 32) (size_per g m d w) per _ (new_entries (length name)) (ordered g m d w).whole
