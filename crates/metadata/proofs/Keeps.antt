-- What every store keeps: a relation of volumes that holds of each single store into the FAT entry, the mark or the bytes of a cluster,
-- and the volumes that come of such stores. Assumes nothing.
use mathlib.Core.Path.{◌≡◌}
use mathlib.Core.Bool.{Bool, true}
use mathlib.Core.List.{List}
use Prim.Native.Nat.{ℕ, ◌+◌, ◌≤◌}
use lib.ListN.{length}
use Rattle.boot.specs.declared.layout.Layout.{Layout}
use Rattle.boot.specs.Layout.{in_heap}
use Rattle.metadata.specs.Fat.{set_fat}
use Rattle.metadata.specs.Marks.{set_mark}
use Rattle.metadata.specs.Cluster.{put_bytes}
use Rattle.metadata.proofs.Frame.{Fits, fits_kept, length_fat, length_mark, length_bytes}
use Rattle.metadata.proofs.View.{plain, plain_heap}

-- cluster k is in the heap, and one that may be stored to
abbrev pub Own : Layout → (ℕ → Type 0) → ℕ → Type 0
Own y P k = (in_heap y.count k ≡ true) × P k

-- K holds of each store to a cluster with P
pub record Keeps (y : Layout) (P : ℕ → Type 0) (K : List ℕ → List ℕ → Type 0) : Type 0 where
  pub same : (d : List ℕ) → K d d
  pub again : (d e f : List ℕ) → K d e → K e f → K d f
  pub fat : (d : List ℕ) → Fits y d → (k v : ℕ) → Own y P k → K d (set_fat y d k v)
  pub mark : (d : List ℕ) → Fits y d → (k : ℕ) (on : Bool) → Own y P k → K d (set_mark y d k on)
  pub put : (d : List ℕ) → Fits y d → (k j : ℕ) (bs : List ℕ) → plain y k ≡ true → P k → j + length bs ≤ y.size → K d (put_bytes y d k j bs)

-- e comes from d by such stores
pub record Went (y : Layout) (K : List ℕ → List ℕ → Type 0) (d e : List ℕ) : Type 0 where
  pub fits : Fits y e
  pub kept : K d e

module _ (y : Layout) (P : ℕ → Type 0) (K : List ℕ → List ℕ → Type 0) (s : Keeps y P K) (d : List ℕ) where
  pub went_none : Fits y d → Went y K d d
  went_none w = record { fits = w; kept = s.same d }

  pub fat_on : (e : List ℕ) → Went y K d e → (k v : ℕ) → Own y P k → Went y K d (set_fat y e k v)
  fat_on e w k v o = record {
    fits = fits_kept y e (set_fat y e k v) (length_fat y e k v) w.fits;
    kept = s.again d e (set_fat y e k v) w.kept (s.fat e w.fits k v o);
  }

  pub mark_on : (e : List ℕ) → Went y K d e → (k : ℕ) (on : Bool) → Own y P k → Went y K d (set_mark y e k on)
  mark_on e w k on o = record {
    fits = fits_kept y e (set_mark y e k on) (length_mark y e k on) w.fits;
    kept = s.again d e (set_mark y e k on) w.kept (s.mark e w.fits k on o);
  }

  pub put_on : (e : List ℕ) → Went y K d e → (k j : ℕ) (bs : List ℕ) → plain y k ≡ true → P k → j + length bs ≤ y.size → Went y K d (put_bytes y e k j bs)
  put_on e w k j bs p o r = record {
    fits = fits_kept y e (put_bytes y e k j bs) (length_bytes y e w.fits k j bs (plain_heap y k p) r) w.fits;
    kept = s.again d e (put_bytes y e k j bs) w.kept (s.put e w.fits k j bs p o r);
  }
