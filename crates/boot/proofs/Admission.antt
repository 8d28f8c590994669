-- What admits a call: the cause that is tested before all else, and every fact of a volume that is admitted. Assumes nothing.
use mathlib.Core.Path.{◌≡◌, refl, sym}
use mathlib.Core.Bool.{Bool, true, false}
use mathlib.Core.List.{List}
use Prim.Native.Nat.{ℕ, ◌*◌, ◌≤◌}
use native.Mathlib.Omega.{arith}
use lib.ListN.{length}
use Rattle.boot.specs.declared.geometry.Geometry.{Geometry}
use Rattle.boot.specs.declared.layout.Layout.{Layout}
use Rattle.boot.specs.declared.cause.Cause.{Cause}
use Rattle.boot.specs.declared.cause.Cause.TheVariants.{Limits}
use Rattle.boot.specs.Geometry.{bitmap_bytes}
use Rattle.boot.specs.Limits.{in_map, limits}
use Rattle.boot.specs.Layout.{layout_of, is_bitmap_cluster}
use Rattle.boot.specs.Causes.{cause_number, first_cause, limits_cause, admit_cause}
use Rattle.boot.specs.Internal.{Laid, Apart}
use Rattle.boot.proofs.Accepted.{accepted_of, map-length, map_wide}
use Rattle.boot.proofs.Places.{laid_of}
use Rattle.boot.proofs.Apart.{apart_of}
use Rattle.boot.proofs.Mapped.{mapped}

-- ---- the cause and the limits

module _ (g : Geometry) (d m : List ℕ) where
  pub limits-admitted : limits g (length d) m ≡ true → admit_cause g d m ≡ 0
  unfolding admit_cause limits_cause first_cause
  limits-admitted e = rw e refl

  pub limits_refused : limits g (length d) m ≡ false → admit_cause g d m ≡ 1
  unfolding admit_cause limits_cause first_cause
  limits_refused e = rw e refl

  pub admitted-limits : admit_cause g d m ≡ 0 → limits g (length d) m ≡ true
  admitted-limits z = by (limits g (length d) m) refl
    where
      by : (b : Bool) → limits g (length d) m ≡ b → limits g (length d) m ≡ true
      by true e = e
      by false e = absurd (omega (arith, limits_refused e))

-- layout y is that of a volume d with map m that is admitted
pub record Admits (g : Geometry) (d m : List ℕ) (y : Layout) : Type 0 where
  pub cause : admit_cause g d m ≡ 0
  pub keeps : limits g (length d) m ≡ true
  pub is : y ≡ layout_of g (length d)
  pub laid : Laid y
  pub apart : Apart y
  pub long : length d ≡ y.len
  pub map : length m ≡ bitmap_bytes y.count
  -- the map has a bit for each cluster
  pub wide : y.count ≤ 8 * length m
  pub mapped : (k : ℕ) → is_bitmap_cluster y k ≡ true → in_map m k ≡ true

module _ (g : Geometry) (d m : List ℕ) where
  pub limits_admits : limits g (length d) m ≡ true → Admits g d m (layout_of g (length d))
  limits_admits e =
      let p = accepted_of g (length d) m e in
      record {
        cause = limits-admitted g d m e;
        keeps = e;
        is = refl;
        laid = laid_of g (length d) p;
        apart = apart_of g (length d) p;
        long = unfold layout_of in refl;
        map = unfold layout_of in (map-length g (length d) m e);
        wide = map_wide g (length d) m e;
        mapped = mapped g (length d) m e;
      }

  -- an admission that refuses gives the cause
  pub refuses : (e : Cause) → (e ≡ Limits) × (limits g (length d) m ≡ false) → cause_number e ≡ admit_cause g d m
  refuses e q = rw q.0 (sym (limits_refused g d m q.1))

  -- and one that does not gives a layout that has every fact above
  pub admits : {P : Type 0} (y : Layout) (n : List ℕ) → (y ≡ layout_of g (length d)) × ((n ≡ m) × (P × (limits g (length d) m ≡ true))) → Admits g d n y
  admits y n q = rw (q.0, q.1.0) (limits_admits q.1.1.1)
