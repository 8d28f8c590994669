-- What listing answers and leaves, by the first cause that is met. Assumes nothing.
use mathlib.Core.Path.{◌≡◌, refl, sym, ◌∙◌, ap}
use mathlib.Core.Bool.{true}
use mathlib.Core.List.{List}
use Prim.Native.Nat.{ℕ, ◌≤◌, ◌<◌}
use native.Mathlib.Omega.{arith}
use lib.ListN.{length}
use borrow.Author.Tests.{eq-eqb, ne_eqb, lt-ltb, le-ltb}
use Rattle.primitives.specs.Splice.{splice}
use Rattle.tables.specs.Lists.{every}
use Rattle.boot.specs.declared.geometry.Geometry.{Geometry}
use Rattle.boot.specs.declared.layout.Layout.{Layout}
use Rattle.boot.specs.Layout.{layout_of, in_heap}
use Rattle.boot.specs.Causes.{first_cause, admit_cause}
use Rattle.boot.proofs.CauseLaws.{cause_skip, cause_met, cause_last}
use Rattle.boot.proofs.Admission.{Admits}
use Rattle.metadata.specs.Fat.{fat_entry}
use Rattle.metadata.specs.Marks.{marked}
use Rattle.stream.specs.declared.allocation.Allocation.{Allocation}
use Rattle.stream.specs.Chain.{listed}
use Rattle.stream.specs.Stream.{number_of, stream_of, clusters_of}
use Rattle.stream.specs.Internal.{along}
use Rattle.stream.specs.Listing.{room_cause, listed_number, listed_list, listing_number, listing_list}
use Rattle.stream.proofs.ChainLaws.{stream_listed}
use Rattle.stream.proofs.StreamLaws.{Read, read_facts}

-- the clusters of a record that is not refused, as code goes along them
module _ (y : Layout) (d : List ℕ) (a : Allocation) (e : number_of (stream_of y d a) ≡ 0) where
  listed_is : (ks : List ℕ) × (stream_of y d a ≡ listed ks)
  unfolding stream_of
  listed_is = stream_listed y.count (fat_entry y d) (marked y d) a e

  pub stream_read : Read y.count (fat_entry y d) (marked y d) a (clusters_of (stream_of y d a))
  unfolding stream_of
  stream_read =
      let p = listed_is in
      rw p.1 (read_facts y.count (fat_entry y d) (marked y d) a p.0 p.1)

  pub along_heap : every (in_heap y.count) (along (fat_entry y d) a.no_fat_chain a.first a.count) ≡ true
  along_heap = let r = stream_read in ap (every (in_heap y.count)) (sym r.goes) ∙ r.heap

module _ (y : Layout) (d : List ℕ) (a : Allocation) (l : List ℕ) where
  -- what the call answers and leaves where it is refused
  refused_list : (n : ℕ) → (n ≡ 0 → ⊥) → n ≡ listed_number y d a (length l) → (n ≡ listed_number y d a (length l)) × (l ≡ listed_list y d a l)
  unfolding listed_list
  refused_list n h e = (e, rw (ne_eqb (listed_number y d a (length l)) 0 (λ z. h (e ∙ z))) refl)

  pub listed_room : length l < a.count → (14 ≡ listed_number y d a (length l)) × (l ≡ listed_list y d a l)
  unfolding listed_number room_cause first_cause
  listed_room h = refused_list 14 (λ z. omega arith) (rw (lt-ltb (length l) a.count h) refl)

  pub listed_cause : (n : ℕ) → a.count ≤ length l → n ≡ number_of (stream_of y d a) → (n ≡ 0 → ⊥)
      → (n ≡ listed_number y d a (length l)) × (l ≡ listed_list y d a l)
  unfolding listed_number room_cause first_cause
  listed_cause n h e z =
      refused_list n z (rw (le-ltb (length l) a.count h, ne_eqb (number_of (stream_of y d a)) 0 (λ q. z (e ∙ q))) e)

  pub listed_done : (n : ℕ) → a.count ≤ length l → n ≡ number_of (stream_of y d a) → n ≡ 0
      → (0 ≡ listed_number y d a (length l)) × (splice l 0 (along (fat_entry y d) a.no_fat_chain a.first a.count) ≡ listed_list y d a l)
  unfolding listed_list
  listed_done n h e z =
      let q : number_of (stream_of y d a) ≡ 0 = sym e ∙ z in
      let m : listed_number y d a (length l) ≡ 0 = number q in
      (sym m, rw (eq-eqb (listed_number y d a (length l)) 0 m) (ap (splice l 0) (sym (stream_read y d a q).goes)))
    where
      number : number_of (stream_of y d a) ≡ 0 → listed_number y d a (length l) ≡ 0
      number q = unfold listed_number in (unfold room_cause in (unfold first_cause in (rw (le-ltb (length l) a.count h, eq-eqb (number_of (stream_of y d a)) 0 q) refl)))

module _ (g : Geometry) (d m : List ℕ) (a : Allocation) (l : List ℕ) where
  pub listing_not-admitted : (n : ℕ) → n ≡ admit_cause g d m → (n ≡ 0 → ⊥) → (n ≡ listing_number g d m a (length l)) × (l ≡ listing_list g d m a l)
  unfolding listing_number listing_list
  listing_not-admitted n e z = (
    e ∙ sym (cause_met (admit_cause g d m) _ (λ q. z (e ∙ q))),
    rw (ne_eqb (admit_cause g d m) 0 (λ q. z (e ∙ q))) refl,
  )

  pub listing_is : (y : Layout) (n : ℕ) (r : List ℕ) → Admits g d m y → n ≡ listed_number y d a (length l) → r ≡ listed_list y d a l
      → (n ≡ listing_number g d m a (length l)) × (r ≡ listing_list g d m a l)
  unfolding listing_number listing_list
  listing_is y n r w p q = (
    p ∙ ap (λ (x : Layout). listed_number x d a (length l)) w.is
        ∙ sym (cause_skip (admit_cause g d m) _ w.cause ∙ cause_last (listed_number (layout_of g (length d)) d a (length l))),
    rw (eq-eqb (admit_cause g d m) 0 w.cause) (q ∙ ap (λ (x : Layout). listed_list x d a l) w.is),
  )
