-- A set stored at a spot. Assumes nothing.
use mathlib.Core.Path.{◌≡◌, refl, sym, ◌∙◌, ap, ap₂}
use mathlib.Core.List.{List, [], ◌∷◌}
use Prim.Native.Nat.{ℕ, ◌+◌, ◌-◌, ◌*◌, ◌≤◌, ◌<◌, min}
use native.Mathlib.Omega.{arith}
use lib.ListN.{length, take, drop, length-drop}
use lib.Seq.{length-take-le, take-take, drop-drop}
use Rattle.boot.specs.declared.layout.Layout.{Layout}
use Rattle.boot.specs.Internal.{Laid}
use Rattle.metadata.specs.Cluster.{put_bytes}
use Rattle.stream.specs.Bytes.{store_at}
use Rattle.stream.proofs.BytesSteps.{take_lesser, splice-none, store_here, drop-take}
use Rattle.directory.specs.declared.spot.Spot.{Spot}
use Rattle.directory.specs.Internal.{spot_clusters, Reaches}

pub put_none : (y : Layout) (d : List ℕ) (k at : ℕ) (s : List ℕ) → put_bytes y d k at (take 0 s) ≡ d
unfolding put_bytes
put_none y d k at s = splice-none d _ 0 s (omega arith)

-- parts of x bytes, each no more than is left
lesser_low : (a n r : ℕ) → r ≡ min a n → r ≤ n
lesser_low a n r e = omega arith

parts_room : (x one two l : ℕ) → one ≤ x → two ≤ x - one → x ≤ l → (one + (x - one) ≤ l) × (one + two + (x - one - two) ≤ l)
parts_room x one two l a b h = (omega arith, omega arith)

module _ (y : Layout) where
  -- one cluster of a store
  store_part : (d : List ℕ) (k : ℕ) (ks : List ℕ) (at : ℕ) (s : List ℕ) (from n r next : ℕ) → at < y.size → from + n ≤ length s
      → r ≡ min (y.size - at) n → from + r ≡ next
      → store_at y d (k ∷ ks) at (take n (drop from s)) ≡ store_at y (put_bytes y d k at (take r (drop from s))) ks 0 (take (n - r) (drop next s))
  store_part d k ks at s from n r next low f e i =
      let bs = take n (drop from s) in
      let l : length bs ≡ n = length-take-le n (drop from s) (omega (arith, length-drop from s)) in
      let q = take_lesser (y.size - at) bs r (omega arith) in
      let t : take (y.size - at) bs ≡ take r (drop from s) = q.0 ∙ take-take r n (drop from s) (omega arith) in
      let u : drop (y.size - at) bs ≡ take (n - r) (drop next s) =
      q.1 ∙ drop-take r n (drop from s) (omega arith) ∙ ap (take (n - r)) (drop-drop r from s ∙ ap (λ (x : ℕ). drop x s) i) in
      store_here y d k ks at bs low ∙ ap₂ (λ (a b : List ℕ). store_at y (put_bytes y d k at a) ks 0 b) t u

  -- what is stored of the first n bytes, said of all of them
  pub stored_part : (d d' : List ℕ) (k at : ℕ) (bs : List ℕ) (n r : ℕ) → n ≤ length bs → r ≡ min (y.size - at) (length (take n bs))
      → d' ≡ put_bytes y d k at (take r (take n bs)) → (r ≡ min (y.size - at) n) × (d' ≡ put_bytes y d k at (take r bs))
  stored_part d d' k at bs n r h e q =
      let l = length-take-le n bs h in
      (omega (arith, e, l), q ∙ ap (put_bytes y d k at) (take-take r n bs (omega (arith, e, l))))

  -- one cluster after the other
  pub store_spot : (d d₁ d₂ d₃ : List ℕ) (spot : Spot) (s : List ℕ) (n one two three : ℕ) → Laid y → Reaches y spot n → length s ≡ 608
      → one ≡ min (y.size - spot.at) (32 * n)
      → two ≡ min (y.size - 0) (32 * n - one)
      → three ≡ min (y.size - 0) (32 * n - one - two)
      → d₁ ≡ put_bytes y d spot.first spot.at (take one (drop 0 s))
      → d₂ ≡ put_bytes y d₁ spot.second 0 (take two (drop one s))
      → d₃ ≡ put_bytes y d₂ spot.third 0 (take three (drop (one + two) s))
      → d₃ ≡ store_at y d (spot_clusters spot) spot.at (take (32 * n) s)
  unfolding spot_clusters
  store_spot d d₁ d₂ d₃ spot s n one two three l r b p q t e₁ e₂ e₃ =
      let low = l.size_low in
      let i = r.inside in
      let f = r.few in
      let room =
      parts_room (32 * n) one two (length s) (lesser_low (y.size - spot.at) (32 * n) one p) (lesser_low (y.size - 0) (32 * n - one) two q) (omega (arith, b, f)) in
      sym
      (store_part d spot.first (spot.second ∷ spot.third ∷ []) spot.at s 0 (32 * n) one one i (omega arith) p (omega arith)
      ∙ ap (λ (e : List ℕ). store_at y e (spot.second ∷ spot.third ∷ []) 0 (take (32 * n - one) (drop one s))) (sym e₁)
      ∙ store_part d₁ spot.second (spot.third ∷ []) 0 s one (32 * n - one) two (one + two) (omega arith) room.0 q refl
      ∙ ap (λ (e : List ℕ). store_at y e (spot.third ∷ []) 0 (take (32 * n - one - two) (drop (one + two) s))) (sym e₂)
      ∙ store_part d₂ spot.third [] 0 s (one + two) (32 * n - one - two) three (one + two + three) (omega arith) room.1 t refl
      ∙ (unfold store_at in (sym e₃)))
