-- Listing, a call of its own (01: "writes count numbers and leaves the rest of the list").
use Rattle.std.specs.Prelude.{cond, List, [], ◌∷◌, ℕ, eqb, ltb, length}
use Rattle.primitives.specs.Splice.{splice}
use Rattle.boot.specs.declared.geometry.Geometry.{Geometry}
use Rattle.boot.specs.declared.layout.Layout.{Layout}
use Rattle.boot.specs.Layout.{layout_of}
use Rattle.boot.specs.Causes.{first_cause, admit_cause}
use Rattle.stream.specs.declared.allocation.Allocation.{Allocation}
use Rattle.stream.specs.Stream.{number_of, clusters_of, stream_of}

-- 14: the list is shorter than the stream's count
unfoldable pub room_cause : Allocation → ℕ → ℕ
room_cause a room = cond (ltb room a.count) 14 0

-- on a volume that keeps the limits: 14, then the record's own causes
unfoldable pub listed_number : Layout → List ℕ → Allocation → ℕ → ℕ
listed_number y d a room = first_cause (room_cause a room ∷ number_of (stream_of y d a) ∷ [])

-- and the list after it: the clusters at its front, the rest as it was; refused, as it was
unfoldable pub listed_list : (y : Layout) (d : List ℕ) (a : Allocation) (l : List ℕ) → List ℕ
listed_list y d a l = cond (eqb (listed_number y d a (length l)) 0) (splice l 0 (clusters_of (stream_of y d a))) l

-- the number: what refuses any call, 14, then the record's own causes
unfoldable pub listing_number : (g : Geometry) (d m : List ℕ) (a : Allocation) (room : ℕ) → ℕ
listing_number g d m a room = first_cause (admit_cause g d m ∷ listed_number (layout_of g (length d)) d a room ∷ [])

-- the list after the call
unfoldable pub listing_list : (g : Geometry) (d m : List ℕ) (a : Allocation) (l : List ℕ) → List ℕ
listing_list g d m a l = cond (eqb (admit_cause g d m) 0) (listed_list (layout_of g (length d)) d a l) l
