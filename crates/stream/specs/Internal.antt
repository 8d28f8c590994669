-- What only contracts of inner functions, and proofs, speak of: no promise of a public call and no clause of the claim needs it.
use Rattle.std.specs.Prelude.{Bool, cond, false, not, ◌&&◌, List, [], ◌∷◌, ℕ, zero, suc, ◌+◌, ◌-◌, ◌*◌, ◌/◌, ◌%◌, ◌≤◌, ◌≡◌, eqb, length, get_or, min, Result, Ok, Err}
use Rattle.boot.specs.declared.layout.Layout.{Layout}
use Rattle.boot.specs.Limits.{in_map}
use Rattle.boot.specs.Layout.{is_bitmap_cluster}
use Rattle.metadata.specs.Fat.{fat_entry}
use Rattle.metadata.specs.Marks.{marked}
use Rattle.stream.specs.declared.allocation.Allocation.{Allocation}
use Rattle.stream.specs.declared.bytes.Place.{Place}
use Rattle.stream.specs.declared.bytes.ByteWalk.{ByteWalk}
use Rattle.stream.specs.declared.bytes.Piece.{Piece}
use Rattle.tables.specs.Lists.{every, last_or}
use Rattle.boot.specs.declared.cause.Cause.{Cause}
use Rattle.boot.specs.Causes.{cause_number}
use Rattle.stream.specs.declared.walk.Walk.{Walk}
use Rattle.stream.specs.Chain.{Clusters, listed, refused, read_chain}

-- the cluster after k: the next number in a run, what the FAT says in a chain
unfoldable pub after : (ℕ → ℕ) → Bool → ℕ → ℕ
after fat run k = cond run (k + 1) (fat k)

-- n clusters from k on
unfoldable pub along : (ℕ → ℕ) → Bool → ℕ → ℕ → List ℕ
along fat run k zero = []
along fat run k (suc n) = k ∷ along fat run (after fat run k) n

-- the cluster that n steps along a stream lead to from k
unfoldable pub reached : (ℕ → ℕ) → Bool → ℕ → ℕ → ℕ
reached fat run k zero = k
reached fat run k (suc n) = reached fat run (after fat run k) n

-- the place so many steps along stream a
abbrev pub place_at : (y : Layout) (d : List ℕ) (a : Allocation) (steps : ℕ) → Place
place_at y d a steps = record { cluster = reached (fat_entry y d) a.no_fat_chain a.first steps; steps = steps }

-- place p is one of stream a, at byte i or before it: its steps lead to its cluster, and neither past the last one nor past that byte's
pub record Known (y : Layout) (d : List ℕ) (a : Allocation) (p : Place) (i : ℕ) : Type 0 where
  pub reaches : reached (fat_entry y d) a.no_fat_chain a.first p.steps ≡ p.cluster
  pub inside : p.steps ≤ a.count - 1
  pub before : p.steps * y.size ≤ i

-- a walk over n bytes of stream a, piece by piece, before its byte i
abbrev pub byte_walk : (y : Layout) (d : List ℕ) (a : Allocation) (i n : ℕ) → ByteWalk
byte_walk y d a i n =
    record { run = a.no_fat_chain; cluster = reached (fat_entry y d) a.no_fat_chain a.first (i / y.size); at = i % y.size; from = 0; end = n }

-- how many bytes stand one behind the other there: all that are left of a run's, those of the cluster in a chain
unfoldable pub piece_length : (y : Layout) (c : ByteWalk) → ℕ
piece_length y c = cond c.run (c.end - c.from) (min (y.size - c.at) (c.end - c.from))

-- the piece of them
abbrev pub piece_of : (y : Layout) (c : ByteWalk) → Piece
piece_of y c = record { cluster = c.cluster; at = c.at; from = c.from; len = piece_length y c }

-- behind it
abbrev pub past_piece : (y : Layout) (d : List ℕ) (c : ByteWalk) → ByteWalk
past_piece y d c =
    record { run = c.run; cluster = after (fat_entry y d) c.run c.cluster; at = 0; from = c.from + piece_length y c; end = c.end }

-- cluster k may not be in a stream (number 9): a bitmap's cluster in the root directory, a system cluster in any other stream
unfoldable pub barred : (y : Layout) (m : List ℕ) (root : Bool) (k : ℕ) → Bool
barred y m root k = cond root (is_bitmap_cluster y k) (in_map m k)

-- what a walk of a chain tells: a number, and where it is 0 the chain's last cluster, its length, whether all are marked, whether none is
-- barred, and the cluster that is looked for
pub record Walked : Type 0 where
  pub number : ℕ
  pub last : ℕ
  pub count : ℕ
  pub marked : Bool
  pub clear : Bool
  pub seen : ℕ

-- by what its function gives
abbrev pub walked_of : Result Walk Cause → Walked
walked_of (Ok w) = record { number = 0; last = w.last; count = w.count; marked = w.marked; clear = w.clear; seen = w.seen }
walked_of (Err c) = record { number = cause_number c; last = 0; count = 0; marked = false; clear = false; seen = 0 }

-- what a walk of a chain answers, by two tests of its clusters, whether all are marked and whether none is barred, and with the cluster
-- that stands at place `goal`
unfoldable pub walked : (mark free : ℕ → Bool) (goal : ℕ) → Clusters → Walked
walked mark free goal (listed ks) =
    record { number = 0; last = last_or 0 ks; count = length ks; marked = every mark ks; clear = every free ks; seen = get_or ks goal 0 }
walked mark free goal (refused n) = record { number = n; last = 0; count = 0; marked = false; clear = false; seen = 0 }

-- the number of a walk under a record: the walk's, then 5, then 6
unfoldable pub walk_cause : (w : Walked) (last count : ℕ) → ℕ
walk_cause w last count =
    cond (eqb w.number 0) (cond (eqb w.count count && eqb w.last last) (cond w.marked 0 6) 5) w.number

-- a walk of the chain from first sees that none of its clusters is a system cluster
unfoldable pub chain_clear : (y : Layout) (d m : List ℕ) (first : ℕ) → Bool
chain_clear y d m first = (walked (marked y d) (λ k. not (barred y m false k)) 0 (read_chain y.count (fat_entry y d) first)).clear

-- a record is a chain's, and the walk of it sees that
unfoldable pub stream_clear : (y : Layout) (d m : List ℕ) (a : Allocation) → Bool
stream_clear y d m a = not (eqb a.count 0) && (not a.no_fat_chain && chain_clear y d m a.first)

-- each of the four FAT entries from k's on names the next number
unfoldable pub four_follow : (fat : ℕ → ℕ) (k : ℕ) → Bool
four_follow fat k = (eqb (fat k) (k + 1) && eqb (fat (k + 1)) (k + 2)) && (eqb (fat (k + 2)) (k + 3) && eqb (fat (k + 3)) (k + 4))

-- how many pieces of consecutive clusters begin behind k
unfoldable pub breaks : ℕ → List ℕ → ℕ
breaks k [] = 0
breaks k (j ∷ js) = cond (eqb j (k + 1)) (breaks j js) (suc (breaks j js))

-- how many pieces a list falls into, `leading` being the clusters of the first (02: stretches); nothing promises it yet
unfoldable pub stretches : List ℕ → ℕ
stretches [] = 0
stretches (k ∷ ks) = suc (breaks k ks)
