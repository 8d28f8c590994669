-- The number of a call: the first of its causes that is met (01, "What a call answers"). 0 is success.
use Rattle.std.specs.Prelude.{cond, List, [], ◌∷◌, ℕ, ◌+◌, eqb, ltb, length, Result, Ok, Err}
use Rattle.boot.specs.declared.cause.Cause.{Cause}
use Rattle.boot.specs.declared.cause.Cause.TheVariants.{Limits, OutsideHeap, NoCluster, Endless, OtherChain, Unmarked, NoSpace, PastEnd, SystemCluster, NoFile, IsDirectory, BadName, BadAttributes, ShortList, BadZeros}
use Rattle.boot.specs.declared.geometry.Geometry.{Geometry}
use Rattle.boot.specs.Limits.{limits}
use Rattle.boot.specs.Layout.{in_heap}

-- the number of each cause (01: the table; 15 is 02's)
abbrev pub cause_number : Cause → ℕ
cause_number Limits = 1
cause_number OutsideHeap = 2
cause_number NoCluster = 3
cause_number Endless = 4
cause_number OtherChain = 5
cause_number Unmarked = 6
cause_number NoSpace = 7
cause_number PastEnd = 8
cause_number SystemCluster = 9
cause_number NoFile = 10
cause_number IsDirectory = 11
cause_number BadName = 12
cause_number BadAttributes = 13
cause_number ShortList = 14
cause_number BadZeros = 15

-- the number of what a function returns: 0 for success, else the cause's
abbrev pub number : {T : Type 0} → Result T Cause → ℕ
number (Ok x) = 0
number (Err c) = cause_number c

-- the first cause that is not 0, in the order of the list
unfoldable pub first_cause : List ℕ → ℕ
first_cause [] = 0
first_cause (c ∷ cs) = cond (eqb c 0) (first_cause cs) c

-- 1: geometry or a slice length breaks the limits
unfoldable pub limits_cause : (g : Geometry) (d m : List ℕ) → ℕ
limits_cause g d m = cond (limits g (length d) m) 0 1

-- what refuses any call before all else (01: "Every call tests 1 first"); further causes of this kind join the list
unfoldable pub admit_cause : (g : Geometry) (d m : List ℕ) → ℕ
admit_cause g d m = first_cause (limits_cause g d m ∷ [])

-- 2: a hint, a near or a root cluster outside 2..C+1
unfoldable pub heap_cause : (C k : ℕ) → ℕ
heap_cause C k = cond (in_heap C k) 0 2

-- 7: more clusters are wanted than there are
unfoldable pub space_cause : (wanted there : ℕ) → ℕ
space_cause wanted there = cond (ltb there wanted) 7 0

-- the hint after cluster k - 1: k, or 2 after cluster C + 1
unfoldable pub wrap : (C k : ℕ) → ℕ
wrap C k = cond (ltb k (C + 2)) k 2
