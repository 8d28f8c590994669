-- The name and the attributes of a new file (01, "New file"; exFAT specification, 7.7.3 and 7.4.4).
use Rattle.std.specs.Prelude.{Bool, false, ◌&&◌, ◌||◌, not, cond, List, [], ◌∷◌, ℕ, ◌/◌, ◌%◌, eqb, leb, ltb, length, get_or}
use Rattle.tables.specs.Lists.{every}

-- the nine refused units
unfoldable pub refused_units : List ℕ
refused_units = 34 ∷ 42 ∷ 47 ∷ 58 ∷ 60 ∷ 62 ∷ 63 ∷ 92 ∷ 124 ∷ []

-- u stands in a list
unfoldable pub member : ℕ → List ℕ → Bool
member u [] = false
member u (x ∷ xs) = eqb x u || member u xs

-- a unit that a name may have: not below 32, and none of the nine
unfoldable pub unit_ok : ℕ → Bool
unit_ok u = leb 32 u && not (member u refused_units)

-- the name is "." or ".."
unfoldable pub is_dots : List ℕ → Bool
is_dots name =
    (eqb (length name) 1 && eqb (get_or name 0 0) 46)
    || (eqb (length name) 2 && (eqb (get_or name 0 0) 46 && eqb (get_or name 1 0) 46))

-- a name of 1 to 255 units, each allowed, and not "." or ".."
unfoldable pub name_ok : List ℕ → Bool
name_ok name = leb 1 (length name) && (leb (length name) 255 && (every unit_ok name && not (is_dots name)))

-- 12: the name is refused
unfoldable pub name_cause : List ℕ → ℕ
name_cause name = cond (name_ok name) 0 12

-- attributes with no bit outside 0x27: bits 3 and 4 and those from 6 on are clear
unfoldable pub attributes_ok : ℕ → Bool
attributes_ok a = ltb a 64 && eqb (a / 8 % 4) 0

-- 13: an attribute outside 0x27
unfoldable pub attribute_cause : ℕ → ℕ
attribute_cause a = cond (attributes_ok a) 0 13
