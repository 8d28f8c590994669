-- The bytes in which a caller gives stamps.
use Rattle.std.specs.Prelude.{List, ℕ, ◌+◌, get_or}
use Rattle.primitives.specs.Words.{get_le}
use Rattle.entry_set.specs.declared.stamp.Stamp.{Stamp}
use Rattle.entry_set.specs.declared.stamp.Stamps.{Stamps}

-- a stamp's 6 bytes from byte `at` on: the 4-byte value low byte first, the increment, the offset
unfoldable pub stamp_at : List ℕ → ℕ → Stamp
stamp_at bs at = record { value = get_le 4 bs at; increment = get_or bs (at + 4) 0; offset = get_or bs (at + 5) 0 }

-- three of them, one after the other: created, modified, accessed
unfoldable pub stamps_at : List ℕ → ℕ → Stamps
stamps_at bs at = record { created = stamp_at bs at; modified = stamp_at bs (at + 6); accessed = stamp_at bs (at + 12) }
