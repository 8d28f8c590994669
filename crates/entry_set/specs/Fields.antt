-- The fields of an entry set, s being its bytes from the file entry on (exFAT specification, 7.4, 7.6 and 7.7).
use Rattle.std.specs.Prelude.{Bool, List, ℕ, ◌*◌, eqb, get_or}
use Rattle.primitives.specs.Bits.{bit_of}
use Rattle.primitives.specs.Words.{get_le}
use Rattle.tables.specs.Numbers.{ceil_div}

-- the type byte of entry i (6.2.1 EntryType)
unfoldable pub entry_type : List ℕ → ℕ → ℕ
entry_type s i = get_or s (32 * i) 0

-- File entry: SecondaryCount (7.4.2)
unfoldable pub secondary_count : List ℕ → ℕ
secondary_count s = get_or s 1 0

-- File entry: SetChecksum (7.4.3)
unfoldable pub set_checksum : List ℕ → ℕ
set_checksum s = get_le 2 s 2

-- File entry: the Directory bit of FileAttributes, 0x10 (7.4.4)
unfoldable pub is_directory : List ℕ → Bool
is_directory s = eqb (bit_of (get_or s 4 0) 4) 1

-- Stream Extension entry: AllocationPossible, bit 0 of its flags (7.6.2)
unfoldable pub allocation_possible : List ℕ → Bool
allocation_possible s = eqb (bit_of (get_or s 33 0) 0) 1

-- Stream Extension entry: NoFatChain, bit 1 of its flags (7.6.2); 01: the run flag
unfoldable pub no_fat_chain : List ℕ → Bool
no_fat_chain s = eqb (bit_of (get_or s 33 0) 1) 1

-- Stream Extension entry: NameLength (7.6.3)
unfoldable pub name_length : List ℕ → ℕ
name_length s = get_or s 35 0

-- Stream Extension entry: ValidDataLength (7.6.5)
unfoldable pub valid_length : List ℕ → ℕ
valid_length s = get_le 8 s 40

-- Stream Extension entry: FirstCluster (7.6.6)
unfoldable pub first_cluster : List ℕ → ℕ
first_cluster s = get_le 4 s 52

-- Stream Extension entry: DataLength (7.6.7)
unfoldable pub data_length : List ℕ → ℕ
data_length s = get_le 8 s 56

-- the clusters that a length takes (01: ceil(length / cluster size))
unfoldable pub clusters_for : (size len : ℕ) → ℕ
clusters_for size len = ceil_div len size

-- the name entries that a name of n units takes (01: ceil(units / 15))
unfoldable pub name_entries : ℕ → ℕ
name_entries n = ceil_div n 15
