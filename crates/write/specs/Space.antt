-- The clusters that a volume's lengths take, those that a call must add, and what else refuses a call.
use Rattle.std.specs.Prelude.{cond, List, [], ◌∷◌, ℕ, zero, suc, ◌+◌, ◌-◌, max, eqb, length}
use Rattle.tables.specs.Count.{count}
use Rattle.boot.specs.declared.geometry.Geometry.{Geometry}
use Rattle.boot.specs.Causes.{first_cause, admit_cause, heap_cause}
use Rattle.metadata.specs.Usable.{is_usable}
use Rattle.entry_set.specs.Fields.{data_length, clusters_for}
use Rattle.entry_set.specs.Name.{name_cause, attribute_cause}
use Rattle.directory.specs.Directory.{directory_cause}
use Rattle.directory.specs.Entries.{entry_count}
use Rattle.write_file.specs.NewFile.{new_growth}
use Rattle.file.specs.Refresh.{open_cause}
use Rattle.write_file.specs.Write.{end_cause}
use Rattle.write.specs.Calls.{Call, New, Write, SetLength, Remove}
use Rattle.write.specs.Consistent.{lay, root, root_clusters, root_bytes, file_at, set_of}

-- a length takes ceil(length / cluster size) clusters: that of the entry at slot i, directories counted too
unfoldable pub length_takes : Geometry → List ℕ → ℕ → ℕ
length_takes g d i = cond (file_at g d i) (clusters_for (lay g d).size (data_length (set_of g d i))) 0

-- the sum over the first n slots
unfoldable pub sum : (ℕ → ℕ) → ℕ → ℕ
sum f zero = 0
sum f (suc n) = sum f n + f n

-- the clusters of all lengths and of the root
unfoldable pub clusters_taken : Geometry → List ℕ → ℕ
clusters_taken g d = length (root_clusters g d) + sum (length_takes g d) (entry_count (root_bytes g d))

-- how many clusters are usable
unfoldable pub usable : (g : Geometry) (m d : List ℕ) → ℕ
usable g m d = count (is_usable (lay g d) d m) 2 (lay g d).count

-- what a new length takes beyond the old one of the file at slot i
unfoldable pub beyond : (g : Geometry) (d : List ℕ) (i len : ℕ) → ℕ
beyond g d i len = clusters_for (lay g d).size len - clusters_for (lay g d).size (data_length (set_of g d i))

-- what a call must add: what its new length takes beyond the old; a new file the fewest zeroed clusters that give the root room; else 0
unfoldable pub must_add : Geometry → List ℕ → Call → ℕ
must_add g d (New name attributes hash t hint) = new_growth (lay g d) d (root g d) (length name)
must_add g d (Write i offset bs t hint) = cond (eqb (length bs) 0) 0 (beyond g d i (max (data_length (set_of g d i)) (offset + length bs)))
must_add g d (SetLength i len t hint) = beyond g d i len
must_add g d (Remove i hint) = 0

-- the first cause that a call meets other than 7
unfoldable pub other_cause : Geometry → List ℕ → List ℕ → Call → ℕ
other_cause g m d (New name attributes hash t hint) =
    first_cause
    (admit_cause g d m
    ∷ heap_cause (lay g d).count hint
    ∷ directory_cause (lay g d) d (root g d)
    ∷ name_cause name
    ∷ attribute_cause attributes
    ∷ [])
other_cause g m d (Write i offset bs t hint) =
    first_cause (admit_cause g d m ∷ open_cause (lay g d) d m (root g d) i hint ∷ cond (eqb (length bs) 0) 0 (end_cause offset (length bs)) ∷ [])
other_cause g m d (SetLength i len t hint) = first_cause (admit_cause g d m ∷ open_cause (lay g d) d m (root g d) i hint ∷ [])
other_cause g m d (Remove i hint) = first_cause (admit_cause g d m ∷ open_cause (lay g d) d m (root g d) i hint ∷ [])
