-- The words in which arguments and answers cross the C boundary.
use Rattle.file.specs.Outcome.{FileAnswer}
use Rattle.std.specs.Prelude.{Bool, not, cond, List, [], ◌∷◌, ℕ, eqb, get_or}
use Rattle.stream.specs.declared.allocation.Allocation.{Allocation}
use Rattle.read_file.specs.declared.part.Part.{Part}
use Rattle.write_alloc.specs.Outcome.{Answer}

-- a flag in a word: 0 is clear, any other value set
unfoldable pub flag_of : ℕ → Bool
flag_of w = not (eqb w 0)

-- and back: 0 or 1
unfoldable pub flag_word : Bool → ℕ
flag_word b = cond b 1 0

-- the 4 words of a record: first, last, count, no_fat_chain
unfoldable pub allocation_of : List ℕ → Allocation
allocation_of ws =
    record { first = get_or ws 0 0; last = get_or ws 1 0; count = get_or ws 2 0; no_fat_chain = flag_of (get_or ws 3 0) }

-- the 8 words that a free count leaves in `out`
unfoldable pub count_words : ℕ → List ℕ
count_words n = n ∷ 0 ∷ 0 ∷ 0 ∷ 0 ∷ 0 ∷ 0 ∷ 0 ∷ []

-- those of a part: 1 for the zeros or 0 for the volume, the first byte there, and how many bytes
unfoldable pub part_words : Part → List ℕ
part_words p = flag_word p.zeros ∷ p.start ∷ p.len ∷ 0 ∷ 0 ∷ 0 ∷ 0 ∷ 0 ∷ []

-- and those that allocate, extend and shrink leave there: the record, then the hint
unfoldable pub answer_words : Answer → List ℕ
answer_words r =
    r.allocation.first
    ∷ r.allocation.last
    ∷ r.allocation.count
    ∷ flag_word r.allocation.no_fat_chain
    ∷ r.hint
    ∷ 0
    ∷ 0
    ∷ 0
    ∷ []

-- the 8 words that a new file leaves in `out`: its slot, then the hint
unfoldable pub slot_words : FileAnswer → List ℕ
slot_words r = r.slot ∷ r.hint ∷ 0 ∷ 0 ∷ 0 ∷ 0 ∷ 0 ∷ 0 ∷ []

-- and those that write, set length and remove leave there: the hint
unfoldable pub hint_words : FileAnswer → List ℕ
hint_words r = r.hint ∷ 0 ∷ 0 ∷ 0 ∷ 0 ∷ 0 ∷ 0 ∷ 0 ∷ []
