-- The files of the trials: name "a", from cluster 4 on.
use Rattle.std.specs.Prelude.{List, [], ◌∷◌, ◌++◌, ℕ, ◌/◌, ◌%◌}
use Rattle.entry_set.specs.declared.stamp.Stamp.{Stamp}
use Rattle.trials.specs.Volume.{word_bytes, padded}

-- the stamp that the entries have at first, and the one that the calls give
unfoldable pub earlier : Stamp
earlier = record { value = 0x5A210000; increment = 10; offset = 0x84 }

unfoldable pub given : Stamp
given = record { value = 0x5B65A80F; increment = 150; offset = 0xA0 }

-- three entries of a file "a" from cluster 4 on, by checksum, attributes, the stamp of modified and accessed, the stream's flags, valid
-- length and length; created is the earlier stamp
unfoldable pub trial_set : ℕ → ℕ → Stamp → ℕ → ℕ → ℕ → List ℕ
trial_set sum attributes t flags valid len =
    padded 32
    ((0x85 ∷ 2 ∷ sum % 256 ∷ sum / 256 ∷ attributes ∷ 0 ∷ 0 ∷ 0 ∷ [])
    ++ word_bytes earlier.value
    ++ word_bytes t.value
    ++ word_bytes t.value
    ++ (earlier.increment ∷ t.increment ∷ earlier.offset ∷ t.offset ∷ t.offset ∷ []))
    ++ padded 20 ((0xC0 ∷ flags ∷ 0 ∷ 1 ∷ 0x34 ∷ 0x12 ∷ 0 ∷ 0 ∷ []) ++ word_bytes valid)
    ++ word_bytes 4
    ++ padded 8 (word_bytes len)
    ++ padded 32 (0xC1 ∷ 0 ∷ 0x61 ∷ [])

-- those of the file of T11 and T12: a run, valid length 700
unfoldable pub entries : ℕ → ℕ → Stamp → ℕ → List ℕ
entries sum attributes t len = trial_set sum attributes t 3 700 len
