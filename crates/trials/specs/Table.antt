-- The marked trials T1 to T12 of 01, and rows that tell its slips apart, as one table. proofs/Agree.antt: every row agrees.
use Rattle.std.specs.Prelude.{true, false, List, [], ◌∷◌, ◌++◌, ℕ, replicate}
use Rattle.metadata.specs.Fat.{BAD}
use Rattle.stream.specs.declared.allocation.Allocation.{Allocation}
use Rattle.stream.specs.Stream.{empty}
use Rattle.trials.specs.Volume.{Link, Volume, trial_bytes, linked, padded}
use Rattle.trials.specs.File.{earlier, given, entries}
use Rattle.trials.specs.Trial.{Call, allocate, extend, shrink, listing, new_length, Result, answered, listed, carried, Trial}

-- a volume by the two bytes of its bitmap and its FAT entries that are not 0, the root's left out
abbrev pub volume : ℕ → ℕ → List Link → Volume
volume b0 b1 ls = record { mark0 = b0; mark1 = b1; links = ls; heap = [] }

-- FAT entry k is v
abbrev pub link : ℕ → ℕ → Link
link k v = record { at = k; value = v }

-- a run by first, last and count
abbrev pub run : ℕ → ℕ → ℕ → Allocation
run first last count = record { first = first; last = last; count = count; no_fat_chain = true }

-- a chain by first, last and count
abbrev pub chain : ℕ → ℕ → ℕ → Allocation
chain first last count = record { first = first; last = last; count = count; no_fat_chain = false }

-- number, record, hint, and the volume after the call
abbrev pub gives : ℕ → Allocation → ℕ → Volume → Result
gives number a hint v = answered (record { number = number; allocation = a; hint = hint }) (trial_bytes v)

-- number, hint, and the volume after a file call that makes no set
abbrev pub leaves : ℕ → ℕ → Volume → Result
leaves number hint v = carried (record { number = number; slot = 0; hint = hint }) (trial_bytes v)

-- a row
abbrev pub trial : Volume → Call → Result → Trial
trial v c r = record { start = v; call = c; expected = r }

-- only the bitmap's cluster and the root's are marked
unfoldable pub new : Volume
new = volume 0x03 0x00 []

-- the same with cluster 6 bad
unfoldable pub bad6 : Volume
bad6 = volume 0x03 0x00 (link 6 BAD ∷ [])

-- a list of 16 places as it came
unfoldable pub page : List ℕ
page = replicate 16 99

-- T6's list
unfoldable pub list6 : List ℕ
list6 = 10 ∷ 11 ∷ 12 ∷ 13 ∷ 14 ∷ 15 ∷ 16 ∷ 17 ∷ 4 ∷ 5 ∷ 7 ∷ 8 ∷ 9 ∷ []

-- after T6: every cluster but 6 is marked
unfoldable pub after6 : Volume
after6 = volume 0xEF 0xFF (link 6 BAD ∷ linked list6)

-- 4..6 are a file's run, 7 is taken
unfoldable pub file : Volume
file = volume 0x3F 0x00 []

-- after T8: 8 is marked too
unfoldable pub after8 : Volume
after8 = volume 0x7F 0x00 (linked (4 ∷ 5 ∷ 6 ∷ 8 ∷ []))

-- after T9: 8 is free again, its entry 0; the links of the kept clusters stay
unfoldable pub after9 : Volume
after9 = volume 0x3F 0x00 (linked (4 ∷ 5 ∷ 6 ∷ []))

-- FAT 4 to 5 to 4
unfoldable pub loop : Volume
loop = volume 0x0F 0x00 (link 4 5 ∷ link 5 4 ∷ [])

-- old entries of clusters that are free now
unfoldable pub old : List Link
old = link 4 9 ∷ link 5 0xFFFFFFFF ∷ link 6 0x12345678 ∷ []

-- FAT 4 to 5 to 0xFFFFFFF8
unfoldable pub eight : Volume
eight = volume 0x0F 0x00 (link 4 5 ∷ link 5 0xFFFFFFF8 ∷ [])

-- a volume by byte 0 of its bitmap, a file's entries at slot 0 of the root, and the bytes of clusters 4, 5 and 6
abbrev pub filed : ℕ → List ℕ → List ℕ → Volume
filed b0 es bs = record { mark0 = b0; mark1 = 0x00; links = []; heap = padded 512 es ++ bs }

-- 4..5 are a file's run, length and valid 700: its bytes are 0xA5, and those behind them in 5 and 6, old contents, 0xB5
unfoldable pub file700 : Volume
file700 = filed 0x0F (entries 0x16EC 0x01 earlier 700) (replicate 700 0xA5 ++ replicate 836 0xB5)

-- after T11: 6 is marked too, bytes 700..1,023 are 0, and 6 has its old contents
unfoldable pub after11 : Volume
after11 = filed 0x1F (entries 0x3328 0x21 given 1300) (replicate 700 0xA5 ++ (replicate 324 0 ++ replicate 512 0xB5))

-- after T12: bytes 700..899 are 0, and the rest of 5 has its old contents
unfoldable pub after12 : Volume
after12 = filed 0x0F (entries 0x0B29 0x21 given 900) (replicate 700 0xA5 ++ (replicate 200 0 ++ replicate 636 0xB5))

-- T1 allocate 0: empty, hint 4
unfoldable pub T1 : Trial
T1 = trial new (allocate 0 4) (gives 0 empty 4 new)

-- T2 allocate 3: run 4..6, hint 7, bitmap byte 0 is 0x1F
unfoldable pub T2 : Trial
T2 = trial new (allocate 3 4) (gives 0 (run 4 6 3) 7 (volume 0x1F 0x00 []))

-- T3 allocate 14: run 4..17, hint 2
unfoldable pub T3 : Trial
T3 = trial new (allocate 14 4) (gives 0 (run 4 17 14) 2 (volume 0xFF 0xFF []))

-- T4 allocate 15: 7
unfoldable pub T4 : Trial
T4 = trial new (allocate 15 4) (gives 7 empty 4 new)

-- T5 cluster 6 bad, allocate 3: run 7..9
unfoldable pub T5 : Trial
T5 = trial bad6 (allocate 3 4) (gives 0 (run 7 9 3) 10 (volume 0xE3 0x00 (link 6 BAD ∷ [])))

-- T6 the same, 13, hint 10: list 10..17, 4, 5, 7, 8, 9
unfoldable pub T6 : Trial
T6 = trial bad6 (allocate 13 10) (gives 0 (chain 10 9 13) 10 after6)

-- and the record that it answers, listed on the volume after it; the rest of the list stays
unfoldable pub T6_list : Trial
T6_list = trial after6 (listing (chain 10 9 13) page) (listed 0 (list6 ++ replicate 3 99))

-- T7 the same, 14: 7
unfoldable pub T7 : Trial
T7 = trial bad6 (allocate 14 10) (gives 7 empty 10 bad6)

-- T8 4..6 a file's run, 7 taken, extend 1: 4, 5, 6, 8 as a chain, hint 9
unfoldable pub T8 : Trial
T8 = trial file (extend (run 4 6 3) 1 4) (gives 0 (chain 4 8 4) 9 after8)

-- and that record listed
unfoldable pub T8_list : Trial
T8_list = trial after8 (listing (chain 4 8 4) page) (listed 0 ((4 ∷ 5 ∷ 6 ∷ 8 ∷ []) ++ replicate 12 99))

-- T9 shrink that to 3: run 4..6. Slip: the flag left clear
unfoldable pub T9 : Trial
T9 = trial after8 (shrink (chain 4 8 4) 3 9) (gives 0 (run 4 6 3) 9 after9)

-- T10 FAT 4 to 5 to 4, chain record 4, 5, count 2: 4, by each call that reads a record
unfoldable pub T10_list : Trial
T10_list = trial loop (listing (chain 4 5 2) page) (listed 4 page)

unfoldable pub T10_extend : Trial
T10_extend = trial loop (extend (chain 4 5 2) 1 4) (gives 4 (chain 4 5 2) 4 loop)

unfoldable pub T10_shrink : Trial
T10_shrink = trial loop (shrink (chain 4 5 2) 1 4) (gives 4 (chain 4 5 2) 4 loop)

-- T11 length and valid 700, set 1,300: zero 700..1,023, valid 700. Slip: zeroing the whole gap, and so 276 bytes of cluster 6
unfoldable pub T11 : Trial
T11 = trial file700 (new_length 0 1300 given 4) (leaves 0 7 after11)

-- T12 the same, set 900: zero 700..899
unfoldable pub T12 : Trial
T12 = trial file700 (new_length 0 900 given 4) (leaves 0 4 after12)

-- slip: zeroing a run's old FAT entries on allocation. They stay
unfoldable pub old_entries : Trial
old_entries = trial (volume 0x03 0x00 old) (allocate 3 4) (gives 0 (run 4 6 3) 7 (volume 0x1F 0x00 old))

-- slip: treating 0xFFFFFFF8 as an end. It is 3, by each call that reads a record
unfoldable pub eight_list : Trial
eight_list = trial eight (listing (chain 4 5 2) page) (listed 3 page)

unfoldable pub eight_extend : Trial
eight_extend = trial eight (extend (chain 4 5 2) 1 4) (gives 3 (chain 4 5 2) 4 eight)

unfoldable pub eight_shrink : Trial
eight_shrink = trial eight (shrink (chain 4 5 2) 1 4) (gives 3 (chain 4 5 2) 4 eight)

-- the table
unfoldable pub trials : List Trial
trials =
    T1
    ∷ T2
    ∷ T3
    ∷ T4
    ∷ T5
    ∷ T6
    ∷ T6_list
    ∷ T7
    ∷ T8
    ∷ T8_list
    ∷ T9
    ∷ T10_list
    ∷ T10_extend
    ∷ T10_shrink
    ∷ T11
    ∷ T12
    ∷ old_entries
    ∷ eight_list
    ∷ eight_extend
    ∷ eight_shrink
    ∷ []
