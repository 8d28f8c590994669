-- A directory whose file entries are all sound, with nothing in use after the first entry of type 0. Assumes nothing.
use mathlib.Core.Path.{◌≡◌, sym, ◌∙◌, ap}
use mathlib.Core.Logic.{◌≢◌}
use mathlib.Core.Bool.{true, false, false≢true}
use mathlib.Core.List.{List}
use Prim.Native.Nat.{ℕ, ◌+◌, ◌-◌, ◌*◌, ◌≤◌, ◌<◌}
use native.Mathlib.Decide.{dec_le}
use native.Mathlib.Omega.{arith}
use lib.ListN.{length, get_or}
use Rattle.primitives.specs.Bits.{bit_of}
use Rattle.directory.specs.Entries.{entry_count, type_at, in_use, before_end, is_file, entries_at, set_at, is_sound}
use Rattle.directory.proofs.EntryLaws.{used_of, used_file, before_of, file_type, file_of, sound_few, sound_room, sound_formed, set_size, set_byte, set_rest, set-count, set_type}
use Rattle.directory.proofs.FitLaws.{Fit, fit_next, fit_used}

-- the clauses of 01's tidy that speak of a directory's bytes alone
pub record Ordered (C size : ℕ) (bs : List ℕ) : Type 0 where
  pub whole : length bs ≡ 32 * entry_count bs
  pub sound : (i : ℕ) → is_file bs i ≡ true → is_sound C size bs i ≡ true
  pub ended : (i j : ℕ) → i < j → type_at bs i ≡ 0 → in_use bs j ≡ false

-- ---- a sound set

module _ (C size : ℕ) (bs : List ℕ) (i : ℕ) (s : is_sound C size bs i ≡ true) where
  abbrev few : entries_at bs i ≤ 19
  few = sound_few C size bs i s

  abbrev room : i + entries_at bs i ≤ entry_count bs
  room = sound_room C size bs i s

  pub sound_fit : Fit C size (entries_at bs i) (set_at bs i)
  sound_fit = record {
    full = set_size bs i few room;
    formed = sound_formed C size bs i s;
    count = set-count bs i few room;
    rest = set_rest bs i few room;
  }

  pub sound_byte : (k : ℕ) → k < 32 * entries_at bs i → get_or (set_at bs i) k 0 ≡ get_or bs (32 * i + k) 0
  sound_byte = set_byte bs i few room

  -- every entry of it is in use
  pub sound_used : (j : ℕ) → i ≤ j → j < i + entries_at bs i → in_use bs j ≡ true
  sound_used j l h =
      let e : i + (j - i) ≡ j = omega arith in
      used_of bs j
      (ap (λ (x : ℕ). bit_of (type_at bs x) 7) (sym e) ∙ ap (λ (x : ℕ). bit_of x 7) (sym (set_type bs i few room (j - i) (omega arith)))
      ∙ fit_used C size (entries_at bs i) (set_at bs i) sound_fit (j - i) (omega arith))

  -- and only the first is a file entry
  pub sound_next : (j : ℕ) → i < j → j < i + entries_at bs i → type_at bs j ≢ 0x85
  sound_next j l h q =
      let e : i + (j - i) ≡ j = omega arith in
      fit_next C size (entries_at bs i) (set_at bs i) sound_fit (j - i) (omega arith) (omega arith)
      (set_type bs i few room (j - i) (omega arith) ∙ ap (type_at bs) e ∙ q)

-- ---- an ordered directory

module _ (C size : ℕ) (bs : List ℕ) (o : Ordered C size bs) where
  pub file_room : (i : ℕ) → is_file bs i ≡ true → i + entries_at bs i ≤ entry_count bs
  file_room i f = sound_room C size bs i (o.sound i f)

  pub file_few : (i : ℕ) → is_file bs i ≡ true → entries_at bs i ≤ 19
  file_few i f = sound_few C size bs i (o.sound i f)

  pub file_fit : (i : ℕ) → is_file bs i ≡ true → Fit C size (entries_at bs i) (set_at bs i)
  file_fit i f = sound_fit C size bs i (o.sound i f)

  pub file_byte : (i : ℕ) → is_file bs i ≡ true → (k : ℕ) → k < 32 * entries_at bs i → get_or (set_at bs i) k 0 ≡ get_or bs (32 * i + k) 0
  file_byte i f = sound_byte C size bs i (o.sound i f)

  pub file_used : (i : ℕ) → is_file bs i ≡ true → (j : ℕ) → i ≤ j → j < i + entries_at bs i → in_use bs j ≡ true
  file_used i f = sound_used C size bs i (o.sound i f)

  -- sets do not overlap
  pub files_apart : (i j : ℕ) → is_file bs i ≡ true → is_file bs j ≡ true → i < j → i + entries_at bs i ≤ j
  files_apart i j f g h =
      elim (dec_le (i + entries_at bs i) j) [
        | yes p ↦ p
        | no p ↦ absurd (sound_next C size bs i (o.sound i f) j h (omega arith) (file_type bs j g))
      ]

  -- no entry of type 0 stands before one that is in use
  pub used_before : (j : ℕ) → in_use bs j ≡ true → before_end bs j ≡ true
  used_before j u = before_of bs j (λ i h z. false≢true (sym (o.ended i j h z) ∙ u))

  -- an entry of type 0x85 is a file entry
  pub type_file : (j : ℕ) → type_at bs j ≡ 0x85 → is_file bs j ≡ true
  type_file j e = file_of bs j (used_before j (used_file bs j e)) e
