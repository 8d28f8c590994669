-- A set stored in an ordered directory: over a set of its length, over entries that are not in use, or with every type's bit 0x80
-- cleared. The directory stays ordered, and no other slot's set changes. Assumes nothing.
use mathlib.Core.Path.{◌≡◌, refl, sym, ◌∙◌, ap}
use mathlib.Core.Logic.{◌≢◌, ◌⊎◌, inl, inr, ⊎_elim}
use mathlib.Core.Bool.{Bool, true, false, not, false≢true}
use mathlib.Core.List.{List}
use mathlib.Core.Option.{Option, none, some, some-injective}
use Prim.Native.Nat.{ℕ, ◌+◌, ◌-◌, ◌*◌, ◌/◌, ◌≤◌, ◌<◌}
use native.Mathlib.Decide.{ℕ_discrete, dec_lt, dec_le}
use native.Mathlib.Omega.{arith}
use lib.ListN.{length, get_or, take}
use lib.Seq.{length-take-le, get_or-take}
use borrow.Author.Tests.{not-true}
use Rattle.primitives.specs.Bits.{bit_of}
use Rattle.primitives.specs.Splice.{splice}
use Rattle.primitives.proofs.SpliceLaws.{length-splice, splice_in, splice_below, splice_above}
use Rattle.tables.specs.Table.{upd}
use Rattle.tables.proofs.Cases.{clash, not_so}
use Rattle.tables.proofs.TableLaws.{upd_case}
use Rattle.entry_set.specs.Fields.{entry_type, secondary_count}
use Rattle.entry_set.specs.Sound.{well_formed}
use Rattle.std.specs.Prelude.{Some}
use Rattle.search.proofs.Lowest.{Lowest, run_at}
use Rattle.directory.specs.Entries.{entry_count, type_at, in_use, before_end, is_file, entries_at, set_at, is_sound}
use Rattle.directory.specs.Internal.{sets}
use Rattle.directory.specs.Room.{free_run}
use Rattle.directory.proofs.EntryLaws.{used_file, unused_zero, used_same, before_at, before_of, file_before, file_type, file_of, sound_formed, sound_of, set_is}
use Rattle.directory.proofs.FitLaws.{Fit, fit_low, fit_high, fit_first, fit_next, fit_used, used_type}
use Rattle.directory.proofs.OrderedLaws.{Ordered, file_room, file_few, file_fit, file_byte, file_used, files_apart, type_file}

-- ---- the table of sets

pub sets-file : (bs : List ℕ) (i : ℕ) → is_file bs i ≡ true → sets bs i ≡ some (set_at bs i)
unfolding sets
sets-file bs i e = rw e refl

pub sets-none : (bs : List ℕ) (i : ℕ) → is_file bs i ≡ false → sets bs i ≡ none
unfolding sets
sets-none bs i e = rw e refl

-- the set that the table has at a slot is the one that stands there
pub sets-some : (bs : List ℕ) (i : ℕ) (s : List ℕ) → sets bs i ≡ some s → (is_file bs i ≡ true) × (set_at bs i ≡ s)
sets-some bs i s e = by (is_file bs i) refl
  where
    by : (b : Bool) → is_file bs i ≡ b → (is_file bs i ≡ true) × (set_at bs i ≡ s)
    by true f = (f, some-injective (set_at bs i) s (sym (sets-file bs i f) ∙ e))
    by false f = let q = sets-none bs i f in clash (cc)

-- ---- n entries replaced from slot i on, by those of s

record Stored (bs bs' : List ℕ) (i n : ℕ) (s : List ℕ) : Type 0 where
  same : length bs' ≡ length bs
  inside : (k : ℕ) → k < 32 * n → get_or bs' (32 * i + k) 0 ≡ get_or s k 0
  outside : (p : ℕ) → (p < 32 * i) ⊎ (32 * (i + n) ≤ p) → get_or bs' p 0 ≡ get_or bs p 0

stored : (bs bs' : List ℕ) (i n : ℕ) (s : List ℕ) → bs' ≡ splice bs (32 * i) (take (32 * n) s) → 32 * n ≤ length s → i + n ≤ entry_count bs
    → Stored bs bs' i n s
unfolding entry_count
stored bs bs' i n s e l h =
    let part : List ℕ = take (32 * n) s in
    let t : length part ≡ 32 * n = length-take-le (32 * n) s l in
    let fits : 32 * i + length part ≤ length bs = omega arith in
    record {
      same = ap length e ∙ length-splice bs (32 * i) part fits;
      inside = λ k b. ap (λ (x : List ℕ). get_or x (32 * i + k) 0) e ∙ splice_in bs (32 * i) part fits k (omega arith) ∙ get_or-take (32 * n) s k 0 b;
      outside = λ p b. ap (λ (x : List ℕ). get_or x p 0) e
          ∙ ⊎_elim (λ q. splice_below bs (32 * i) part fits p q) (λ q. splice_above bs (32 * i) part fits p (omega arith)) b;
    }

-- before the first type 0, apart from other sets, with types that are not 0 and of which only the first may be a file entry's
module _ (C size : ℕ) (bs bs' : List ℕ) (i n : ℕ) (s : List ℕ) (w : Stored bs bs' i n s) (o : Ordered C size bs)
    (before : before_end bs i ≡ true)
    (apart : (j : ℕ) → j ≢ i → is_file bs j ≡ true → (j + entries_at bs j ≤ i) ⊎ (i + n ≤ j))
    (types : (k : ℕ) → k < n → entry_type s k ≢ 0)
    (next : (k : ℕ) → 1 ≤ k → k < n → entry_type s k ≢ 0x85) where
  count_same : entry_count bs' ≡ entry_count bs
  unfolding entry_count
  count_same = ap (λ (x : ℕ). x / 32) w.same

  type_in : (j : ℕ) → i ≤ j → j < i + n → type_at bs' j ≡ entry_type s (j - i)
  unfolding type_at entry_type
  type_in j l h =
      let e : 32 * j ≡ 32 * i + 32 * (j - i) = omega arith in
      ap (λ (x : ℕ). get_or bs' x 0) e ∙ w.inside (32 * (j - i)) (omega arith)

  type_out : (j : ℕ) → (j < i) ⊎ (i + n ≤ j) → type_at bs' j ≡ type_at bs j
  unfolding type_at
  type_out j h = w.outside (32 * j) (⊎_elim (λ a. inl (omega arith)) (λ a. inr (omega arith)) h)

  where_is : (j : ℕ) → ((j < i) ⊎ (i + n ≤ j)) ⊎ ((i ≤ j) × (j < i + n))
  where_is j =
      elim (dec_lt j i) [
        | yes a ↦ inl (inl a)
        | no a ↦ elim (dec_lt j (i + n)) [ yes b ↦ inr (omega arith, b) | no b ↦ inl (inr (omega arith)) ]
      ]

  nonzero : (j : ℕ) → type_at bs j ≢ 0 → type_at bs' j ≢ 0
  nonzero j d z =
      ⊎_elim (λ a. d (sym (type_out j a) ∙ z)) (λ a. types (j - i) (omega arith) (sym (type_in j a.0 a.1) ∙ z)) (where_is j)

  -- the other file entries are those that there were
  old-file : (j : ℕ) → j ≢ i → is_file bs' j ≡ true → is_file bs j ≡ true
  old-file j d f =
      ⊎_elim
      (λ a. type_file C size bs o j (sym (type_out j a) ∙ file_type bs' j f))
      (λ a. absurd (next (j - i) (omega arith) (omega arith) (sym (type_in j a.0 a.1) ∙ file_type bs' j f)))
      (where_is j)

  off : (j : ℕ) → j ≢ i → is_file bs j ≡ true → (j < i) ⊎ (i + n ≤ j)
  off j d f =
      let l = fit_low C size (entries_at bs j) (set_at bs j) (file_fit C size bs o j f) in
      ⊎_elim (λ a. inl (omega arith)) (λ a. inr a) (apart j d f)

  file-old : (j : ℕ) → j ≢ i → is_file bs j ≡ true → is_file bs' j ≡ true
  file-old j d f =
      file_of bs' j (before_of bs' j (λ k h. nonzero k (before_at bs j k (file_before bs j f) h)))
      (type_out j (off j d f) ∙ file_type bs j f)

  -- and their sets
  module _ (j : ℕ) (d : j ≢ i) (f : is_file bs j ≡ true) where
    same_byte : (k : ℕ) → k < 32 * entries_at bs j → get_or bs' (32 * j + k) 0 ≡ get_or bs (32 * j + k) 0
    same_byte k h = w.outside (32 * j + k) (⊎_elim (λ a. inl (omega arith)) (λ a. inr (omega arith)) (apart j d f))

    same_length : entries_at bs' j ≡ entries_at bs j
    unfolding entries_at
    same_length = ap (λ (x : ℕ). 1 + x) (same_byte 1 (unfold entries_at in omega arith))

    few_old : entries_at bs' j ≤ 19
    few_old = omega (arith, same_length, file_few C size bs o j f)

    room_old : j + entries_at bs' j ≤ entry_count bs'
    room_old = omega (arith, same_length, file_room C size bs o j f, count_same)

    same_set : set_at bs' j ≡ set_at bs j
    same_set =
        set_is bs' j few_old room_old (set_at bs j) (file_fit C size bs o j f).full
        (λ k h. same_byte k (omega (arith, same_length)) ∙ sym (file_byte C size bs o j f k (omega (arith, same_length))))
        (λ k h. (file_fit C size bs o j f).rest k (omega (arith, same_length)))

    sound_old : is_sound C size bs' j ≡ true
    sound_old =
        sound_of C size bs' j (file-old j d f) few_old room_old
        (ap (well_formed C size) same_set ∙ sound_formed C size bs j (o.sound j f))

  sets-old : (j : ℕ) → j ≢ i → sets bs' j ≡ sets bs j
  sets-old j d = by (is_file bs j) refl
    where
      by : (b : Bool) → is_file bs j ≡ b → sets bs' j ≡ sets bs j
      by true f = sets-file bs' j (file-old j d f) ∙ ap some (same_set j d f) ∙ sym (sets-file bs j f)
      by false f =
          sets-none bs' j (not_so (is_file bs' j) (λ g. false≢true (sym f ∙ old-file j d g))) ∙ sym (sets-none bs j f)

  sets_put : (v : Option (List ℕ)) → sets bs' i ≡ v → (j : ℕ) → sets bs' j ≡ upd (sets bs) i v j
  sets_put v e j = upd_case (λ (x : Option (List ℕ)). sets bs' j ≡ x) (sets bs) i v j (λ q. ap (sets bs') q ∙ e) (λ d. sets-old j d)

  -- nothing in use after the first type 0
  ended_put : (a b : ℕ) → a < b → type_at bs' a ≡ 0 → in_use bs' b ≡ false
  ended_put a b h z =
      ⊎_elim
      (λ q. let t : type_at bs a ≡ 0 = sym (type_out a q) ∙ z in
      elim (dec_lt a i) [
        | yes l ↦ absurd (before_at bs i a before l t)
        | no l ↦ used_same bs bs' b b (type_out b (inr (⊎_elim (λ r. absurd (omega arith)) (λ r. omega arith) q))) ∙ o.ended a b h t
      ])
      (λ q. absurd (types (a - i) (omega arith) (sym (type_in a q.0 q.1) ∙ z)))
      (where_is a)

  ordered_put : (is_file bs' i ≡ true → is_sound C size bs' i ≡ true) → Ordered C size bs'
  ordered_put own = record {
    whole = omega (arith, w.same, o.whole, count_same);
    sound = λ j f. elim (ℕ_discrete j i) [
      | yes e ↦ ap (is_sound C size bs') e ∙ own (ap (is_file bs') (sym e) ∙ f)
      | no d ↦ sound_old j d (old-file j d f)
    ];
    ended = ended_put;
  }

  -- what stands at the slot if s is well formed
  module _ (f : Fit C size n s) (room : i + n ≤ entry_count bs) where
    own_length : entries_at bs' i ≡ n
    unfolding entries_at secondary_count
    own_length = ap (λ (x : ℕ). 1 + x) (w.inside 1 (omega (arith, fit_low C size n s f))) ∙ f.count

    own_file : is_file bs' i ≡ true
    own_file =
        file_of bs' i (before_of bs' i (λ k h. nonzero k (before_at bs i k before h)))
        (type_in i (omega arith) (omega (arith, fit_low C size n s f)) ∙ ap (entry_type s) (omega arith) ∙ fit_first C size n s f)

    own_few : entries_at bs' i ≤ 19
    own_few = omega (arith, own_length, fit_high C size n s f)

    own_room : i + entries_at bs' i ≤ entry_count bs'
    own_room = omega (arith, own_length, count_same)

    own_set : set_at bs' i ≡ s
    own_set =
        set_is bs' i own_few own_room s f.full (λ k h. w.inside k (omega (arith, own_length)))
        (λ k h. f.rest k (omega (arith, own_length)))

    put_ordered : Ordered C size bs'
    put_ordered = ordered_put (λ g. sound_of C size bs' i g own_few own_room (ap (well_formed C size) own_set ∙ f.formed))

    put_table : (j : ℕ) → sets bs' j ≡ upd (sets bs) i (some s) j
    put_table = sets_put (some s) (sets-file bs' i own_file ∙ ap some own_set)

-- ---- the three stores

module _ (C size : ℕ) (bs : List ℕ) (i n : ℕ) (s : List ℕ) (o : Ordered C size bs) where
  abbrev result : List ℕ
  result = splice bs (32 * i) (take (32 * n) s)

  -- over the set of a file entry, with as many entries
  module _ (g : is_file bs i ≡ true) (q : n ≡ entries_at bs i) where
    apart-set : (j : ℕ) → j ≢ i → is_file bs j ≡ true → (j + entries_at bs j ≤ i) ⊎ (i + n ≤ j)
    apart-set j d f =
        elim (dec_lt j i) [
          | yes l ↦ inl (files_apart C size bs o j i f g l)
          | no l ↦ inr (omega (arith, files_apart C size bs o i j g f (omega arith), q))
        ]

    over_room : i + n ≤ entry_count bs
    over_room = omega (arith, file_room C size bs o i g, q)

    -- a well-formed set
    module _ (f : Fit C size n s) (bs' : List ℕ) (e : bs' ≡ result) where
      over : Stored bs bs' i n s
      over = stored bs bs' i n s e (omega (arith, f.full, fit_high C size n s f)) over_room

      pub replaced_ordered : Ordered C size bs'
      replaced_ordered =
          put_ordered C size bs bs' i n s over o (file_before bs i g) apart-set
          (λ k h. used_type (entry_type s k) (fit_used C size n s f k h)) (fit_next C size n s f) f over_room

      pub replaced_sets : (j : ℕ) → sets bs' j ≡ upd (sets bs) i (some s) j
      replaced_sets =
          put_table C size bs bs' i n s over o (file_before bs i g) apart-set
          (λ k h. used_type (entry_type s k) (fit_used C size n s f k h)) (fit_next C size n s f) f over_room

    -- entries whose types have bit 0x80 clear and are not 0: the set is gone
    module _ (long : 32 * n ≤ length s) (clear : (k : ℕ) → k < n → (bit_of (entry_type s k) 7 ≡ 0) × (entry_type s k ≢ 0))
        (bs' : List ℕ) (e : bs' ≡ result) where
      gone : Stored bs bs' i n s
      gone = stored bs bs' i n s e long over_room

      not_used : (t : ℕ) → bit_of t 7 ≡ 0 → t ≢ 0x85
      unfolding bit_of
      not_used t z r = omega arith

      gone_next : (k : ℕ) → 1 ≤ k → k < n → entry_type s k ≢ 0x85
      gone_next k l h = not_used (entry_type s k) (clear k h).0

      gone_file : is_file bs' i ≡ false
      gone_file =
          let l = fit_low C size (entries_at bs i) (set_at bs i) (file_fit C size bs o i g) in
          not_so (is_file bs' i)
          (λ f. not_used (entry_type s (i - i)) (clear (i - i) (omega arith)).0
          (sym (type_in C size bs bs' i n s gone o (file_before bs i g) apart-set (λ k h. (clear k h).1) gone_next i (omega arith) (omega arith))
          ∙ file_type bs' i f))

      pub removed_ordered : Ordered C size bs'
      removed_ordered =
          ordered_put C size bs bs' i n s gone o (file_before bs i g) apart-set (λ k h. (clear k h).1) gone_next
          (λ f. absurd (false≢true (sym gone_file ∙ f)))

      pub removed_sets : (j : ℕ) → sets bs' j ≡ upd (sets bs) i none j
      removed_sets =
          sets_put C size bs bs' i n s gone o (file_before bs i g) apart-set (λ k h. (clear k h).1) gone_next none
          (sets-none bs' i gone_file)

  -- a well-formed set over the lowest entries that are not in use
  module _ (at : free_run bs n ≡ Some i) (f : Fit C size n s) where
    lowest : Lowest (λ k. not (in_use bs k)) (entry_count bs) n 0 i
    lowest = run_at (λ k. not (in_use bs k)) (entry_count bs) n 0 i (unfold free_run in at)

    unused : (j : ℕ) → i ≤ j → j < i + n → in_use bs j ≡ false
    unused j l h = not-true (in_use bs j) (lowest.whole j l h)

    pub new_room : i + n ≤ entry_count bs
    new_room = lowest.inside

    -- the slot had no set
    pub new_free : sets bs i ≡ none
    new_free =
        sets-none bs i
        (not_so (is_file bs i)
        (λ g. false≢true (sym (unused i (omega arith) (omega (arith, fit_low C size n s f))) ∙ used_file bs i (file_type bs i g))))

    -- it begins at the first type 0 or before: from there on nothing is in use
    new_before : before_end bs i ≡ true
    new_before = before_of bs i (λ j h z. lowest.least j (omega arith) h (λ k l b. ap not (after j z k l)))
      where
        after : (j : ℕ) → type_at bs j ≡ 0 → (k : ℕ) → j ≤ k → in_use bs k ≡ false
        after j z k l =
            elim (ℕ_discrete j k) [
              | yes q ↦ unused_zero bs k (ap (type_at bs) (sym q) ∙ z)
              | no q ↦ o.ended j k (omega arith) z
            ]

    apart_unused : (j : ℕ) → j ≢ i → is_file bs j ≡ true → (j + entries_at bs j ≤ i) ⊎ (i + n ≤ j)
    apart_unused j d g =
        let l = fit_low C size (entries_at bs j) (set_at bs j) (file_fit C size bs o j g) in
        let m = fit_low C size n s f in
        elim (dec_le (j + entries_at bs j) i) [
          | yes a ↦ inl a
          | no a ↦ elim (dec_le (i + n) j) [
            | yes b ↦ inr b
            | no b ↦ absurd (elim (dec_le i j) [
              | yes c ↦ false≢true (sym (unused j c (omega arith)) ∙ file_used C size bs o j g j (omega arith) (omega arith))
              | no c ↦ false≢true (sym (unused i (omega arith) (omega arith)) ∙ file_used C size bs o j g i (omega arith) (omega arith))
            ])
          ]
        ]

    module _ (bs' : List ℕ) (e : bs' ≡ result) where
      new : Stored bs bs' i n s
      new = stored bs bs' i n s e (omega (arith, f.full, fit_high C size n s f)) new_room

      pub new_ordered : Ordered C size bs'
      new_ordered =
          put_ordered C size bs bs' i n s new o new_before apart_unused
          (λ k h. used_type (entry_type s k) (fit_used C size n s f k h)) (fit_next C size n s f) f new_room

      pub new-sets : (j : ℕ) → sets bs' j ≡ upd (sets bs) i (some s) j
      new-sets =
          put_table C size bs bs' i n s new o new_before apart_unused
          (λ k h. used_type (entry_type s k) (fit_used C size n s f k h)) (fit_next C size n s f) f new_room
