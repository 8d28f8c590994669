-- A directory that grew by zeroed clusters: it stays ordered and its sets are the same; how many clusters a new set takes, and where
-- it then stands. Assumes nothing.
use mathlib.Core.Path.{◌≡◌, refl, sym, ◌∙◌, ap}
use mathlib.Core.Bool.{Bool, true, false, not}
use mathlib.Core.List.{List, ◌++◌, append-nil}
use mathlib.Core.Option.{some}
use Prim.Native.Nat.{ℕ, ◌+◌, ◌-◌, ◌*◌, ◌≤◌, ◌<◌}
use native.Mathlib.Nat.{mul_left_comm, mul-le-mul_left}
use native.Mathlib.Decide.{dec_lt, dec_le}
use native.Mathlib.Omega.{arith}
use lib.Dec.{eqb}
use lib.ListN.{length, get_or, replicate, length-append, length-replicate, get_or-replicate, get_or-append, get_or-eq_default}
use lib.Seq.{get_or-append-add}
use borrow.Author.Tests.{not-true}
use Rattle.entry_set.specs.Fields.{clusters_for}
use Rattle.entry_set.proofs.LengthLaws.{clusters_hold, clusters_below}
use Rattle.entry_set.specs.Sound.{well_formed}
use Rattle.std.specs.Prelude.{Option, Some, None}
use Rattle.search.specs.Search.{all_from, run_from}
use Rattle.search.proofs.Runs.{run_hit}
use Rattle.search.proofs.Lowest.{Whole, Lowest, all_whole, whole_all, all_cong, run_at, run_nothing, run_cong, fewest_is}
use Rattle.directory.specs.Entries.{entry_count, type_at, in_use, before_end, is_file, entries_at, set_at}
use Rattle.directory.specs.Internal.{sets}
use Rattle.directory.specs.Room.{Row, free_run, is_at, slot_of, with_zeros, growth}
use Rattle.directory.proofs.EntryLaws.{unused_zero, used_same, sound_formed, sound_of, set_is}
use Rattle.directory.proofs.OrderedLaws.{Ordered, file_room, file_few, file_fit, file_byte}
use Rattle.directory.proofs.StoreLaws.{sets-file, sets-none}

-- ---- zeros at the end are what is read past it

pub zeros_none : (bs : List ℕ) → with_zeros bs 0 ≡ bs
unfolding with_zeros
zeros_none bs = append-nil bs

pub zeros_length : (bs : List ℕ) (m : ℕ) → length (with_zeros bs m) ≡ length bs + m
unfolding with_zeros
zeros_length bs m = length-append bs (replicate m 0) ∙ ap (λ (x : ℕ). length bs + x) (length-replicate {A = ℕ} m 0)

pub zeros_byte : (bs : List ℕ) (m p : ℕ) → get_or (with_zeros bs m) p 0 ≡ get_or bs p 0
unfolding with_zeros
zeros_byte bs m p =
    elim (dec_lt p (length bs)) [
      | yes l ↦ get_or-append bs (replicate m 0) 0 p l
      | no l ↦ (let e : p ≡ length bs + (p - length bs) = omega arith in
          ap (λ (x : ℕ). get_or (bs ++ replicate m 0) x 0) e ∙ get_or-append-add bs (replicate m 0) (p - length bs) 0
          ∙ zero_at (p - length bs) ∙ sym (get_or-eq_default bs 0 {n = p} (omega arith)))
    ]
  where
    zero_at : (k : ℕ) → ◌≡◌ {A = ℕ} (get_or (replicate m 0) k 0) 0
    zero_at k =
        elim (dec_lt k m) [
          | yes l ↦ get_or-replicate {A = ℕ} m k 0 0 l
          | no l ↦ get_or-eq_default {A = ℕ} (replicate m 0) 0 {n = k} (omega (arith, length-replicate {A = ℕ} m 0))
        ]

module _ (bs : List ℕ) (m : ℕ) where
  zeros_type : (j : ℕ) → type_at (with_zeros bs m) j ≡ type_at bs j
  unfolding type_at
  zeros_type j = zeros_byte bs m (32 * j)

  pub zeros_used : (j : ℕ) → in_use (with_zeros bs m) j ≡ in_use bs j
  zeros_used j = used_same bs (with_zeros bs m) j j (zeros_type j)

  zeros_before : (j : ℕ) → before_end (with_zeros bs m) j ≡ before_end bs j
  unfolding before_end
  zeros_before j =
      all_cong (λ k. not (eqb (type_at bs k) 0)) (λ k. not (eqb (type_at (with_zeros bs m) k) 0)) 0 j
      (λ k a b. ap (λ (x : ℕ). not (eqb x 0)) (zeros_type k))

  pub zeros_file : (j : ℕ) → is_file (with_zeros bs m) j ≡ is_file bs j
  unfolding is_file
  zeros_file j = rw (zeros_before j, zeros_type j) refl

  zeros_set : (j : ℕ) → entries_at (with_zeros bs m) j ≡ entries_at bs j
  unfolding entries_at
  zeros_set j = ap (λ (x : ℕ). 1 + x) (zeros_byte bs m (32 * j + 1))

pub zeros_count : (bs : List ℕ) (k : ℕ) → length bs ≡ 32 * entry_count bs → entry_count (with_zeros bs (32 * k)) ≡ entry_count bs + k
unfolding entry_count
zeros_count bs k h = omega (arith, zeros_length bs (32 * k))

-- ---- an ordered directory that grew

module _ (C size : ℕ) (bs : List ℕ) (k : ℕ) (o : Ordered C size bs) where
  abbrev more : List ℕ
  more = with_zeros bs (32 * k)

  more_count : entry_count more ≡ entry_count bs + k
  more_count = zeros_count bs k o.whole

  module _ (j : ℕ) (f : is_file bs j ≡ true) where
    more_few : entries_at more j ≤ 19
    more_few = omega (arith, zeros_set bs (32 * k) j, file_few C size bs o j f)

    more_room : j + entries_at more j ≤ entry_count more
    more_room = omega (arith, zeros_set bs (32 * k) j, file_room C size bs o j f, more_count)

    more_set : set_at more j ≡ set_at bs j
    more_set =
        let e = zeros_set bs (32 * k) j in
        set_is more j more_few more_room (set_at bs j) (file_fit C size bs o j f).full
        (λ i h. zeros_byte bs (32 * k) (32 * j + i) ∙ sym (file_byte C size bs o j f i (omega arith)))
        (λ i h. (file_fit C size bs o j f).rest i (omega arith))

  pub grown_ordered : Ordered C size (with_zeros bs (32 * k))
  grown_ordered = record {
    whole = omega (arith, zeros_length bs (32 * k), o.whole, more_count);
    sound = λ j g. let f : is_file bs j ≡ true = sym (zeros_file bs (32 * k) j) ∙ g in
        sound_of C size more j g (more_few j f) (more_room j f)
        (ap (well_formed C size) (more_set j f) ∙ sound_formed C size bs j (o.sound j f));
    ended = λ i j h z. zeros_used bs (32 * k) j ∙ o.ended i j h (sym (zeros_type bs (32 * k) i) ∙ z);
  }

  pub grown_sets : (j : ℕ) → sets (with_zeros bs (32 * k)) j ≡ sets bs j
  grown_sets j = by (is_file bs j) refl
    where
      by : (b : Bool) → is_file bs j ≡ b → sets more j ≡ sets bs j
      by true f = sets-file more j (zeros_file bs (32 * k) j ∙ f) ∙ ap some (more_set j f) ∙ sym (sets-file bs j f)
      by false f = sets-none more j (zeros_file bs (32 * k) j ∙ f) ∙ sym (sets-none bs j f)

-- ---- the lowest run by its meaning

module _ (u : ℕ → Bool) (end n : ℕ) where
  lowest_at : (a : ℕ) → Lowest u end n 0 a → run_from u end n 0 ≡ Some a
  lowest_at a w = by (run_from u end n 0) refl
    where
      by : (r : Option ℕ) → run_from u end n 0 ≡ r → run_from u end n 0 ≡ Some a
      by None e = absurd (run_nothing u end n 0 e a (omega arith) w.inside w.whole)
      by (Some b) e =
          let v = run_at u end n 0 b e in
          e
          ∙ ap Some
          (elim (dec_lt a b) [
            | yes l ↦ absurd (v.least a (omega arith) l w.whole)
            | no l ↦ elim (dec_lt b a) [ yes m ↦ absurd (w.least b (omega arith) m v.whole) | no m ↦ omega arith ]
          ])

  none_at : ((b : ℕ) → b + n ≤ end → Whole u b n → ⊥) → run_from u end n 0 ≡ None
  none_at h = by (run_from u end n 0) refl
    where
      by : (r : Option ℕ) → run_from u end n 0 ≡ r → run_from u end n 0 ≡ None
      by None e = e
      by (Some b) e = let v = run_at u end n 0 b e in absurd (h b v.inside v.whole)

  some_at : (b : ℕ) → b + n ≤ end → Whole u b n → run_from u end n 0 ≡ Some (slot_of (run_from u end n 0))
  unfolding slot_of
  some_at b h w = by (run_from u end n 0) refl
    where
      by : (r : Option ℕ) → run_from u end n 0 ≡ r → run_from u end n 0 ≡ Some (slot_of r)
      by None e = absurd (run_nothing u end n 0 e b (omega arith) h w)
      by (Some a) e = e

-- ---- where the lowest n entries not in use stand, if zeros follow

module _ (bs : List ℕ) (n : ℕ) (whole : length bs ≡ 32 * entry_count bs) where
  abbrev free : ℕ → Bool
  free i = not (in_use bs i)

  abbrev N : ℕ
  N = entry_count bs

  -- past the end nothing is in use
  past : (j : ℕ) → N ≤ j → free j ≡ true
  unfolding type_at
  past j h = ap not (unused_zero bs j (get_or-eq_default bs 0 {n = 32 * j} (omega arith)))

  run_zeros : (k : ℕ) → free_run (with_zeros bs (32 * k)) n ≡ run_from free (N + k) n 0
  unfolding free_run
  run_zeros k =
      ap (λ (x : ℕ). run_from (λ i. not (in_use (with_zeros bs (32 * k)) i)) x n 0) (zeros_count bs k whole)
      ∙ run_cong free (λ i. not (in_use (with_zeros bs (32 * k)) i)) (N + k) n 0 (λ j a b. ap not (zeros_used bs (32 * k) j))

  -- there always is one
  pub place_at_lem : free_run (with_zeros bs (32 * n)) n ≡ Some (slot_of (free_run (with_zeros bs (32 * n)) n))
  place_at_lem =
      run_zeros n ∙ some_at free (N + n) n N (omega arith) (λ k a b. past k a) ∙ ap (λ (r : Option ℕ). Some (slot_of r)) (sym (run_zeros n))

  -- what a scan knows that ends, or that finds n entries: no start below base works
  module _ (base : ℕ) (low : base ≤ N) (skipped : run_from free (N + n) n base ≡ run_from free (N + n) n 0) where
    pub place_end : all_from free base (N - base) ≡ true → free_run (with_zeros bs (32 * n)) n ≡ Some base
    place_end e =
        run_zeros n ∙ sym skipped
        ∙ run_hit free (N + n) n base (omega arith)
        (whole_all free base n
        (λ k a b. elim (dec_lt k N) [ yes l ↦ all_whole free base (N - base) e k a (omega arith) | no l ↦ past k (omega arith) ]))

    pub place_hit : all_from free base n ≡ true → free_run (with_zeros bs (32 * n)) n ≡ Some base
    place_hit e = run_zeros n ∙ sym skipped ∙ run_hit free (N + n) n base (omega arith) e

  -- ---- and with it the free run and the growth

  module _ (base : ℕ) (at : free_run (with_zeros bs (32 * n)) n ≡ Some base) where
    lowest : Lowest free (N + n) n 0 base
    lowest = run_at free (N + n) n 0 base (sym (run_zeros n) ∙ at)

    pub place_low : base ≤ N
    place_low = omega (arith, lowest.inside)

    reached : (k : ℕ) → base + n ≤ N + k → free_run (with_zeros bs (32 * k)) n ≡ Some base
    reached k h =
        run_zeros k
        ∙ lowest_at free (N + k) n base (record { after = omega arith; inside = h; whole = lowest.whole; least = lowest.least })

    short : (k : ℕ) → N + k < base + n → free_run (with_zeros bs (32 * k)) n ≡ None
    short k h = run_zeros k ∙ none_at free (N + k) n (λ b l w. lowest.least b (omega arith) (omega arith) w)

    plain : free_run bs n ≡ free_run (with_zeros bs (32 * 0)) n
    plain = ap (λ (x : List ℕ). free_run x n) (sym (zeros_none bs))

    pub free_none : N < base + n → free_run bs n ≡ None
    free_none h = plain ∙ short 0 (omega arith)

    module _ (size per : ℕ) (e : size ≡ 32 * per) (pos : 1 ≤ per) where
      abbrev needed : ℕ
      needed = clusters_for size (32 * (base + n - N))

      bytes : (g : ℕ) → g * size ≡ 32 * (g * per)
      bytes g = ap (λ (x : ℕ). g * x) e ∙ mul_left_comm g 32 per

      enough : base + n ≤ N + needed * per
      enough = omega (arith, clusters_hold size (omega arith) (32 * (base + n - N)), bytes needed)

      less : (g : ℕ) → g < needed → N + g * per < base + n
      less g l = omega (arith, clusters_below size (omega arith) (32 * (base + n - N)) g l, bytes g)

      few : needed ≤ n
      few =
          elim (dec_le needed n) [
            | yes l ↦ l
            | no l ↦ absurd (omega (arith, less n (omega arith), place_low, mul-le-mul_left {m = 1} {n = per} n pos))
          ]

      needed_at : free_run (with_zeros bs (needed * size)) n ≡ Some base
      needed_at = ap (λ (x : ℕ). free_run (with_zeros bs x) n) (bytes needed) ∙ reached (needed * per) enough

      less_none : (g : ℕ) → g < needed → free_run (with_zeros bs (g * size)) n ≡ None
      less_none g l = ap (λ (x : ℕ). free_run (with_zeros bs x) n) (bytes g) ∙ short (g * per) (less g l)

      -- the missing entries in whole clusters
      pub growth_is : growth size bs n ≡ clusters_for size (32 * (base + n - entry_count bs))
      unfolding growth is_at
      growth_is =
          fewest_is (λ g. is_at (free_run (with_zeros bs (g * size)) n)) n 0 needed (omega arith) (omega (arith, few)) (λ _. ap is_at needed_at)
          (λ g a l. ap is_at (less_none g l))

      pub grown_at : free_run (with_zeros bs (growth size bs n * size)) n ≡ Some base
      grown_at = ap (λ (g : ℕ). free_run (with_zeros bs (g * size)) n) growth_is ∙ needed_at

      pub growth-zero : base + n ≤ N → growth size bs n ≡ 0
      growth-zero h =
          elim (dec_lt 0 needed) [
            | yes l ↦ absurd (omega (arith, less 0 l))
            | no l ↦ omega (arith, growth_is)
          ]

-- ---- what the clusters and the slot are, in 01's words

module _ (bs : List ℕ) (n : ℕ) where
  row_whole : (i : ℕ) → Row bs n i → Whole (λ j. not (in_use bs j)) i n
  row_whole i w j a b = ap not (w.unused j a b)

  row_lowest : (i : ℕ) → free_run bs n ≡ Some i → Row bs n i × ((j : ℕ) → j < i → Row bs n j → ⊥)
  unfolding free_run
  row_lowest i e =
      let v = run_at (λ j. not (in_use bs j)) (entry_count bs) n 0 i e in
      (record { inside = omega (arith, v.inside); unused = λ j a b. not-true (in_use bs j) (v.whole j a b) }, λ j l w. v.least j (omega arith) l (row_whole j w))

  row_none : free_run bs n ≡ None → (i : ℕ) → Row bs n i → ⊥
  unfolding free_run
  row_none e i w = run_nothing (λ j. not (in_use bs j)) (entry_count bs) n 0 e i (omega arith) w.inside (row_whole i w)

module _ (size per : ℕ) (e : size ≡ 32 * per) (pos : 1 ≤ per) (bs : List ℕ) (n : ℕ) (whole : length bs ≡ 32 * entry_count bs) where
  abbrev base : ℕ
  base = slot_of (free_run (with_zeros bs (32 * n)) n)

  -- the directory so grown
  abbrev grown : List ℕ
  grown = with_zeros bs (growth size bs n * size)

  grown_found : free_run grown n ≡ Some (slot_of (free_run grown n))
  unfolding slot_of
  grown_found = let q = grown_at bs n whole base (place_at_lem bs n whole) size per e pos in q ∙ ap Some (ap slot_of (sym q))

  -- it has n entries in a row that are not in use: the set's slot begins them ..
  pub growth_fits : Row (with_zeros bs (growth size bs n * size)) n (slot_of (free_run (with_zeros bs (growth size bs n * size)) n))
  growth_fits = (row_lowest grown n (slot_of (free_run grown n)) grown_found).0

  -- .. and no lower slot does ..
  pub growth_lowest : (i : ℕ) → i < slot_of (free_run (with_zeros bs (growth size bs n * size)) n) → Row (with_zeros bs (growth size bs n * size)) n i → ⊥
  growth_lowest = (row_lowest grown n (slot_of (free_run grown n)) grown_found).1

  -- .. and with fewer clusters it has none
  pub growth-fewest : (g : ℕ) → g < growth size bs n → (i : ℕ) → Row (with_zeros bs (g * size)) n i → ⊥
  growth-fewest g l =
      row_none (with_zeros bs (g * size)) n
      (less_none bs n whole base (place_at_lem bs n whole) size per e pos g
      (omega (arith, growth_is bs n whole base (place_at_lem bs n whole) size per e pos)))
