-- Windows of n entries passed by their last entry, in one list of bytes and in a directory. Assumes nothing.
use mathlib.Core.Path.{◌≡◌, refl, sym, ◌∙◌, ap, subst}
use mathlib.Core.Bool.{true, false, false≢true}
use mathlib.Core.List.{List}
use Prim.Native.Nat.{ℕ, zero, suc, ◌+◌, ◌-◌, ◌*◌, ◌/◌, ◌%◌, ◌≤◌, ◌<◌}
use native.Mathlib.Decide.{dec_lt}
use native.Mathlib.Nat.{suc-mul, mul-le-mul_right}
use native.Mathlib.Omega.{arith}
use lib.Dec.{eqb}
use lib.ListN.{length, get_or, get_or-eq_default}
use Rattle.primitives.specs.Bits.{bit_of}
use Rattle.tables.proofs.Cases.{cond_case}
use Rattle.boot.specs.declared.layout.Layout.{Layout}
use Rattle.boot.proofs.Apart.{heap_in}
use Rattle.metadata.specs.Fat.{fat_entry}
use Rattle.metadata.specs.Cluster.{cluster_byte}
use Rattle.metadata.proofs.Frame.{Fits}
use Rattle.stream.specs.declared.allocation.Allocation.{Allocation}
use Rattle.stream.specs.Internal.{after, reached}
use Rattle.stream.specs.Bytes.{cluster_bytes, bytes_in}
use Rattle.stream.specs.Stream.{number_of, stream_of}
use Rattle.stream.proofs.BytesSteps.{length_cluster}
use Rattle.stream.proofs.BytesLaws.{cluster_at_lem}
use Rattle.directory.specs.declared.entries.Cursor.{Cursor}
use Rattle.directory.specs.Entries.{entry_count, type_at, in_use}
use Rattle.directory.specs.Internal.{entry_at, past_windows, past_used}
use Rattle.directory.proofs.EntryLaws.{unused_zero}
use Rattle.directory.proofs.CursorLaws.{entries_is, split, rest, inside, there_is, entry_place_lem, cursor_in, cursor_use, Counted, counted_start, counted_next, counted_end}
use Rattle.directory.proofs.RoomLaws.{Passed, passed_used}

module _ (bs : List ℕ) where
  -- an entry past the end is not in use
  unused_past : (i : ℕ) → length bs ≤ 32 * i → in_use bs i ≡ false
  unfolding type_at
  unused_past i h = unused_zero bs i (get_or-eq_default {A = ℕ} bs 0 {n = 32 * i} h)

  used_here : (i : ℕ) → in_use bs i ≡ true → 32 * i < length bs
  used_here i e =
      elim (dec_lt (32 * i) (length bs)) [
        | yes b ↦ b
        | no b ↦ absurd (false≢true (sym (unused_past i (omega arith)) ∙ e))
      ]

  module _ (n : ℕ) where
    -- what a window that is passed keeps holds where they lead
    past_keeps : (P : ℕ → Type 0) → ((i : ℕ) → in_use bs (i + (n - 1)) ≡ true → P i → P (i + n)) → (more i : ℕ) → P i → P (past_windows bs n more i)
    unfolding past_windows
    past_keeps P f zero i p = p
    past_keeps P f (suc more) i p =
        cond_case P (in_use bs (i + (n - 1))) (past_windows bs n more (i + n)) i (λ e. past_keeps P f more (i + n) (f i e p)) (λ _. p)

    used_keeps : (P : ℕ → Type 0) → ((i : ℕ) → in_use bs (i + (n - 1)) ≡ true → P i → P (i + n)) → (i : ℕ) → P i → P (past_used bs n i)
    unfolding past_used
    used_keeps P f i p = past_keeps P f (length bs) i p

    used_low : (i : ℕ) → i ≤ past_used bs n i
    used_low i = used_keeps (λ j. i ≤ j) (λ j _ h. omega arith) i (omega arith)

    used_high : 1 ≤ n → (top i : ℕ) → length bs ≤ 32 * top → i ≤ top → past_used bs n i ≤ top
    used_high l top i h b = used_keeps (λ j. j ≤ top) (λ j e _. omega (arith, used_here (j + (n - 1)) e)) i b

-- windows of n entries passed from `first` as far as entry i
pub record Passing (bs : List ℕ) (n first i : ℕ) : Type 0 where
  pub more : ℕ
  pub enough : length bs ≤ 32 * i + more
  pub same : past_windows bs n more i ≡ past_used bs n first

module _ (bs : List ℕ) (n first : ℕ) where
  pub passing_first : (at : ℕ) → at ≡ 32 * first → Passing bs n first (at / 32)
  unfolding past_used
  passing_first at e =
      let z : at / 32 ≡ first = omega arith in
      rw z (record { more = length bs; enough = omega arith; same = refl })

  module _ (i : ℕ) (p : Passing bs n first i) where
    stop : (more : ℕ) → in_use bs (i + (n - 1)) ≡ false → past_windows bs n more i ≡ i
    unfolding past_windows
    stop zero e = refl
    stop (suc more) e = rw e refl

    on : (more : ℕ) → 0 < more → in_use bs (i + (n - 1)) ≡ true → past_windows bs n (more - 1) (i + n) ≡ past_windows bs n more i
    unfolding past_windows
    on zero h e = absurd (omega arith)
    on (suc more) h e =
        let z : suc more - 1 ≡ more = omega arith in
        rw (z, e) refl

    pub passing_stop : in_use bs (i + (n - 1)) ≡ false → i ≡ past_used bs n first
    passing_stop e = sym (stop p.more e) ∙ p.same

    pub passing_end : length bs ≤ 32 * (i + (n - 1)) → i ≡ past_used bs n first
    passing_end h = passing_stop (unused_past bs (i + (n - 1)) h)

    pub passing_next : 1 ≤ n → in_use bs (i + (n - 1)) ≡ true → (j : ℕ) → j ≡ i + n → Passing bs n first j
    passing_next l e j q =
        let h = used_here bs (i + (n - 1)) e in
        let m = p.enough in
        rw q (record { more = p.more - 1; enough = omega arith; same = on p.more (omega arith) e ∙ p.same })

-- the entry that a byte begins
pub used_byte : (bs : List ℕ) (n at : ℕ) → 32 * (at / 32) ≡ at → eqb (bit_of (get_or bs (at + 32 * (n - 1)) 0) 7) 1 ≡ in_use bs (at / 32 + (n - 1))
unfolding in_use type_at
used_byte bs n at q =
    let z : at + 32 * (n - 1) ≡ 32 * (at / 32 + (n - 1)) = omega arith in
    ap (λ (x : ℕ). eqb (bit_of (get_or bs x 0) 7) 1) z

-- ---- in the cluster of an entry

module _ (y : Layout) (d : List ℕ) (w : Fits y d) (dir : Allocation) (reads : number_of (stream_of y d dir) ≡ 0) (base : ℕ) (h : base < entry_count (bytes_in y d dir))
    (e : Cursor) (q : e ≡ entry_at y (fat_entry y d) dir.no_fat_chain dir.first base) where
  abbrev per : ℕ
  per = y.size / 32

  abbrev bs : List ℕ
  bs = bytes_in y d dir

  abbrev here : List ℕ
  here = cluster_bytes y d e.cluster

  at_is : e.at ≡ 32 * (base % per)
  at_is = ap (λ (x : Cursor). x.at) (q ∙ there_is y d w dir reads base h)

  cluster_is : e.cluster ≡ reached (fat_entry y d) dir.no_fat_chain dir.first (base / per)
  cluster_is = ap (λ (x : Cursor). x.cluster) (q ∙ there_is y d w dir reads base h)

  -- the cluster's first entry, and its room
  from_is : base / per * per + e.at / 32 ≡ base
  from_is = omega (arith, split y d w dir reads base h, at_is)

  whole_in : base / per * per + per ≤ entry_count (bytes_in y d dir)
  whole_in =
      omega (arith, entries_is y d w dir reads, suc-mul (base / per) per, mul-le-mul_right {m = suc (base / per)} {n = dir.count} per (inside y d w dir reads base h))

  long : length (cluster_bytes y d e.cluster) ≡ 32 * per
  long =
      let c = cursor_in y d w dir reads base h e q in
      length_cluster y d w.laid w.long e.cluster (heap_in y.count e.cluster c.0 c.1.0) ∙ sym w.laid.whole

  use_byte : (j : ℕ) → j < per → in_use (cluster_bytes y d e.cluster) j ≡ eqb (bit_of (cluster_byte y d e.cluster (32 * j)) 7) 1
  unfolding in_use type_at
  use_byte j b = ap (λ (t : ℕ). eqb (bit_of t 7) 1) (cluster_at_lem y d e.cluster (32 * j) (omega (arith, w.laid.whole)))

  -- an entry of it is one of the directory
  use_is : (j : ℕ) → j < per → in_use (cluster_bytes y d e.cluster) j ≡ in_use (bytes_in y d dir) (base / per * per + j)
  use_is j b =
      let x : Cursor = record { cluster = e.cluster; at = 32 * j } in
      let r : x ≡ entry_at y (fat_entry y d) dir.no_fat_chain dir.first (base / per * per + j)
      = ap (λ (k : ℕ). record { cluster = k; at = 32 * j }) cluster_is
      ∙ sym (entry_place_lem y (fat_entry y d) dir.no_fat_chain per w.laid.whole dir.first (base / per) j b) in
      use_byte j b ∙ cursor_use y d w dir reads (base / per * per + j) (omega (arith, whole_in)) x r

  -- windows passed there
  module _ (n to : ℕ) (pos : 1 ≤ n) (t : to ≡ past_used (cluster_bytes y d e.cluster) n (e.at / 32)) where
    pub window_low : e.at / 32 ≤ to
    window_low = omega (arith, t, used_low here n (e.at / 32))

    window_high : to ≤ y.size / 32
    window_high = omega (arith, t, at_is, rest y d w dir reads base h, long, used_high here n pos per (e.at / 32) (omega (arith, long)) (omega (arith, at_is, rest y d w dir reads base h)))

    pub window_room : base + (to - e.at / 32) ≤ entry_count (bytes_in y d dir)
    window_room = omega (arith, window_low, window_high, whole_in, from_is)

    counted : Counted y d dir (base + (to - e.at / 32)) e.cluster to
    counted =
        let z : e.at / 32 + (to - e.at / 32) ≡ to = omega (arith, window_low) in
        subst (Counted y d dir (base + (to - e.at / 32)) e.cluster) z (counted_start y d w dir reads base (to - e.at / 32) h e q)

    pub window_here : 32 * to < y.size
        → record { cluster = e.cluster; at = 32 * to } ≡ entry_at y (fat_entry y d) dir.no_fat_chain dir.first (base + (to - e.at / 32))
    window_here b = counted_end y d w dir reads (base + (to - e.at / 32)) e.cluster to counted (omega (arith, w.laid.whole))

    pub window_over : (k : ℕ) → k ≡ after (fat_entry y d) dir.no_fat_chain e.cluster → y.size ≤ 32 * to
        → record { cluster = k; at = 0 } ≡ entry_at y (fat_entry y d) dir.no_fat_chain dir.first (base + (to - e.at / 32))
    window_over k g b =
        let c = counted_next y d w dir reads (base + (to - e.at / 32)) e.cluster to counted (omega (arith, w.laid.whole)) in
        let z : 0 ≡ 32 * (to - per) = omega (arith, window_high) in
        ap (λ (x : ℕ). record { cluster = x; at = 0 }) g
        ∙ ap (λ (x : ℕ). record { cluster = after (fat_entry y d) dir.no_fat_chain e.cluster; at = x }) z
        ∙ counted_end y d w dir reads (base + (to - e.at / 32)) (after (fat_entry y d) dir.no_fat_chain e.cluster) (to - per) c
        (omega (arith, window_high, w.laid.size_low, w.laid.whole))

    window_passed : Passed (bytes_in y d dir) n base → Passed (bytes_in y d dir) n (base + (to - e.at / 32))
    window_passed p =
        let a : base ≡ base / per * per + e.at / 32 = sym from_is in
        let b : base / per * per + to ≡ base + (to - e.at / 32) = omega (arith, from_is, window_low) in
        let r = used_keeps here n (λ j. Passed bs n (base / per * per + j)) step (e.at / 32) (subst (Passed bs n) a p) in
        subst (Passed bs n) b (subst (λ (x : ℕ). Passed bs n (base / per * per + x)) (sym t) r)
      where
        step : (j : ℕ) → in_use here (j + (n - 1)) ≡ true → Passed bs n (base / per * per + j) → Passed bs n (base / per * per + (j + n))
        step j u v =
            let l : j + (n - 1) < per = omega (arith, used_here here (j + (n - 1)) u, long) in
            let z : base / per * per + (j + (n - 1)) + 1 ≡ base / per * per + (j + n) = omega arith in
            subst (Passed bs n) z
            (passed_used bs n (base / per * per + j) (base / per * per + (j + (n - 1))) (omega arith) (omega arith) (sym (use_is (j + (n - 1)) l) ∙ u) v)

  -- the slot that they lead to
  module _ (n slot : ℕ) (pos : 1 ≤ n) (t : slot ≡ base + (past_used (cluster_bytes y d e.cluster) n (e.at / 32) - e.at / 32)) where
    pub slot_in : (base ≤ slot) × (slot ≤ entry_count (bytes_in y d dir))
    slot_in = omega (arith, t, window_room n (past_used here n (e.at / 32)) pos refl)

    pub slot_passed : Passed (bytes_in y d dir) n base → Passed (bytes_in y d dir) n slot
    slot_passed p = subst (Passed bs n) (sym t) (window_passed n (past_used here n (e.at / 32)) pos refl p)
