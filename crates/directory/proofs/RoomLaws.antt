-- Where a set of n entries goes, as one pass over a directory's entries finds it. Assumes nothing.
use mathlib.Core.Path.{◌≡◌, refl, sym, ◌∙◌, ap, ap₂, subst}
use mathlib.Core.Bool.{Bool, true, false, not}
use mathlib.Core.List.{List}
use Prim.Native.Nat.{ℕ, ◌+◌, ◌-◌, ◌*◌, ◌≤◌, ◌<◌}
use native.Mathlib.Decide.{dec_lt}
use native.Mathlib.Omega.{arith}
use lib.ListN.{length}
use borrow.Author.Tests.{not-false}
use Rattle.entry_set.specs.Fields.{clusters_for}
use Rattle.std.specs.Prelude.{Some}
use Rattle.search.specs.Search.{all_from, run_from}
use Rattle.search.specs.Internal.{past_failing}
use Rattle.search.proofs.Runs.{tail_pass, tail_fail, tail_bounds, tail_rest, tail_last, run_skip}
use Rattle.directory.specs.Entries.{entry_count, in_use}
use Rattle.directory.specs.Room.{free_run, slot_of, with_zeros, growth}
use Rattle.directory.specs.Internal.{room_for}
use Rattle.directory.proofs.GrowthLaws.{place_end, place_hit, growth_is, grown_at, growth-zero}

-- every start before base meets an entry in use
abbrev pub Passed : List ℕ → ℕ → ℕ → Type 0
Passed bs n base =
    run_from (λ i. not (in_use bs i)) (entry_count bs + n) n base ≡ run_from (λ i. not (in_use bs i)) (entry_count bs + n) n 0

pub passed_used : (bs : List ℕ) (n base k : ℕ) → base ≤ k → k < base + n → in_use bs k ≡ true → Passed bs n base → Passed bs n (k + 1)
passed_used bs n base k l h e p = run_skip (λ i. not (in_use bs i)) (entry_count bs + n) n base k l h (ap not e) ∙ p

-- the last entry in use of a window, by one entry more
module _ (bs : List ℕ) (base k : ℕ) (l : base ≤ k) where
  abbrev free : ℕ → Bool
  free i = not (in_use bs i)

  back : k + 1 - 1 ≡ k
  back = omega arith

  pub tail_used : in_use bs k ≡ true → past_failing (λ i. not (in_use bs i)) base (k + 1 - base) ≡ k + 1
  tail_used e = tail_fail free base (k + 1) (omega arith) (ap free back ∙ ap not e)

  pub tail_free : in_use bs k ≡ false → past_failing (λ i. not (in_use bs i)) base (k + 1 - base) ≡ past_failing (λ i. not (in_use bs i)) base (k - base)
  tail_free e = sym (tail_pass free base (k + 1) (omega arith) (ap free back ∙ ap not e)) ∙ ap (λ (x : ℕ). past_failing free base (x - base)) back

-- a window of n entries from base, t being one past its last entry in use
module _ (bs : List ℕ) (base n : ℕ) where
  pub window_used : 1 ≤ n → in_use bs (base + (n - 1)) ≡ true → base + n ≡ past_failing (λ i. not (in_use bs i)) base n
  window_used h e =
      let q : n ≡ base + (n - 1) + 1 - base = omega arith in
      sym (ap (past_failing (λ i. not (in_use bs i)) base) q ∙ tail_used bs base (base + (n - 1)) (omega arith) e ∙ omega arith)

  pub window_free : 1 ≤ n → in_use bs (base + (n - 1)) ≡ false → past_failing (λ i. not (in_use bs i)) base (n - 1) ≡ past_failing (λ i. not (in_use bs i)) base n
  window_free h e =
      let q : n ≡ base + (n - 1) + 1 - base = omega arith in
      let r : base + (n - 1) - base ≡ n - 1 = omega arith in
      sym (ap (past_failing (λ i. not (in_use bs i)) base) q ∙ tail_free bs base (base + (n - 1)) (omega arith) e ∙ ap (past_failing (λ i. not (in_use bs i)) base) r)

  module _ (t : ℕ) (q : t ≡ past_failing (λ i. not (in_use bs i)) base n) where
    pub window_in : (base ≤ t) × (t ≤ base + n)
    window_in = let b = tail_bounds (λ i. not (in_use bs i)) base n in omega arith

    pub window_rest : all_from (λ i. not (in_use bs i)) t (base + n - t) ≡ true
    window_rest = ap (λ (x : ℕ). all_from (λ i. not (in_use bs i)) x (base + n - x)) q ∙ tail_rest (λ i. not (in_use bs i)) base n

    pub window_whole : t ≡ base → all_from (λ i. not (in_use bs i)) base n ≡ true
    window_whole z = ap₂ (all_from (λ i. not (in_use bs i))) (sym z) (omega arith) ∙ window_rest

    -- no start before t, where none is before base
    pub window_passed : (need : ℕ) → n ≤ need → Passed bs need base → Passed bs need t
    window_passed need h p =
        elim (dec_lt base t) [
          | yes l ↦ (
              let b = window_in in
              let u : in_use bs (t - 1) ≡ true = not-false (in_use bs (t - 1)) (ap (λ (x : ℕ). not (in_use bs (x - 1))) q ∙ tail_last (λ i. not (in_use bs i)) base n (omega arith)) in
              let e : t - 1 + 1 ≡ t = omega arith in
              subst (Passed bs need) e (passed_used bs need base (t - 1) (omega arith) (omega arith) u p)
              )
          | no l ↦ (let e : base ≡ t = omega (arith, window_in) in subst (Passed bs need) e p)
        ]

module _ (size per : ℕ) (whole : 32 * per ≡ size) (pos : 1 ≤ per) (bs : List ℕ) (n : ℕ) (long : length bs ≡ 32 * entry_count bs) (base : ℕ)
    (low : base ≤ entry_count bs) (p : Passed bs n base) where
  room_is : (at : free_run (with_zeros bs (32 * n)) n ≡ Some base) (g : ℕ) → growth size bs n ≡ g → record { slot = base; clusters = g } ≡ room_for size bs n
  unfolding room_for slot_of
  room_is at g e =
      let q : slot_of (free_run (with_zeros bs (growth size bs n * size)) n) ≡ base = ap slot_of (grown_at bs n long base at size per (sym whole) pos) in
      rw (q, e) refl

  -- n entries in a row are there
  pub room_here : base + n ≤ entry_count bs → all_from (λ i. not (in_use bs i)) base n ≡ true → record { slot = base; clusters = 0 } ≡ room_for size bs n
  room_here h a =
      let at = place_hit bs n long base low p a in
      room_is at 0 (growth-zero bs n long base at size per (sym whole) pos h)

  -- the entries from base to the end are not in use, and too few
  pub room_past : all_from (λ i. not (in_use bs i)) base (entry_count bs - base) ≡ true
      → record { slot = base; clusters = clusters_for size (32 * (base + n - entry_count bs)) } ≡ room_for size bs n
  room_past a =
      let at = place_end bs n long base low p a in
      room_is at (clusters_for size (32 * (base + n - entry_count bs))) (growth_is bs n long base at size per (sym whole) pos)
