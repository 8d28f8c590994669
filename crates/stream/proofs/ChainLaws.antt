-- The walk of a chain, step by step. Assumes nothing.
use mathlib.Core.Path.{◌≡◌, refl, sym, ◌∙◌, ap, ap₂}
use mathlib.Core.Bool.{Bool, true, false, ◌&&◌, cond}
use mathlib.Core.List.{List, [], ◌∷◌}
use Prim.Native.Nat.{ℕ, zero, suc, ◌+◌, ◌-◌, ◌≤◌, ◌<◌}
use native.Mathlib.Numerals.{sub-one}
use native.Mathlib.Decide.{ℕ_discrete}
use native.Mathlib.Omega.{arith}
use lib.Dec.{eqb}
use lib.ListN.{length, get_or}
use borrow.Author.Tests.{eq-eqb, ne_eqb, eqb-true, eqb-false}
use Rattle.tables.specs.Lists.{every, last_or, consec}
use Rattle.tables.proofs.Cases.{and-true, and_assoc}
use Rattle.boot.specs.Layout.{in_heap}
use Rattle.boot.proofs.Apart.{in_heap_lem}
use Rattle.metadata.specs.Fat.{END}
use Rattle.stream.specs.declared.allocation.Allocation.{Allocation}
use Rattle.stream.specs.Chain.{Next, End, More, Wrong, Clusters, listed, refused, next_of, by_next, with_first, chain_from, read_chain}
use Rattle.stream.specs.Stream.{number_of, clusters_of, run_cause, read_run, check_chain, read_stream}
use Rattle.stream.specs.Internal.{Walked, walked, walk_cause}

pub next_end : (C v : ℕ) → v ≡ END → next_of C v ≡ End
unfolding next_of
next_end C v e = rw (eq-eqb v END e) refl

pub next_more : (C v : ℕ) → (v ≡ END → ⊥) → in_heap C v ≡ true → next_of C v ≡ More
unfolding next_of
next_more C v n h = rw (ne_eqb v END n, h) refl

pub next_wrong : (C v : ℕ) → (v ≡ END → ⊥) → in_heap C v ≡ false → next_of C v ≡ Wrong
unfolding next_of
next_wrong C v n h = rw (ne_eqb v END n, h) refl

-- ---- what a walk answers that has passed b clusters, all marked where f says so, none barred where g says so

-- the cluster at place `goal` of a chain, ks standing from place b on; s where it is not among them
unfoldable pub seen_from : (goal b s : ℕ) → List ℕ → ℕ
seen_from goal b s [] = s
seen_from goal b s (k ∷ ks) = seen_from goal (b + 1) (cond (eqb b goal) k s) ks

seen_past : (goal b s : ℕ) (ks : List ℕ) → goal < b → seen_from goal b s ks ≡ s
unfolding seen_from
seen_past goal b s [] h = refl
seen_past goal b s (k ∷ ks) h = rw (ne_eqb b goal (λ z. omega arith)) (seen_past goal (b + 1) s ks (omega arith))

seen_is : (goal b s : ℕ) (ks : List ℕ) → b ≤ goal → seen_from goal b s ks ≡ get_or ks (goal - b) s
unfolding seen_from
seen_is goal b s [] h = refl
seen_is goal b s (k ∷ ks) h =
    elim (ℕ_discrete b goal) [
      | yes e ↦
          let z : goal - b ≡ 0 = omega arith in
          rw (eq-eqb b goal e, z) (seen_past goal (b + 1) k ks (omega arith))
      | no e ↦
          let z : goal - b ≡ suc (goal - (b + 1)) = omega arith in
          rw (ne_eqb b goal e, z) (seen_is goal (b + 1) s ks (omega arith))
    ]

abbrev pub walk_at : (mark free : ℕ → Bool) (goal z b : ℕ) (f g : Bool) (s : ℕ) → Clusters → Walked
walk_at mark free goal z b f g s (listed ks) =
    record {
      number = 0;
      last = last_or z ks;
      count = b + length ks;
      marked = f && every mark ks;
      clear = g && every free ks;
      seen = seen_from goal b s ks;
    }
walk_at mark free goal z b f g s (refused n) = record { number = n; last = 0; count = 0; marked = false; clear = false; seen = 0 }

-- the chain from k, where at most n clusters may stand from k on
unfoldable pub chain_left : ℕ → (ℕ → ℕ) → ℕ → ℕ → Clusters
chain_left C fat zero k = refused 4
chain_left C fat (suc n) k = chain_from C fat n k

left_some : (C : ℕ) (fat : ℕ → ℕ) (n k : ℕ) → 0 < n → chain_left C fat n k ≡ chain_from C fat (n - 1) k
unfolding chain_left
left_some C fat zero k h = absurd (omega arith)
left_some C fat (suc n) k h = rw sub-one refl

module _ (mark free : ℕ → Bool) (goal : ℕ) where
  walk_onto : (z b : ℕ) (f g : Bool) (s k : ℕ) (c : Clusters)
      → walk_at mark free goal z b f g s (with_first k c) ≡ walk_at mark free goal k (b + 1) (f && mark k) (g && free k) (cond (eqb b goal) k s) c
  unfolding last_or every seen_from
  walk_onto z b f g s k (listed ks) =
      let e : b + suc (length ks) ≡ b + 1 + length ks = omega arith in
      rw (e, and_assoc f (mark k) (every mark ks), and_assoc g (free k) (every free ks)) refl
  walk_onto z b f g s k (refused n) = refl

  -- a chain has a cluster, so what came before it does not matter
  module _ (C : ℕ) (fat : ℕ → ℕ) (z z' b : ℕ) (f g : Bool) (s : ℕ) where
    by_any : (x : Next) (k : ℕ) (c : Clusters) (n : ℕ) → walk_at mark free goal z b f g s (by_next x (listed (k ∷ [])) (with_first k c) (refused n))
        ≡ walk_at mark free goal z' b f g s (by_next x (listed (k ∷ [])) (with_first k c) (refused n))
    unfolding last_or
    by_any End k c n = refl
    by_any More k c n = walk_onto z b f g s k c ∙ sym (walk_onto z' b f g s k c)
    by_any Wrong k c n = refl

    by_last : (x : Next) (k m n : ℕ) → walk_at mark free goal z b f g s (by_next x (listed (k ∷ [])) (refused m) (refused n))
        ≡ walk_at mark free goal z' b f g s (by_next x (listed (k ∷ [])) (refused m) (refused n))
    unfolding last_or
    by_last End k m n = refl
    by_last More k m n = refl
    by_last Wrong k m n = refl

    walk_any : (n k : ℕ) → walk_at mark free goal z b f g s (chain_from C fat n k) ≡ walk_at mark free goal z' b f g s (chain_from C fat n k)
    unfolding chain_from
    walk_any zero k = by_last (next_of C (fat k)) k 4 3
    walk_any (suc n) k = by_any (next_of C (fat k)) k (chain_from C fat n (fat k)) 3

  module _ (C : ℕ) (fat : ℕ → ℕ) (b : ℕ) (f g : Bool) (s : ℕ) where
    pub walk_none : (n k : ℕ) → n ≤ 0
        → walk_at mark free goal 0 b f g s (chain_left C fat n k) ≡ record { number = 4; last = 0; count = 0; marked = false; clear = false; seen = 0 }
    unfolding chain_left
    walk_none zero k h = refl
    walk_none (suc n) k h = absurd (omega arith)

    pub walk_end : (n k : ℕ) → 0 < n → fat k ≡ END
        → walk_at mark free goal 0 b f g s (chain_left C fat n k) ≡ record { number = 0; last = k; count = b + 1; marked = f && mark k; clear = g && free k; seen = cond (eqb b goal) k s }
    unfolding chain_left chain_from last_or every seen_from
    walk_end zero k h e = absurd (omega arith)
    walk_end (suc zero) k h e = rw (next_end C (fat k) e, and-true (mark k), and-true (free k)) refl
    walk_end (suc (suc n)) k h e = rw (next_end C (fat k) e, and-true (mark k), and-true (free k)) refl

    pub walk_wrong : (n k : ℕ) → 0 < n → (fat k ≡ END → ⊥) → in_heap C (fat k) ≡ false
        → walk_at mark free goal 0 b f g s (chain_left C fat n k) ≡ record { number = 3; last = 0; count = 0; marked = false; clear = false; seen = 0 }
    unfolding chain_left chain_from
    walk_wrong zero k h e i = absurd (omega arith)
    walk_wrong (suc zero) k h e i = rw (next_wrong C (fat k) e i) refl
    walk_wrong (suc (suc n)) k h e i = rw (next_wrong C (fat k) e i) refl

    pub walk_more : (n k : ℕ) → 0 < n → (fat k ≡ END → ⊥) → in_heap C (fat k) ≡ true
        → walk_at mark free goal 0 b f g s (chain_left C fat n k) ≡ walk_at mark free goal 0 (b + 1) (f && mark k) (g && free k) (cond (eqb b goal) k s) (chain_left C fat (n - 1) (fat k))
    unfolding chain_left chain_from
    walk_more zero k h e i = absurd (omega arith)
    walk_more (suc zero) k h e i = rw (next_more C (fat k) e i) refl
    walk_more (suc (suc n)) k h e i =
        rw (next_more C (fat k) e i, sub-one)
        (walk_onto 0 b f g s k (chain_from C fat n (fat k)) ∙ walk_any C fat k 0 (b + 1) (f && mark k) (g && free k) (cond (eqb b goal) k s) n (fat k))

  -- the whole walk
  walk_all : (c : Clusters) → walked mark free goal c ≡ walk_at mark free goal 0 0 true true 0 c
  unfolding walked
  walk_all (listed ks) =
      let e : 0 + length ks ≡ length ks = omega arith in
      let z : goal - 0 ≡ goal = omega arith in
      rw (e, seen_is goal 0 0 ks (omega arith), z) refl
  walk_all (refused n) = refl

  pub walk_start : (C : ℕ) (fat : ℕ → ℕ) (first : ℕ) → in_heap C first ≡ true
      → walk_at mark free goal 0 0 true true 0 (chain_left C fat C first) ≡ walked mark free goal (read_chain C fat first)
  unfolding read_chain
  walk_start C fat first h =
      let i = in_heap_lem C first h in
      rw h (ap (walk_at mark free goal 0 0 true true 0) (left_some C fat C first (omega arith)) ∙ sym (walk_all (chain_from C fat (C - 1) first)))

pub chain_out : (C : ℕ) (fat : ℕ → ℕ) (first : ℕ) → in_heap C first ≡ false → read_chain C fat first ≡ refused 2
unfolding read_chain
chain_out C fat first h = rw h refl

-- ---- runs

module _ (C : ℕ) (mark : ℕ → Bool) where
  pub run_none : (k n : ℕ) → n ≤ 0 → run_cause C mark k n ≡ 0
  unfolding run_cause
  run_none k zero h = refl
  run_none k (suc n) h = absurd (omega arith)

  pub run_outside : (k n : ℕ) → 0 < n → in_heap C k ≡ false → run_cause C mark k n ≡ 2
  unfolding run_cause
  run_outside k zero h e = absurd (omega arith)
  run_outside k (suc n) h e = rw e refl

  pub run_unmarked : (k n : ℕ) → 0 < n → in_heap C k ≡ true → mark k ≡ false → run_cause C mark k n ≡ 6
  unfolding run_cause
  run_unmarked k zero h e f = absurd (omega arith)
  run_unmarked k (suc n) h e f = rw (e, f) refl

  pub run_step : (k n : ℕ) → 0 < n → in_heap C k ≡ true → mark k ≡ true → run_cause C mark k n ≡ run_cause C mark (k + 1) (n - 1)
  unfolding run_cause
  run_step k zero h e f = absurd (omega arith)
  run_step k (suc n) h e f = rw (e, f, sub-one) refl

  -- m clusters that are in the heap and marked
  pub run_jump : (m k n : ℕ) → m ≤ n → ((j : ℕ) → k ≤ j → j < k + m → (in_heap C j ≡ true) × (mark j ≡ true))
      → run_cause C mark k n ≡ run_cause C mark (k + m) (n - m)
  run_jump zero k n h f = ap₂ (run_cause C mark) (omega arith) (omega arith)
  run_jump (suc m) k n h f =
      let q = f k (omega arith) (omega arith) in
      run_step k n (omega arith) q.0 q.1 ∙ run_jump m (k + 1) (n - 1) (omega arith) (λ j a b. f j (omega arith) (omega arith))
      ∙ ap₂ (run_cause C mark) (omega arith) (omega arith)

  pub run_wrong : (first last count : ℕ) → (last + 1 ≡ first + count → ⊥) → number_of (read_run C mark first last count) ≡ 5
  unfolding read_run number_of
  run_wrong first last count n = rw (ne_eqb (last + 1) (first + count) n) refl

  number_if : (n : ℕ) (ks : List ℕ) (b : Bool) → eqb n 0 ≡ b → number_of (cond b (listed ks) (refused n)) ≡ n
  unfolding number_of
  number_if n ks true e = sym (eqb-true n 0 e)
  number_if n ks false e = refl

  pub run_number : (first last count : ℕ) → last + 1 ≡ first + count → number_of (read_run C mark first last count) ≡ run_cause C mark first count
  unfolding read_run
  run_number first last count e =
      rw (eq-eqb (last + 1) (first + count) e) (number_if (run_cause C mark first count) (consec first count) (eqb (run_cause C mark first count) 0) refl)

-- ---- the number of a walked chain

module _ (w : Walked) (last count : ℕ) where
  pub cause_walk : (w.number ≡ 0 → ⊥) → walk_cause w last count ≡ w.number
  unfolding walk_cause
  cause_walk n = rw (ne_eqb w.number 0 n) refl

-- a refused chain has a number that is not 0
chain_cause : (mark free : ℕ → Bool) (goal last count : ℕ) (c : Clusters) → ((n : ℕ) → c ≡ refused n → n ≡ 0 → ⊥)
    → walk_cause (walked mark free goal c) last count ≡ number_of (check_chain mark last count c)
unfolding walk_cause number_of check_chain walked
chain_cause mark free goal last count (listed ks) h = by (eqb (length ks) count && eqb (last_or 0 ks) last) (every mark ks)
  where
    by : (a b : Bool) → cond a (cond b 0 6) 5 ≡ number_of (cond a (cond b (listed ks) (refused 6)) (refused 5))
    by true true = refl
    by true false = refl
    by false b = refl
chain_cause mark free goal last count (refused n) h = rw (ne_eqb n 0 (h n refl)) refl

-- a chain that its record does not refuse is the list of the record's clusters
check_listed : (mark : ℕ → Bool) (last count : ℕ) (c : Clusters) → ((n : ℕ) → c ≡ refused n → n ≡ 0 → ⊥)
    → number_of (check_chain mark last count c) ≡ 0 → c ≡ listed (clusters_of (check_chain mark last count c))
unfolding check_chain number_of
check_listed mark last count (refused n) h e = absurd (h n refl e)
check_listed mark last count (listed ks) h e = by (eqb (length ks) count && eqb (last_or 0 ks) last) (every mark ks) e
  where
    by : (p q : Bool) → number_of (cond p (cond q (listed ks) (refused 6)) (refused 5)) ≡ 0
        → listed ks ≡ listed (clusters_of (cond p (cond q (listed ks) (refused 6)) (refused 5)))
    by true true r = refl
    by true false r = absurd (omega arith)
    by false q r = absurd (omega arith)

-- ---- what a FAT value that goes on says

pub more_in : (C v : ℕ) → next_of C v ≡ More → in_heap C v ≡ true
unfolding next_of
more_in C v e = by (eqb v END) (in_heap C v) refl refl
  where
    by : (a b : Bool) → eqb v END ≡ a → in_heap C v ≡ b → in_heap C v ≡ true
    by a true p q = q
    by true false p q = let z : End ≡ More = sym (rw p refl) ∙ e in let w : ◌≡◌ {A = ℕ} 0 1 = cc in absurd (omega arith)
    by false false p q = let z : Wrong ≡ More = sym (rw (p, q) refl) ∙ e in let w : ◌≡◌ {A = ℕ} 0 1 = cc in absurd (omega arith)

-- ---- the number of a chain and of a record

-- a refusal of a walk is never 0
module _ (C : ℕ) (fat : ℕ → ℕ) where
  onto_refused : (k m : ℕ) (c : Clusters) → with_first k c ≡ refused m → c ≡ refused m
  onto_refused k m (listed ks) e = let z : ◌≡◌ {A = ℕ} 0 1 = cc in absurd (omega arith)
  onto_refused k m (refused n) e = e

  from_not-zero : (n k m : ℕ) → chain_from C fat n k ≡ refused m → m ≡ 0 → ⊥
  unfolding chain_from
  from_not-zero zero k m e z = by (next_of C (fat k)) e
    where
      by : (x : Next) → by_next x (listed (k ∷ [])) (refused 4) (refused 3) ≡ refused m → ⊥
      by End q = let w : ◌≡◌ {A = ℕ} 0 1 = cc in omega arith
      by More q = let w : 4 ≡ m = cc in omega arith
      by Wrong q = let w : 3 ≡ m = cc in omega arith
  from_not-zero (suc n) k m e z = by (next_of C (fat k)) (λ q. from_not-zero n (fat k) m (onto_refused k m (chain_from C fat n (fat k)) q) z) e
    where
      by : (x : Next) → (with_first k (chain_from C fat n (fat k)) ≡ refused m → ⊥)
          → by_next x (listed (k ∷ [])) (with_first k (chain_from C fat n (fat k))) (refused 3) ≡ refused m → ⊥
      by End h q = let w : ◌≡◌ {A = ℕ} 0 1 = cc in omega arith
      by More h q = h q
      by Wrong h q = let w : 3 ≡ m = cc in omega arith

  chain-not-zero : (first m : ℕ) → in_heap C first ≡ true → read_chain C fat first ≡ refused m → m ≡ 0 → ⊥
  unfolding read_chain
  chain-not-zero first m h e z = from_not-zero (C - 1) first m (rw h at e) z

  pub chain_number : (mark free : ℕ → Bool) (goal first last count : ℕ) (w : Walked) → in_heap C first ≡ true
      → w ≡ walked mark free goal (read_chain C fat first)
      → walk_cause w last count ≡ number_of (check_chain mark last count (read_chain C fat first))
  chain_number mark free goal first last count w h e =
      ap (λ v. walk_cause v last count) e ∙ chain_cause mark free goal last count (read_chain C fat first) (λ n q z. chain-not-zero first n h q z)

  -- the last cluster of a walk; and where its record does not refuse the chain, its clusters are the record's
  pub chain_last : (mark free : ℕ → Bool) (goal first : ℕ) (w : Walked) → w ≡ walked mark free goal (read_chain C fat first)
      → w.last ≡ last_or 0 (clusters_of (read_chain C fat first))
  chain_last mark free goal first w e = ap (λ (v : Walked). v.last) e ∙ by (read_chain C fat first)
    where
      by : (c : Clusters) → (walked mark free goal c).last ≡ last_or 0 (clusters_of c)
      by (listed ks) = unfold walked in refl
      by (refused n) = unfold walked in (unfold last_or in refl)

  module _ (mark free : ℕ → Bool) (goal first last count : ℕ) (w : Walked) (h : in_heap C first ≡ true) (e : w ≡ walked mark free goal (read_chain C fat first))
      (z : number_of (check_chain mark last count (read_chain C fat first)) ≡ 0) where
    abbrev ks : List ℕ
    ks = clusters_of (check_chain mark last count (read_chain C fat first))

    walk_listed : w ≡ walked mark free goal (listed ks)
    walk_listed = e ∙ ap (walked mark free goal) (check_listed mark last count (read_chain C fat first) (λ n q. chain-not-zero first n h q) z)

    pub chain_clear_lem : w.clear ≡ every free (clusters_of (check_chain mark last count (read_chain C fat first)))
    chain_clear_lem = ap (λ (v : Walked). v.clear) walk_listed ∙ (unfold walked in refl)

    pub chain_seen : w.seen ≡ get_or (clusters_of (check_chain mark last count (read_chain C fat first))) goal 0
    chain_seen = ap (λ (v : Walked). v.seen) walk_listed ∙ (unfold walked in refl)

  pub chain_out_number : (mark : ℕ → Bool) (first last count : ℕ) → in_heap C first ≡ false
      → number_of (check_chain mark last count (read_chain C fat first)) ≡ 2
  unfolding number_of check_chain
  chain_out_number mark first last count h = rw (chain_out C fat first h) refl

module _ (C : ℕ) (fat : ℕ → ℕ) (mark : ℕ → Bool) (a : Allocation) where
  pub stream_empty : a.count ≡ 0 → read_stream C fat mark a ≡ listed []
  unfolding read_stream
  stream_empty e = rw (eq-eqb a.count 0 e) refl

  pub stream_run : (a.count ≡ 0 → ⊥) → a.no_fat_chain ≡ true → read_stream C fat mark a ≡ read_run C mark a.first a.last a.count
  unfolding read_stream
  stream_run n e = rw (ne_eqb a.count 0 n, e) refl

  pub stream_chain : (a.count ≡ 0 → ⊥) → a.no_fat_chain ≡ false → read_stream C fat mark a ≡ check_chain mark a.last a.count (read_chain C fat a.first)
  unfolding read_stream
  stream_chain n e = rw (ne_eqb a.count 0 n, e) refl

-- ---- a refusal is never 0

module _ (C : ℕ) (fat : ℕ → ℕ) (mark : ℕ → Bool) where
  run-not-zero : (first last count m : ℕ) → read_run C mark first last count ≡ refused m → m ≡ 0 → ⊥
  unfolding read_run
  run-not-zero first last count m e z = by (eqb (last + 1) (first + count)) (eqb (run_cause C mark first count) 0) refl e
    where
      by : (p q : Bool) → eqb (run_cause C mark first count) 0 ≡ q
          → cond p (cond q (listed (consec first count)) (refused (run_cause C mark first count))) (refused 5) ≡ refused m → ⊥
      by true true u r = let w : ◌≡◌ {A = ℕ} 0 1 = cc in omega arith
      by true false u r = let w : run_cause C mark first count ≡ m = cc in eqb-false (run_cause C mark first count) 0 u (w ∙ z)
      by false q u r = let w : 5 ≡ m = cc in omega arith

  check_not-zero : (last count : ℕ) (c : Clusters) → ((n : ℕ) → c ≡ refused n → n ≡ 0 → ⊥) → (m : ℕ) → check_chain mark last count c ≡ refused m → m ≡ 0 → ⊥
  unfolding check_chain
  check_not-zero last count (refused n) h m e z = h n refl (let w : n ≡ m = cc in w ∙ z)
  check_not-zero last count (listed ks) h m e z = by (eqb (length ks) count && eqb (last_or 0 ks) last) (every mark ks) e
    where
      by : (p q : Bool) → cond p (cond q (listed ks) (refused 6)) (refused 5) ≡ refused m → ⊥
      by true true r = let w : ◌≡◌ {A = ℕ} 0 1 = cc in omega arith
      by true false r = let w : 6 ≡ m = cc in omega arith
      by false q r = let w : 5 ≡ m = cc in omega arith

  read-not-zero : (first m : ℕ) → read_chain C fat first ≡ refused m → m ≡ 0 → ⊥
  unfolding read_chain
  read-not-zero first m e z = by (in_heap C first) refl e
    where
      by : (b : Bool) → in_heap C first ≡ b → cond b (chain_from C fat (C - 1) first) (refused 2) ≡ refused m → ⊥
      by true h r = from_not-zero C fat (C - 1) first m r z
      by false h r = let w : 2 ≡ m = cc in omega arith

  pub stream_not-zero : (a : Allocation) (m : ℕ) → read_stream C fat mark a ≡ refused m → m ≡ 0 → ⊥
  unfolding read_stream
  stream_not-zero a m e z = by (eqb a.count 0) a.no_fat_chain e
    where
      by : (p t : Bool) → cond p (listed []) (cond t (read_run C mark a.first a.last a.count) (check_chain mark a.last a.count (read_chain C fat a.first))) ≡ refused m → ⊥
      by true t r = let w : ◌≡◌ {A = ℕ} 0 1 = cc in omega arith
      by false true r = run-not-zero a.first a.last a.count m r z
      by false false r = check_not-zero a.last a.count (read_chain C fat a.first) (λ n q. read-not-zero a.first n q) m r z

  -- a record whose number is 0 is listed
  pub stream_listed : (a : Allocation) → number_of (read_stream C fat mark a) ≡ 0 → (ks : List ℕ) × (read_stream C fat mark a ≡ listed ks)
  unfolding number_of
  stream_listed a e = by (read_stream C fat mark a) refl e
    where
      by : (c : Clusters) → read_stream C fat mark a ≡ c → number_of c ≡ 0 → (ks : List ℕ) × (read_stream C fat mark a ≡ listed ks)
      by (listed ks) q r = (ks, q)
      by (refused n) q r = absurd (stream_not-zero a n q r)
