-- What holds of the clusters of a record that is not refused. Assumes nothing.
use mathlib.Core.Path.{◌≡◌, refl, sym, ◌∙◌, ap, ap₂}
use mathlib.Core.Bool.{Bool, true, false, ◌&&◌, cond, false≢true}
use mathlib.Core.List.{List, [], ◌∷◌, ◌++◌}
use Prim.Native.Nat.{ℕ, zero, suc, ◌+◌, ◌-◌, ◌≤◌, ◌<◌}
use native.Mathlib.Numerals.{add-one, sub-one}
use native.Mathlib.Omega.{arith}
use lib.Dec.{eqb}
use lib.ListN.{length, get_or, set, take, drop, length-drop}
use lib.Seq.{take-suc, drop-cons, length-take-le}
use borrow.Author.Tests.{eqb-true, eqb-false}
use Rattle.primitives.specs.Splice.{splice}
use Rattle.primitives.proofs.SpliceLaws.{splice_turn}
use Rattle.tables.specs.Lists.{every, last_or, consec}
use Rattle.tables.proofs.ListLaws.{every-cons, every_head, every_tail}
use Rattle.tables.proofs.Cases.{clash, and_left, and_right}
use Rattle.boot.specs.Layout.{in_heap}
use Rattle.metadata.specs.Fat.{END}
use Rattle.stream.specs.declared.allocation.Allocation.{Allocation}
use Rattle.stream.specs.Chain.{Next, End, More, Wrong, Clusters, listed, refused, next_of, by_next, with_first, chain_from, read_chain}
use Rattle.stream.specs.Stream.{run_cause, read_run, check_chain, read_stream}
use Rattle.stream.specs.Internal.{after, along}
use Rattle.stream.proofs.ChainLaws.{more_in, stream_empty, stream_run, stream_chain}

-- ---- going along

module _ (fat : ℕ → ℕ) (run : Bool) where
  pub along-step : (k n : ℕ) → 0 < n → along fat run k n ≡ k ∷ along fat run (after fat run k) (n - 1)
  unfolding along
  along-step k zero h = absurd (omega arith)
  along-step k (suc n) h = rw sub-one refl

  pub length-along : (k n : ℕ) → length (along fat run k n) ≡ n
  unfolding along
  length-along k zero = refl
  length-along k (suc n) = ap suc (length-along (after fat run k) n)

pub after_run : (fat : ℕ → ℕ) (run : Bool) (k : ℕ) → run ≡ true → after fat run k ≡ k + 1
unfolding after
after_run fat run k e = rw e refl

pub after-chain : (fat : ℕ → ℕ) (run : Bool) (k : ℕ) → run ≡ false → after fat run k ≡ fat k
unfolding after
after-chain fat run k e = rw e refl

-- consecutive clusters are those of a run
pub consec-along : (fat : ℕ → ℕ) (k n : ℕ) → consec k n ≡ along fat true k n
unfolding consec along after
consec-along fat k zero = refl
consec-along fat k (suc n) = ap (λ (l : List ℕ). k ∷ l) (consec-along fat (k + 1) n)

-- ---- a list written number by number

module _ (full : List ℕ) (i k : ℕ) (rest : List ℕ) (e : drop i full ≡ k ∷ rest) where
  inside : i < length full
  inside = omega (arith, length-drop i full, ap length e)

  front : (drop (suc i) full ≡ rest) × (get_or full i 0 ≡ k)
  front = let q = drop-cons full i 0 inside in (cc, cc)

  pub drop_turn : drop (i + 1) full ≡ rest
  drop_turn = rw add-one front.0

  pub list_turn : (l : List ℕ) → length full ≤ length l → set (splice l 0 (take i full)) i k ≡ splice l 0 (take (i + 1) full)
  list_turn l h =
      let s : take i full ++ (k ∷ []) ≡ take (i + 1) full = rw (add-one, take-suc full i 0 inside, front.1) refl in
      let z : 0 + i ≡ i = omega arith in
      ap (λ (x : ℕ). set (splice l 0 (take i full)) x k) (sym z)
      ∙ splice_turn l 0 (take i full) (take (i + 1) full) i k (length-take-le i full (omega (arith, inside))) (omega (arith, inside)) s

-- ---- a chain that is listed

-- a list that begins with k and goes on from there
pub record Listed (C : ℕ) (fat : ℕ → ℕ) (n k : ℕ) (ks : List ℕ) : Type 0 where
  pub goes : ks ≡ along fat false k (length ks)
  pub heap : every (in_heap C) ks ≡ true
  pub some : 1 ≤ length ks
  pub few : length ks ≤ n + 1
  pub ends : (z : ℕ) → fat (last_or z ks) ≡ END

module _ (C : ℕ) (fat : ℕ → ℕ) where
  next_end : (v : ℕ) → next_of C v ≡ End → v ≡ END
  unfolding next_of
  next_end v e = by (eqb v END) (in_heap C v) refl refl
    where
      by : (a b : Bool) → eqb v END ≡ a → in_heap C v ≡ b → v ≡ END
      by true b p q = eqb-true v END p
      by false true p q = let z : More ≡ End = sym (rw (p, q) refl) ∙ e in clash (cc)
      by false false p q = let z : Wrong ≡ End = sym (rw (p, q) refl) ∙ e in clash (cc)

  only_one : (n k : ℕ) → in_heap C k ≡ true → fat k ≡ END → Listed C fat n k (k ∷ [])
  only_one n k h e = record {
    goes = unfold along in refl;
    heap = every-cons (in_heap C) k [] h (unfold every in refl);
    some = omega arith;
    few = omega arith;
    ends = λ z. unfold last_or in e;
  }

  one_more : (n k : ℕ) (ks : List ℕ) → in_heap C k ≡ true → Listed C fat n (fat k) ks → Listed C fat (suc n) k (k ∷ ks)
  one_more n k ks h r =
      let f = r.few in
      record {
        goes = unfold along in ap (λ (l : List ℕ). k ∷ l) (r.goes ∙ ap (λ (x : ℕ). along fat false x (length ks)) (sym (after-chain fat false k refl)));
        heap = every-cons (in_heap C) k ks h r.heap;
        some = omega arith;
        few = omega arith;
        ends = λ z. unfold last_or in r.ends k;
      }

  chain_facts : (n k : ℕ) (ks : List ℕ) → in_heap C k ≡ true → chain_from C fat n k ≡ listed ks → Listed C fat n k ks
  unfolding chain_from
  chain_facts zero k ks h e = by (next_of C (fat k)) refl e
    where
      by : (x : Next) → next_of C (fat k) ≡ x → by_next x (listed (k ∷ [])) (refused 4) (refused 3) ≡ listed ks → Listed C fat zero k ks
      by End q p = let z : k ∷ [] ≡ ks = cc in rw (sym z) (only_one zero k h (next_end (fat k) q))
      by More q p = clash (cc)
      by Wrong q p = clash (cc)
  chain_facts (suc n) k ks h e = by (next_of C (fat k)) refl (chain_from C fat n (fat k)) (λ l i q. chain_facts n (fat k) l i q) e
    where
      by : (x : Next) → next_of C (fat k) ≡ x → (c : Clusters)
          → ((l : List ℕ) → in_heap C (fat k) ≡ true → c ≡ listed l → Listed C fat n (fat k) l)
          → by_next x (listed (k ∷ [])) (with_first k c) (refused 3) ≡ listed ks → Listed C fat (suc n) k ks
      by End q c i p = let z : k ∷ [] ≡ ks = cc in rw (sym z) (only_one (suc n) k h (next_end (fat k) q))
      by More q (listed l) i p = let z : k ∷ l ≡ ks = cc in rw (sym z) (one_more n k l h (i l (more_in C (fat k) q) refl))
      by More q (refused m) i p = clash (cc)
      by Wrong q c i p = clash (cc)

  pub read-chain_facts : (first : ℕ) (ks : List ℕ) → read_chain C fat first ≡ listed ks
      → (in_heap C first ≡ true) × Listed C fat (C - 1) first ks
  unfolding read_chain
  read-chain_facts first ks e = by (in_heap C first) refl e
    where
      by : (b : Bool) → in_heap C first ≡ b → cond b (chain_from C fat (C - 1) first) (refused 2) ≡ listed ks → (in_heap C first ≡ true) × Listed C fat (C - 1) first ks
      by true h p = (h, chain_facts (C - 1) first ks h p)
      by false h p = clash (cc)

-- ---- a record that is not refused

-- the last of a list that has one
last_any : (l : List ℕ) → 1 ≤ length l → (x y : ℕ) → last_or x l ≡ last_or y l
unfolding last_or
last_any [] h x y = absurd (omega arith)
last_any (k ∷ ks) h x y = refl

-- what a record's clusters are
pub record Read (C : ℕ) (fat : ℕ → ℕ) (mark : ℕ → Bool) (a : Allocation) (ks : List ℕ) : Type 0 where
  pub goes : ks ≡ along fat a.no_fat_chain a.first a.count
  pub heap : every (in_heap C) ks ≡ true
  pub marks : every mark ks ≡ true
  pub last : (a.count ≡ 0 → ⊥) → (z : ℕ) → last_or z ks ≡ a.last
  pub ends : (a.count ≡ 0 → ⊥) → a.no_fat_chain ≡ false → fat a.last ≡ END

module _ (C : ℕ) (mark : ℕ → Bool) where
  run-every : (k n : ℕ) → run_cause C mark k n ≡ 0 → (every (in_heap C) (consec k n) ≡ true) × (every mark (consec k n) ≡ true)
  unfolding run_cause consec
  run-every k zero e = (unfold every in refl, unfold every in refl)
  run-every k (suc n) e = by (in_heap C k) (mark k) refl refl e (λ r. run-every (k + 1) n r)
    where
      by : (a b : Bool) → in_heap C k ≡ a → mark k ≡ b → cond a (cond b (run_cause C mark (k + 1) n) 6) 2 ≡ 0
          → (run_cause C mark (k + 1) n ≡ 0 → (every (in_heap C) (consec (k + 1) n) ≡ true) × (every mark (consec (k + 1) n) ≡ true))
          → (every (in_heap C) (k ∷ consec (k + 1) n) ≡ true) × (every mark (k ∷ consec (k + 1) n) ≡ true)
      by true true p q r i = (every-cons (in_heap C) k (consec (k + 1) n) p (i r).0, every-cons mark k (consec (k + 1) n) q (i r).1)
      by true false p q r i = absurd (omega arith)
      by false b p q r i = absurd (omega arith)

pub last_consec : (z k n : ℕ) → (n ≡ 0 → ⊥) → last_or z (consec k n) + 1 ≡ k + n
unfolding last_or consec
last_consec z k zero h = absurd (h refl)
last_consec z k (suc zero) h = omega arith
last_consec z k (suc (suc n)) h = last_consec k (k + 1) (suc n) (λ e. omega arith) ∙ (omega arith)

module _ (C : ℕ) (fat : ℕ → ℕ) (mark : ℕ → Bool) (a : Allocation) (ks : List ℕ) where
  run-read : a.no_fat_chain ≡ true → read_run C mark a.first a.last a.count ≡ listed ks → Read C fat mark a ks
  unfolding read_run
  run-read t e = by (eqb (a.last + 1) (a.first + a.count)) refl (eqb (run_cause C mark a.first a.count) 0) refl e
    where
      by : (p : Bool) → eqb (a.last + 1) (a.first + a.count) ≡ p → (q : Bool) → eqb (run_cause C mark a.first a.count) 0 ≡ q
          → cond p (cond q (listed (consec a.first a.count)) (refused (run_cause C mark a.first a.count))) (refused 5) ≡ listed ks
          → Read C fat mark a ks
      by true u true v r =
          let z : consec a.first a.count ≡ ks = cc in
          let w = run-every C mark a.first a.count (eqb-true (run_cause C mark a.first a.count) 0 v) in
          rw (sym z)
          (record {
            goes = consec-along fat a.first a.count ∙ ap (λ (b : Bool). along fat b a.first a.count) (sym t);
            heap = w.0;
            marks = w.1;
            last = λ n x. omega (arith, eqb-true (a.last + 1) (a.first + a.count) u, last_consec x a.first a.count n);
            ends = λ n f. absurd (false≢true (sym f ∙ t));
          })
      by true u false v r = clash (cc)
      by false u q v r = clash (cc)

  chain-read : a.no_fat_chain ≡ false → check_chain mark a.last a.count (read_chain C fat a.first) ≡ listed ks → Read C fat mark a ks
  unfolding check_chain
  chain-read f e = by (read_chain C fat a.first) refl e
    where
      done : (l : List ℕ) → read_chain C fat a.first ≡ listed l → (p q : Bool) → eqb (length l) a.count && eqb (last_or 0 l) a.last ≡ p
          → every mark l ≡ q → cond p (cond q (listed l) (refused 6)) (refused 5) ≡ listed ks → Read C fat mark a ks
      done l c true true u v r =
          let z : l ≡ ks = cc in
          let w = (read-chain_facts C fat a.first l c).1 in
          let n = eqb-true (length l) a.count (and_left (eqb (length l) a.count) (eqb (last_or 0 l) a.last) u) in
          let t = eqb-true (last_or 0 l) a.last (and_right (eqb (length l) a.count) (eqb (last_or 0 l) a.last) u) in
          rw (sym z)
          (record {
            goes = w.goes ∙ ap₂ (λ (b : Bool) (x : ℕ). along fat b a.first x) (sym f) n;
            heap = w.heap;
            marks = v;
            last = λ _ x. last_any l w.some x 0 ∙ t;
            ends = λ _ _. ap fat (sym t) ∙ w.ends 0;
          })
      done l c true false u v r = clash (cc)
      done l c false q u v r = clash (cc)

      by : (c : Clusters) → read_chain C fat a.first ≡ c → check_chain mark a.last a.count c ≡ listed ks → Read C fat mark a ks
      by (listed l) c r = done l c (eqb (length l) a.count && eqb (last_or 0 l) a.last) (every mark l) refl refl r
      by (refused n) c r = clash (cc)

  pub read_facts : read_stream C fat mark a ≡ listed ks → Read C fat mark a ks
  unfolding along
  read_facts e = by (eqb a.count 0) refl a.no_fat_chain refl
    where
      by : (p : Bool) → eqb a.count 0 ≡ p → (t : Bool) → a.no_fat_chain ≡ t → Read C fat mark a ks
      by true u t v =
          let n = eqb-true a.count 0 u in
          let z : [] ≡ ks = let q = stream_empty C fat mark a n in cc in
          rw (sym z)
          (record {
            goes = ap (along fat a.no_fat_chain a.first) (sym n);
            heap = unfold every in refl;
            marks = unfold every in refl;
            last = λ h. absurd (h n);
            ends = λ h. absurd (h n);
          })
      by false u true v = run-read v (sym (stream_run C fat mark a (eqb-false a.count 0 u) v) ∙ e)
      by false u false v = chain-read v (sym (stream_chain C fat mark a (eqb-false a.count 0 u) v) ∙ e)

-- ---- a test that every cluster passes, along the way

module _ (p : ℕ → Bool) (fat : ℕ → ℕ) (run : Bool) (k n : ℕ) (h : 0 < n) (e : every p (along fat run k n) ≡ true) where
  pub along_head : p k ≡ true
  along_head = every_head p k (along fat run (after fat run k) (n - 1)) (ap (every p) (sym (along-step fat run k n h)) ∙ e)

  pub along_rest : every p (along fat run (after fat run k) (n - 1)) ≡ true
  along_rest = every_tail p k (along fat run (after fat run k) (n - 1)) (ap (every p) (sym (along-step fat run k n h)) ∙ e)
