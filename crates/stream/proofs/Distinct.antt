-- Chains through a FAT: no cluster twice, what a change of the FAT does to them, and records read from what is known of
-- their clusters. Assumes nothing.
use mathlib.Core.Path.{◌≡◌, refl, sym, ◌∙◌, ap, subst}
use mathlib.Core.Logic.{◌≢◌}
use mathlib.Core.Bool.{Bool, true, false, cond}
use mathlib.Core.List.{List, [], ◌∷◌, ◌++◌, append-nil}
use Prim.Native.Nat.{ℕ, zero, suc, ◌+◌, ◌-◌, ◌≤◌, ◌<◌}
use native.Mathlib.Numerals.{sub-one}
use native.Mathlib.Omega.{arith}
use lib.Dec.{eqb}
use lib.ListN.{length}
use borrow.Author.Tests.{eq-eqb, eqb-true, eqb-false}
use Rattle.tables.specs.Internal.{upd_all}
use Rattle.tables.specs.Lists.{Mem, here, there, Distinct, none, more, every, last_or, consec}
use Rattle.tables.proofs.ListLaws.{last_in, every-cons, every_head, every_tail, every_mem, mem_every, consec_distinct}
use Rattle.tables.proofs.CountLaws.{count_le, count-all}
use Rattle.boot.specs.Layout.{in_heap}
use Rattle.boot.proofs.Apart.{in_heap_lem}
use Rattle.metadata.specs.Fat.{END}
use Rattle.stream.specs.declared.allocation.Allocation.{Allocation}
use Rattle.stream.specs.Chain.{listed, chain_from, read_chain}
use Rattle.stream.specs.Stream.{run_cause, read_run, check_chain, read_stream}
use Rattle.stream.specs.Internal.{after, along}
use Rattle.stream.proofs.ChainLaws.{next_end, next_more, run_none, run_step, stream_empty, stream_run, stream_chain}
use Rattle.stream.proofs.StreamLaws.{length-along, consec-along, read-chain_facts, last_consec, Read, read_facts}

-- ---- lists

-- distinct clusters of a heap of C are at most C
pub few : (C : ℕ) (ks : List ℕ) → Distinct ks → every (in_heap C) ks ≡ true → length ks ≤ C
few C ks d h =
    omega (
      arith,
      count_le (upd_all (λ k. false) ks true) 2 C,
      count-all (λ k. false) 2 C ks true false d
          (λ k m. let i = in_heap_lem C k (every_mem (in_heap C) ks h k m) in (i.0, omega arith, refl)),
    )

-- ---- going along depends on the entries of the clusters passed

module _ (fat fat' : ℕ → ℕ) (run : Bool) where
  after_cong : (k : ℕ) → fat' k ≡ fat k → after fat' run k ≡ after fat run k
  unfolding after
  after_cong k e = ap (λ (x : ℕ). cond run (k + 1) x) e

  pub along_cong : (k n : ℕ) → ((j : ℕ) → Mem j (along fat run k n) → fat' j ≡ fat j) → along fat' run k n ≡ along fat run k n
  unfolding along
  along_cong k zero h = refl
  along_cong k (suc n) h =
      ap (λ (ks : List ℕ). k ∷ ks)
      (ap (λ (x : ℕ). along fat' run x n) (after_cong k (h k (here refl))) ∙ along_cong (after fat run k) n (λ j m. h j (there m)))

-- ---- chains

-- ks is the chain from k in a heap of C clusters: each leads to the next, the last one to the end
abbrev pub Chain : ℕ → (ℕ → ℕ) → ℕ → List ℕ → Type 0
Chain C f k [] = k ≡ END
Chain C f k (c ∷ cs) = (k ≡ c) × (in_heap C c ≡ true) × Chain C f (f c) cs

-- from the facts of its list
pub chain_of : (C : ℕ) (f : ℕ → ℕ) (k c : ℕ) (cs : List ℕ) → c ∷ cs ≡ along f false k (suc (length cs)) → every (in_heap C) (c ∷ cs) ≡ true
    → f (last_or c cs) ≡ END → Chain C f k (c ∷ cs)
unfolding along after last_or
chain_of C f k c [] g h e = let q : k ≡ c = cc in (q, every_head (in_heap C) c [] h, e)
chain_of C f k c (b ∷ bs) g h e =
    let q : k ≡ c = cc in
    let t : b ∷ bs ≡ along f false (f c) (suc (length bs)) = cc in
    (q, every_head (in_heap C) c (b ∷ bs) h, chain_of C f (f c) b bs t (every_tail (in_heap C) c (b ∷ bs) h) e)

-- from entries that lead from one to the next
pub chain_links : (C : ℕ) (f : ℕ → ℕ) (c : ℕ) (cs : List ℕ) → ((xs : List ℕ) (k j : ℕ) (zs : List ℕ) → c ∷ cs ≡ xs ++ k ∷ j ∷ zs → f k ≡ j)
    → every (in_heap C) (c ∷ cs) ≡ true → f (last_or c cs) ≡ END → Chain C f c (c ∷ cs)
unfolding last_or
chain_links C f c [] l h e = (refl, every_head (in_heap C) c [] h, e)
chain_links C f c (b ∷ bs) l h e = (
  refl,
  every_head (in_heap C) c (b ∷ bs) h,
  rw (l [] c b bs refl)
      (chain_links C f b bs (λ xs k j zs q. l (c ∷ xs) k j zs (ap (λ (x : List ℕ). c ∷ x) q)) (every_tail (in_heap C) c (b ∷ bs) h) e),
)

module _ (C : ℕ) (f : ℕ → ℕ) where
  pub chain_heap : (k : ℕ) (ks : List ℕ) → Chain C f k ks → every (in_heap C) ks ≡ true
  chain_heap k [] p = unfold every in refl
  chain_heap k (c ∷ cs) p = every-cons (in_heap C) c cs p.1 (chain_heap (f c) cs p.2)

  -- the rest of a chain, after one of its clusters
  chain_from_lem : (k : ℕ) (ks : List ℕ) (c : ℕ) → Chain C f k ks → Mem c ks → (ls : List ℕ) × (length ls < length ks) × Chain C f (f c) ls
  chain_from_lem k (x ∷ xs) c p (here e) = (xs, omega arith, rw e p.2)
  chain_from_lem k (x ∷ xs) c p (there m) = let r = chain_from_lem (f x) xs c p.2 m in (r.0, omega arith, r.2)
  chain_from_lem k [] c p x'' = elim x'' [ ]

  module _ (small : C + 2 ≤ END) where
    -- a cluster of the heap is not the end
    not_end : (k : ℕ) → in_heap C k ≡ true → k ≡ END → ⊥
    not_end k h e = let i = in_heap_lem C k h in omega arith

    pub chain_unique : (k : ℕ) (ks ls : List ℕ) → Chain C f k ks → Chain C f k ls → ks ≡ ls
    chain_unique k [] [] p q = refl
    chain_unique k [] (l ∷ ls) p q = absurd (not_end l q.1 (sym q.0 ∙ p))
    chain_unique k (c ∷ cs) [] p q = absurd (not_end c p.1 (sym p.0 ∙ q))
    chain_unique k (c ∷ cs) (l ∷ ls) p q =
        let e : c ≡ l = sym p.0 ∙ q.0 in
        cc (chain_unique (f c) cs ls p.2 (rw e q.2))

    -- no cluster stands twice in it
    pub chain_distinct : (k : ℕ) (ks : List ℕ) → Chain C f k ks → Distinct ks
    chain_distinct k [] p = none
    chain_distinct k (c ∷ cs) p = more (λ m. again (chain_from_lem (f c) cs c p.2 m)) (chain_distinct (f c) cs p.2)
      where
        again : (ls : List ℕ) × (length ls < length cs) × Chain C f (f c) ls → ⊥
        again r = let l : length cs ≡ length r.0 = ap length (chain_unique (f c) cs r.0 p.2 r.2) in omega arith

    -- the walk finds it
    chain_walk : (n k c : ℕ) (cs : List ℕ) → Chain C f k (c ∷ cs) → length cs ≤ n → chain_from C f n k ≡ listed (c ∷ cs)
    unfolding chain_from
    chain_walk zero k c [] p h = rw (p.0, next_end C (f c) p.2) refl
    chain_walk (suc n) k c [] p h = rw (p.0, next_end C (f c) p.2) refl
    chain_walk zero k c (b ∷ bs) p h = absurd (omega arith)
    chain_walk (suc n) k c (b ∷ bs) p h =
        let e = p.2.0 in
        rw (
          p.0,
          next_more C (f c) (λ q. not_end b p.2.1 (sym e ∙ q)) (ap (in_heap C) e ∙ p.2.1),
          chain_walk n (f c) b bs p.2 (omega arith),
        ) refl

    pub chain_listed : (k c : ℕ) (cs : List ℕ) → Chain C f k (c ∷ cs) → read_chain C f k ≡ listed (c ∷ cs)
    unfolding read_chain
    chain_listed k c cs p =
        let n = few C (c ∷ cs) (chain_distinct k (c ∷ cs) p) (chain_heap k (c ∷ cs) p) in
        rw (ap (in_heap C) p.0 ∙ p.1) (chain_walk (C - 1) k c cs p (omega arith))

  -- and a chain that is listed is one
  pub listed_chain : (k : ℕ) (ks : List ℕ) → read_chain C f k ≡ listed ks → Chain C f k ks
  listed_chain k [] e = let r = read-chain_facts C f k [] e in let s = r.1.some in absurd (omega arith)
  listed_chain k (c ∷ cs) e =
      let r = (read-chain_facts C f k (c ∷ cs) e).1 in
      chain_of C f k c cs r.goes r.heap (unfold last_or in r.ends c)

-- ---- a chain changed

-- the front of a chain kept, its last one led elsewhere
pub chain-onto : (C : ℕ) (f f' : ℕ → ℕ) (k c : ℕ) (cs zs js : List ℕ) → Chain C f k (c ∷ (cs ++ zs)) → Distinct (c ∷ cs)
    → ((j : ℕ) → Mem j (c ∷ cs) → j ≢ last_or c cs → f' j ≡ f j) → Chain C f' (f' (last_or c cs)) js → Chain C f' k (c ∷ (cs ++ js))
unfolding last_or
chain-onto C f f' k c [] zs js p d h q = (p.0, p.1, q)
chain-onto C f f' k c (b ∷ bs) zs js p (more o d) h q = (
  p.0,
  p.1,
  rw (h c (here refl) (λ e. o (subst (λ (x : ℕ). Mem x (b ∷ bs)) (sym e) (last_in b bs))))
      (chain-onto C f f' (f c) b bs zs js p.2 d (λ j m. h j (there m)) q),
)

module _ (C : ℕ) (small : C + 2 ≤ END) (f f' : ℕ → ℕ) where
  -- the entry of a kept cluster set to the end
  pub chain-cut : (k c : ℕ) (cs zs : List ℕ) → Chain C f k (c ∷ (cs ++ zs)) → Distinct (c ∷ cs)
      → ((j : ℕ) → Mem j (c ∷ cs) → j ≢ last_or c cs → f' j ≡ f j) → f' (last_or c cs) ≡ END → read_chain C f' k ≡ listed (c ∷ cs)
  chain-cut k c cs zs p d h e =
      let q : Chain C f' k (c ∷ (cs ++ [])) = chain-onto C f f' k c cs zs [] p d h e in
      chain_listed C f' small k c cs (subst (λ (x : List ℕ). Chain C f' k (c ∷ x)) (append-nil cs) q)

  -- another chain put after its last one
  pub chain-append : (k c : ℕ) (cs : List ℕ) (b : ℕ) (bs : List ℕ) → read_chain C f k ≡ listed (c ∷ cs)
      → ((j : ℕ) → Mem j (c ∷ cs) → j ≢ last_or c cs → f' j ≡ f j) → f' (last_or c cs) ≡ b
      → ((xs : List ℕ) (k j : ℕ) (zs : List ℕ) → b ∷ bs ≡ xs ++ k ∷ j ∷ zs → f' k ≡ j)
      → every (in_heap C) (b ∷ bs) ≡ true → f' (last_or b bs) ≡ END → read_chain C f' k ≡ listed (c ∷ (cs ++ b ∷ bs))
  chain-append k c cs b bs e h q l i z =
      let p = listed_chain C f k (c ∷ cs) e in
      chain_listed C f' small k c (cs ++ b ∷ bs)
      (chain-onto C f f' k c cs [] (b ∷ bs)
      (subst (λ (x : List ℕ). Chain C f k (c ∷ x)) (sym (append-nil cs)) p) (chain_distinct C f small k (c ∷ cs) p) h
      (rw q (chain_links C f' b bs l i z)))

-- ---- records

run_clear : (C : ℕ) (mark : ℕ → Bool) (k n : ℕ) → every (in_heap C) (consec k n) ≡ true → every mark (consec k n) ≡ true → run_cause C mark k n ≡ 0
unfolding consec
run_clear C mark k zero h m = run_none C mark k zero (omega arith)
run_clear C mark k (suc n) h m =
    run_step C mark k (suc n) (omega arith) (every_head (in_heap C) k (consec (k + 1) n) h) (every_head mark k (consec (k + 1) n) m)
    ∙ rw sub-one (run_clear C mark (k + 1) n (every_tail (in_heap C) k (consec (k + 1) n) h) (every_tail mark k (consec (k + 1) n) m))

module _ (C : ℕ) (fat : ℕ → ℕ) (mark : ℕ → Bool) (a : Allocation) where
  -- numbers in a row, all marked and in the heap, are a run
  pub run_listed : a.no_fat_chain ≡ true → a.last + 1 ≡ a.first + a.count → every (in_heap C) (consec a.first a.count) ≡ true
      → every mark (consec a.first a.count) ≡ true → read_stream C fat mark a ≡ listed (consec a.first a.count)
  run_listed t l h m = by (eqb a.count 0) refl
    where
      by : (b : Bool) → eqb a.count 0 ≡ b → read_stream C fat mark a ≡ listed (consec a.first a.count)
      by true u =
          let n = eqb-true a.count 0 u in
          stream_empty C fat mark a n ∙ sym (ap (λ (x : ℕ). listed (consec a.first x)) n ∙ (unfold consec in refl))
      by false u =
          stream_run C fat mark a (eqb-false a.count 0 u) t
          ∙ (unfold read_run in (rw (eq-eqb (a.last + 1) (a.first + a.count) l, eq-eqb (run_cause C mark a.first a.count) 0 (run_clear C mark a.first a.count h m)) refl))

  -- a chain that is listed, all marked, is its record's
  pub record_listed : (c : ℕ) (cs : List ℕ) → a.no_fat_chain ≡ false → read_chain C fat a.first ≡ listed (c ∷ cs) → length (c ∷ cs) ≡ a.count
      → last_or c cs ≡ a.last → every mark (c ∷ cs) ≡ true → read_stream C fat mark a ≡ listed (c ∷ cs)
  unfolding check_chain last_or
  record_listed c cs t e n l m =
      stream_chain C fat mark a (λ z. omega arith) t
      ∙ rw (e, eq-eqb (length (c ∷ cs)) a.count n, eq-eqb (last_or c cs) a.last l, m) refl

  module _ (ks : List ℕ) (r : Read C fat mark a ks) where
    pub read_length : length ks ≡ a.count
    read_length = ap length r.goes ∙ length-along fat a.no_fat_chain a.first a.count

    pub read-run : a.no_fat_chain ≡ true → ks ≡ consec a.first a.count
    read-run t = r.goes ∙ ap (λ (b : Bool). along fat b a.first a.count) t ∙ sym (consec-along fat a.first a.count)

  pub read-chain : (c : ℕ) (cs : List ℕ) → Read C fat mark a (c ∷ cs) → a.no_fat_chain ≡ false → Chain C fat a.first (c ∷ cs)
  unfolding last_or
  read-chain c cs r t =
      let n = read_length (c ∷ cs) r in
      let z : a.count ≡ 0 → ⊥ = λ z. omega arith in
      let l : last_or c cs ≡ a.last = r.last z c in
      chain_of C fat a.first c cs
      (r.goes ∙ ap (λ (b : Bool). along fat b a.first a.count) t ∙ ap (along fat false a.first) (sym n)) r.heap
      (ap fat l ∙ r.ends z t)

  module _ (small : C + 2 ≤ END) where
    -- no cluster stands twice in a stream
    pub read_distinct : (ks : List ℕ) → Read C fat mark a ks → Distinct ks
    read_distinct [] r = none
    read_distinct (c ∷ cs) r = by a.no_fat_chain refl
      where
        by : (b : Bool) → a.no_fat_chain ≡ b → Distinct (c ∷ cs)
        by true t = rw (read-run (c ∷ cs) r t) (consec_distinct a.first a.count)
        by false t = chain_distinct C fat small a.first (c ∷ cs) (read-chain c cs r t)

    -- what holds of a record's clusters is enough to read them
    pub read_listed : (ks : List ℕ) → Read C fat mark a ks → read_stream C fat mark a ≡ listed ks
    read_listed [] r = stream_empty C fat mark a (sym (read_length [] r))
    read_listed (c ∷ cs) r = by a.no_fat_chain refl
      where
        n : suc (length cs) ≡ a.count
        n = read_length (c ∷ cs) r

        some : a.count ≡ 0 → ⊥
        some z = omega (arith, n)

        last : last_or c cs ≡ a.last
        last = unfold last_or in r.last some c

        by : (b : Bool) → a.no_fat_chain ≡ b → read_stream C fat mark a ≡ listed (c ∷ cs)
        by true t =
            let q = read-run (c ∷ cs) r t in
            run_listed t (last_row q) (ap (every (in_heap C)) (sym q) ∙ r.heap) (ap (every mark) (sym q) ∙ r.marks) ∙ ap listed (sym q)
          where
            last_row : c ∷ cs ≡ consec a.first a.count → a.last + 1 ≡ a.first + a.count
            last_row q = omega (arith, ap (last_or 0) q, r.last some 0, last_consec 0 a.first a.count some)
        by false t = record_listed c cs t (chain_listed C fat small a.first c cs (read-chain c cs r t)) n last r.marks

-- entries and marks outside a stream do not matter to it
pub stream_frame : (C : ℕ) (fat fat' : ℕ → ℕ) (mark mark' : ℕ → Bool) (a : Allocation) (ks : List ℕ) → C + 2 ≤ END
    → ((j : ℕ) → Mem j ks → fat' j ≡ fat j) → ((j : ℕ) → Mem j ks → mark' j ≡ mark j) → read_stream C fat mark a ≡ listed ks
    → read_stream C fat' mark' a ≡ listed ks
unfolding last_or
stream_frame C fat fat' mark mark' a ks small h m e = read_listed C fat' mark' a small ks
    (record {
      goes = r.goes ∙ sym (along_cong fat fat' a.no_fat_chain a.first a.count (λ j q. h j (subst (Mem j) (sym r.goes) q)));
      heap = r.heap;
      marks = mem_every mark' ks (λ j q. m j q ∙ every_mem mark ks r.marks j q);
      last = r.last;
      ends = λ n t. h a.last (in_it ks (r.last n) (λ z. n (sym (read_length C fat mark a ks r) ∙ z))) ∙ r.ends n t;
    })
  where
    r : Read C fat mark a ks
    r = read_facts C fat mark a ks e

    in_it : (l : List ℕ) → ((z : ℕ) → last_or z l ≡ a.last) → (length l ≡ 0 → ⊥) → Mem a.last l
    in_it [] q n = absurd (n refl)
    in_it (c ∷ cs) q n = subst (λ (x : ℕ). Mem x (c ∷ cs)) (q c) (last_in c cs)
