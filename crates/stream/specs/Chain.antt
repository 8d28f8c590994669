-- A chain of the FAT (exFAT specification, 4.1): its clusters, or the number of the refusal.
use Rattle.std.specs.Prelude.{cond, List, [], ◌∷◌, ℕ, zero, suc, ◌-◌, eqb}
use Rattle.boot.specs.Layout.{in_heap}
use Rattle.metadata.specs.Fat.{END}

-- the clusters of a stream, or the number of the refusal
pub data Clusters : Type 0 where
  listed : List ℕ → Clusters
  refused : ℕ → Clusters

-- what a FAT value says: the end of the chain, another cluster of the heap, or neither
pub data Next : Type 0 where
  End : Next
  More : Next
  Wrong : Next

-- by the value
unfoldable pub next_of : (C v : ℕ) → Next
next_of C v = cond (eqb v END) End (cond (in_heap C v) More Wrong)

-- by what it says
abbrev pub by_next : Next → Clusters → Clusters → Clusters → Clusters
by_next End e m w = e
by_next More e m w = m
by_next Wrong e m w = w

-- k before the clusters that follow it
abbrev pub with_first : ℕ → Clusters → Clusters
with_first k (listed ks) = listed (k ∷ ks)
with_first k (refused n) = refused n

-- the chain from k, a cluster of the heap, where at most n clusters may follow it: 3 for a value that is neither in the heap
-- nor the end, 4 where another cluster follows the last that may
unfoldable pub chain_from : ℕ → (ℕ → ℕ) → ℕ → ℕ → Clusters
chain_from C fat zero k = by_next (next_of C (fat k)) (listed (k ∷ [])) (refused 4) (refused 3)
chain_from C fat (suc n) k = by_next (next_of C (fat k)) (listed (k ∷ [])) (with_first k (chain_from C fat n (fat k))) (refused 3)

-- the chain from first: 2 where first is outside the heap; C clusters at most
unfoldable pub read_chain : (C : ℕ) (fat : ℕ → ℕ) (first : ℕ) → Clusters
read_chain C fat first = cond (in_heap C first) (chain_from C fat (C - 1) first) (refused 2)
