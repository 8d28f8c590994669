-- What a walk saw of a chain's system clusters, and what it says of the record's. Assumes nothing.
use mathlib.Core.Path.{◌≡◌, refl, sym, ◌∙◌, ap}
use mathlib.Core.Bool.{Bool, true, false, not, false≢true, and-false}
use mathlib.Core.List.{List}
use Prim.Native.Nat.{ℕ}
use native.Mathlib.Decide.{ℕ_discrete}
use borrow.Author.Tests.{eq-eqb, ne_eqb}
use lib.Dec.{eqb}
use Rattle.boot.specs.declared.layout.Layout.{Layout}
use Rattle.boot.specs.Layout.{in_heap}
use Rattle.metadata.specs.Fat.{fat_entry}
use Rattle.metadata.specs.Marks.{marked}
use Rattle.stream.specs.declared.allocation.Allocation.{Allocation}
use Rattle.stream.specs.Chain.{Clusters, read_chain}
use Rattle.stream.specs.Stream.{stream_of, check_chain, number_of, clusters_in, clusters_of, system_cause}
use Rattle.stream.specs.Internal.{barred, walked, chain_clear, stream_clear}
use Rattle.stream.proofs.ChainLaws.{chain_out, stream_chain, chain_clear_lem}
use Rattle.stream.proofs.SystemLaws.{system_clear}

module _ (y : Layout) (d m : List ℕ) where
  -- a chain that begins outside the heap is not walked
  pub chain_out_clear : (first : ℕ) → in_heap y.count first ≡ false → chain_clear y d m first ≡ false
  unfolding chain_clear walked
  chain_out_clear first e =
      ap (λ (c : Clusters). (walked (marked y d) (λ k. not (barred y m false k)) 0 c).clear) (chain_out y.count (fat_entry y d) first e)

  module _ (a : Allocation) where
    pub clear_empty : a.count ≡ 0 → stream_clear y d m a ≡ false
    unfolding stream_clear
    clear_empty e = rw (eq-eqb a.count 0 e) refl

    pub clear_run : a.no_fat_chain ≡ true → stream_clear y d m a ≡ false
    unfolding stream_clear
    clear_run e = rw e (and-false (not (eqb a.count 0)))

    pub clear_chain : (a.count ≡ 0 → ⊥) → a.no_fat_chain ≡ false → stream_clear y d m a ≡ chain_clear y d m a.first
    unfolding stream_clear
    clear_chain n e = rw (ne_eqb a.count 0 n, e) refl

    -- where the record does not refuse its chain, its clusters are those that were walked
    pub clear_system : number_of (stream_of y d a) ≡ 0 → stream_clear y d m a ≡ true → system_cause m (clusters_in y d a) ≡ 0
    unfolding clusters_in stream_of chain_clear barred
    clear_system z t =
        elim (ℕ_discrete a.count 0) [
          | yes e ↦ absurd (false≢true (sym (clear_empty e) ∙ t))
          | no e ↦ by_run a.no_fat_chain refl e
        ]
      where
        by_heap : (b : Bool) → in_heap y.count a.first ≡ b → (a.count ≡ 0 → ⊥) → a.no_fat_chain ≡ false
            → system_cause m (clusters_of (stream_of y d a)) ≡ 0
        by_heap true h e r =
            let q = stream_chain y.count (fat_entry y d) (marked y d) a e r in
            ap (λ s. system_cause m (clusters_of s)) q
            ∙ system_clear m (clusters_of (check_chain (marked y d) a.last a.count (read_chain y.count (fat_entry y d) a.first)))
            (sym (chain_clear_lem y.count (fat_entry y d) (marked y d) (λ k. not (barred y m false k)) 0 a.first a.last a.count _ h refl (sym (ap number_of q) ∙ z))
            ∙ (sym (clear_chain e r) ∙ t))
        by_heap false h e r = absurd (false≢true (sym (clear_chain e r ∙ chain_out_clear a.first h) ∙ t))

        by_run : (b : Bool) → a.no_fat_chain ≡ b → (a.count ≡ 0 → ⊥) → system_cause m (clusters_of (stream_of y d a)) ≡ 0
        by_run true r e = absurd (false≢true (sym (clear_run r) ∙ t))
        by_run false r e = by_heap (in_heap y.count a.first) refl e r
