-- A stream cut keeps what each store keeps: its own clusters are freed, and the last one kept becomes the end. Assumes nothing.
use mathlib.Core.Path.{◌≡◌, refl, subst}
use mathlib.Core.Logic.{◌≢◌}
use mathlib.Core.Bool.{true, false, cond}
use mathlib.Core.List.{List, [], ◌∷◌}
use Prim.Native.Nat.{ℕ}
use native.Mathlib.Decide.{ℕ_discrete}
use lib.Dec.{eqb, leb}
use lib.ListN.{take, drop, take-append-drop}
use Rattle.tables.specs.Lists.{Mem, here, there, every, last_or}
use Rattle.tables.proofs.Cases.{cond_case}
use Rattle.tables.proofs.ListLaws.{every_mem, mem_take, mem_right, last_in}
use Rattle.boot.specs.declared.layout.Layout.{Layout}
use Rattle.boot.specs.Layout.{in_heap}
use Rattle.boot.specs.Causes.{first_cause, heap_cause}
use Rattle.metadata.specs.Fat.{END, set_fat}
use Rattle.metadata.specs.Marks.{set_mark}
use Rattle.metadata.proofs.Keeps.{Own, Keeps, Went, fat_on, mark_on}
use Rattle.stream.specs.declared.allocation.Allocation.{Allocation}
use Rattle.stream.specs.Chain.{Clusters, listed, refused}
use Rattle.stream.specs.Stream.{number_of, stream_of, clusters_of}
use Rattle.stream.proofs.ListingLaws.{stream_read}
use Rattle.write_alloc.specs.Outcome.{Outcome, unchanged}
use Rattle.write_shrink.specs.Shrink.{free_all, end_kept, shrink_cause, cut, shrink_in}

-- whatever a record reads as, its clusters are in the heap
clusters_in_lem : (y : Layout) (e : List ℕ) (a : Allocation) → every (in_heap y.count) (clusters_of (stream_of y e a)) ≡ true
clusters_in_lem y e a =
    elim (ℕ_discrete (number_of (stream_of y e a)) 0) [
      | yes z ↦ (stream_read y e a z).heap
      | no z ↦ by (stream_of y e a) z
    ]
  where
    by : (c : Clusters) → number_of c ≢ 0 → every (in_heap y.count) (clusters_of c) ≡ true
    by (listed ks) z = absurd (z (unfold number_of in refl))
    by (refused n) z = unfold every in refl

module _ (y : Layout) (P : ℕ → Type 0) (K : List ℕ → List ℕ → Type 0) (s : Keeps y P K) (d : List ℕ) where
  pub free_on : (ks : List ℕ) (e : List ℕ) → Went y K d e → ((k : ℕ) → Mem k ks → Own y P k) → Went y K d (free_all y e ks)
  unfolding free_all
  free_on [] e w o = w
  free_on (k ∷ ks) e w o =
      let i = o k (here refl) in
      free_on ks (set_mark y (set_fat y e k 0) k false) (mark_on y P K s d (set_fat y e k 0) (fat_on y P K s d e w k 0 i) k false i) (λ j q. o j (there q))

  pub shrink_on : (m e : List ℕ) → Went y K d e → (a : Allocation) → ((k : ℕ) → Mem k (clusters_of (stream_of y e a)) → P k) → (keep hint : ℕ)
      → Went y K d (shrink_in y e m a keep hint).volume
  unfolding shrink_in cut
  shrink_on m e w a own keep hint =
      let n = first_cause (heap_cause y.count hint ∷ cond (leb a.count keep) 0 (shrink_cause y e m a keep) ∷ []) in
      cond_case (λ (o : Outcome). Went y K d o.volume) (eqb n 0) (cond (leb a.count keep) (unchanged 0 a hint e) (cut y e a keep hint)) (unchanged n a hint e)
      (λ _. cond_case (λ (o : Outcome). Went y K d o.volume) (leb a.count keep) (unchanged 0 a hint e) (cut y e a keep hint) (λ _. w)
      (λ _. free_on (drop keep ks) (end_kept y e a (take keep ks)) (end_on (take keep ks) (λ k i. all_own k (mem_take keep ks i)))
      (λ k i. all_own k (subst (Mem k) (take-append-drop keep ks) (mem_right (take keep ks) i)))))
      (λ _. w)
    where
      ks : List ℕ
      ks = clusters_of (stream_of y e a)

      all_own : (k : ℕ) → Mem k ks → Own y P k
      all_own k i = (every_mem (in_heap y.count) ks (clusters_in_lem y e a) k i, own k i)

      end_on : (js : List ℕ) → ((k : ℕ) → Mem k js → Own y P k) → Went y K d (end_kept y e a js)
      end_on [] o = unfold end_kept in w
      end_on (j ∷ js) o =
          unfold end_kept in
          (cond_case (Went y K d) a.no_fat_chain e (set_fat y e (last_or j js) END) (λ _. w)
          (λ _. fat_on y P K s d e w (last_or j js) END (o (last_or j js) (last_in j js))))
