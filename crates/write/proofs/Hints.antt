-- The hint that an accepted call answers: as given, or after the last cluster of the stream that grew. Assumes nothing.
use mathlib.Core.Path.{◌≡◌, refl, sym, ◌∙◌, ap, ap₂, subst}
use mathlib.Core.Logic.{◌≢◌}
use mathlib.Core.Bool.{Bool, true, false}
use mathlib.Core.List.{List, ◌∷◌, [], ◌++◌}
use mathlib.Core.Option.{some}
use Prim.Native.Nat.{ℕ, zero, suc, ◌+◌, ◌≤◌}
use native.Mathlib.Decide.{ℕ_discrete}
use native.Mathlib.Omega.{arith}
use lib.ListN.{length}
use borrow.Author.Tests.{eq-eqb, ne_eqb}
use Rattle.tables.specs.Lists.{last_or}
use Rattle.tables.specs.Count.{count}
use Rattle.tables.proofs.TableLaws.{upd_same}
use Rattle.boot.specs.declared.geometry.Geometry.{Geometry}
use Rattle.boot.specs.declared.layout.Layout.{Layout}
use Rattle.boot.specs.Geometry.{root_cluster}
use Rattle.boot.specs.Limits.{in_map}
use Rattle.boot.specs.Layout.{in_heap, is_bitmap_cluster}
use Rattle.boot.proofs.Apart.{in_heap_lem}
use Rattle.metadata.specs.Usable.{is_usable}
use Rattle.metadata.proofs.Frame.{Fits, fits_kept}
use Rattle.stream.specs.declared.allocation.Allocation.{Allocation}
use Rattle.stream.specs.Chain.{listed}
use Rattle.stream.specs.Stream.{number_of, stream_of, clusters_in}
use Rattle.choice.specs.declared.choice.Choice.{Choice}
use Rattle.choice.specs.declared.choice.Choice.TheVariants.{Run, Scattered, TooFew}
use Rattle.choice.specs.Choice.{choose}
use Rattle.write_alloc.specs.Outcome.{Outcome}
use Rattle.boot.specs.Causes.{wrap}
use Rattle.write_alloc.specs.Allocate.{new_run, new_chain, new_stream}
use Rattle.choice.proofs.ChoiceLaws.{few_count}
use Rattle.write_alloc.proofs.AllocateLaws.{stream_run, stream_chain}
use Rattle.write_extend.specs.Extend.{in_place, longer_run, longer_chain, longer, extend_in}
use Rattle.write_extend.proofs.ExtendLaws.{longer_in, longer_out}
use Rattle.write_extend.proofs.EnoughLaws.{grow_new, grow_longer}
use Rattle.directory.specs.Directory.{root_record}
use Rattle.directory.specs.Internal.{sets}
use Rattle.directory.specs.Open.{file_record}
use Rattle.write_dir.specs.Place.{GrownDirectory, grow_one, grow_by}
use Rattle.write_dir.proofs.AddedLaws.{grow_one_lem}
use Rattle.write.specs.Calls.{Call}
use Rattle.write.specs.Consistent.{Consistent, lay, root, root_clusters, root_bytes, stream_at, file_clusters}
use Rattle.write.specs.Space.{must_add}
use Rattle.write.specs.Demand.{hint_of, clusters_grown, hint_answered}
use Rattle.write.proofs.Reading.{reads_as, last_is}
use Rattle.write.proofs.Scene.{lay_same, slot_stream}
use Rattle.write.proofs.Change.{Change, change_consistent, change_sets}

-- ---- where a call adds nothing, and where it adds

module _ (g : Geometry) (d d' : List ℕ) (c : Call) where
  pub hint_none : must_add g d c ≡ 0 → hint_of c ≡ hint_answered g d d' c
  unfolding hint_answered
  hint_none z = rw (eq-eqb (must_add g d c) 0 z) refl

  pub hint_some : must_add g d c ≢ 0 → wrap (lay g d).count (last_or 0 (clusters_grown g d' c) + 1) ≡ hint_answered g d d' c
  unfolding hint_answered
  hint_some n = rw (ne_eqb (must_add g d c) 0 n) refl

-- ---- clusters added to a record that reads

module _ (y : Layout) (d m : List ℕ) (w : Fits y d) (a : Allocation) (n hint : ℕ) (reads : number_of (stream_of y d a) ≡ 0)
    (hint_in : in_heap y.count hint ≡ true) (one : 1 ≤ n) (enough : n ≤ count (is_usable y d m) 2 y.count) where
  -- the hint is the one after the last
  abbrev Next : Outcome → Type 0
  Next o = o.answer.hint ≡ wrap y.count (o.answer.allocation.last + 1)

  new_next : Next (new_stream y d m n hint hint)
  new_next = by (choose (is_usable y d m) y.count n hint) refl
    where
      by : (c : Choice) → choose (is_usable y d m) y.count n hint ≡ c → Next (new_stream y d m n hint hint)
      by (Run k) q = subst Next (sym (stream_run y d m n hint hint k q)) (unfold new_run in (ap (wrap y.count) (omega arith)))
      by Scattered q =
          subst Next (sym (stream_chain y d m n hint hint (in_heap_lem y.count hint hint_in).0 q)) (unfold new_chain in refl)
      by TooFew q = let f = few_count (is_usable y d m) y.count n hint q in absurd (omega arith)

  longer_next : Next (longer y d m a n)
  longer_next = by (in_place y d m a n) refl
    where
      by : (b : Bool) → in_place y d m a n ≡ b → Next (longer y d m a n)
      by true q = subst Next (sym (longer_in y d m a n q)) (unfold longer_run in refl)
      by false q = subst Next (sym (longer_out y d m a n q)) (unfold longer_chain in refl)

  pub extend_next : (extend_in y d m a n hint).answer.hint ≡ wrap y.count ((extend_in y d m a n hint).answer.allocation.last + 1)
  extend_next =
      elim (ℕ_discrete a.count 0) [
        | yes c ↦ subst Next (sym (grow_new y d m w a n hint reads hint_in c one enough)) new_next
        | no c ↦ subst Next (sym (grow_longer y d m w a n hint reads hint_in (omega arith) one enough)) longer_next
      ]

-- a directory grown by none, and by at least one cluster
pub grow_same : (y : Layout) (m : List ℕ) (n : ℕ) (v : GrownDirectory) → n ≡ 0 → (grow_by y m n v).hint ≡ v.hint
unfolding grow_by
grow_same y m n v z = ap (λ (k : ℕ). (grow_by y m k v).hint) z

pub grow_next : (y : Layout) (m : List ℕ) → ((k : ℕ) → is_bitmap_cluster y k ≡ true → in_map m k ≡ true) → (n : ℕ) (v : GrownDirectory) → Fits y v.volume
    → (ks : List ℕ) → stream_of y v.volume v.directory ≡ listed ks → in_heap y.count v.hint ≡ true
    → n ≤ count (is_usable y v.volume m) 2 y.count → 1 ≤ n
    → (grow_by y m n v).hint ≡ wrap y.count ((grow_by y m n v).directory.last + 1)
unfolding grow_by
grow_next y m mapped zero v w ks e i h one = absurd (omega arith)
grow_next y m mapped (suc zero) v w ks e i h one =
    unfold grow_one in
    (extend_next y v.volume m w v.directory 1 v.hint (ap number_of e ∙ (unfold number_of in refl)) i (omega arith) (omega arith))
grow_next y m mapped (suc (suc n)) v w ks e i h one =
    let k = (extend_in y v.volume m v.directory 1 v.hint).answer.allocation.last in
    let a = grow_one_lem y m v w mapped ks e i (omega arith) in
    grow_next y m mapped (suc n) (grow_one y m v) (fits_kept y v.volume (grow_one y m v).volume a.long w) (ks ++ k ∷ []) a.reads a.hint_in
    (omega (arith, a.usable)) (omega arith)

-- ---- the last cluster of a stream, on the volume that a call leaves

-- of the root, by its record there
pub root_last : (g : Geometry) (d d' : List ℕ) (b : Allocation) → length d' ≡ length d → root_record (lay g d) d' (root_cluster g) ≡ b
    → number_of (stream_of (lay g d) d' b) ≡ 0 → b.count ≢ 0 → last_or 0 (root_clusters g d') ≡ b.last
unfolding root_clusters root
root_last g d d' b long e reads full =
    ap (λ (y : Layout). last_or 0 (clusters_in y d' (root_record y d' (root_cluster g)))) (lay_same g d d' long)
    ∙ ap (λ (a : Allocation). last_or 0 (clusters_in (lay g d) d' a)) e
    ∙ last_is (lay g d) d' b (clusters_in (lay g d) d' b) (reads_as (lay g d) d' b reads) full

-- of the file at the slot that is changed, by the set there
pub file_last : (g : Geometry) (m d d' : List ℕ) (more i : ℕ) (s : List ℕ) → Consistent g m d → Change g m d d' more i (some s)
    → (file_record (lay g d) d' s).count ≢ 0 → last_or 0 (file_clusters g d' i) ≡ (file_record (lay g d) d' s).last
unfolding file_clusters
file_last g m d d' more i s c h full =
    ap₂ (λ (y : Layout) (a : Allocation). last_or 0 (clusters_in y d' a)) same stream
    ∙ last_is (lay g d) d' b (clusters_in (lay g d) d' b) (reads_as (lay g d) d' b (h.family.reads (suc i) b (h.own_member s refl))) full
  where
    b : Allocation
    b = file_record (lay g d) d' s

    same : lay g d' ≡ lay g d
    same = lay_same g d d' h.long

    now : sets (root_bytes g d') i ≡ some s
    now = change_sets g m d d' more i (some s) c h i ∙ upd_same (sets (root_bytes g d)) i (some s)

    stream : stream_at g d' i ≡ file_record (lay g d) d' s
    stream =
        slot_stream g m d' (change_consistent g m d d' more i (some s) c h) i s now
        ∙ ap (λ (y : Layout). file_record y d' s) same
