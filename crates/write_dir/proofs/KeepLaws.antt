-- A directory grown keeps what each store keeps: clusters that were usable are taken and zeroed, and no others. Assumes nothing.
use mathlib.Core.Path.{◌≡◌, refl, sym, ◌∙◌, ap, subst}
use mathlib.Core.Bool.{true, false, false≢true}
use mathlib.Core.List.{List, [], ◌∷◌, ◌++◌}
use mathlib.Core.Logic.{⊎_elim}
use Prim.Native.Nat.{ℕ, zero, suc, ◌≤◌}
use native.Mathlib.Omega.{arith}
use lib.ListN.{length, replicate, length-append, length-replicate}
use Rattle.tables.specs.Lists.{Mem, here, every, last_or}
use Rattle.tables.specs.Count.{count}
use Rattle.tables.proofs.ListLaws.{every_head, every_mem, mem_append}
use Rattle.boot.specs.declared.layout.Layout.{Layout}
use Rattle.boot.specs.Limits.{in_map}
use Rattle.boot.specs.Layout.{in_heap, is_bitmap_cluster}
use Rattle.metadata.specs.Fat.{fat_entry}
use Rattle.metadata.specs.Marks.{marked}
use Rattle.metadata.specs.Usable.{is_free, is_usable}
use Rattle.metadata.proofs.Frame.{Fits}
use Rattle.metadata.proofs.View.{plain, plain_heap}
use Rattle.metadata.proofs.Counting.{usable_facts}
use Rattle.metadata.proofs.Keeps.{Keeps, Went, put_on}
use Rattle.stream.specs.declared.allocation.Allocation.{Allocation}
use Rattle.stream.specs.Chain.{listed}
use Rattle.stream.specs.Stream.{number_of, stream_of, clusters_of, clusters_in}
use Rattle.stream.proofs.StreamLaws.{read_facts}
use Rattle.stream.proofs.Distinct.{read_length}
use Rattle.write_alloc.specs.Outcome.{Outcome}
use Rattle.write_alloc.proofs.Links.{last_append}
use Rattle.write_alloc.proofs.KeepLaws.{Taking}
use Rattle.write_extend.specs.Extend.{extend_in}
use Rattle.write_extend.proofs.EnoughLaws.{extend_done}
use Rattle.write_extend.proofs.KeepLaws.{extend_on}
use Rattle.write_dir.specs.Place.{GrownDirectory, grow_one, grow_by}
use Rattle.write_dir.proofs.AddedLaws.{Zeroed, grow_one_lem}

clusters_read : (y : Layout) (d : List ℕ) (a : Allocation) (ks : List ℕ) → stream_of y d a ≡ listed ks → clusters_in y d a ≡ ks
unfolding clusters_in
clusters_read y d a ks e = ap clusters_of e

usable_same : (y : Layout) (d e m : List ℕ) (k : ℕ) → marked y e k ≡ marked y d k → fat_entry y e k ≡ fat_entry y d k → is_usable y e m k ≡ is_usable y d m k
unfolding is_usable is_free
usable_same y d e m k p q = rw (p, q) refl

-- what is usable in a directory's volume after growth was usable before
zeroed_usable : (y : Layout) (d m : List ℕ) (v : GrownDirectory) (old new : List ℕ) → every (marked y d) old ≡ true → Zeroed y d m v old new → (k : ℕ)
    → in_heap y.count k ≡ true → is_usable y v.volume m k ≡ true → is_usable y d m k ≡ true
zeroed_usable y d m v old new marks z k h e =
    let f : marked y v.volume k ≡ false = (usable_facts y v.volume m k e).0 in
    let off-new : Mem k new → ⊥ = λ i. false≢true (sym f ∙ z.marks_new k i) in
    let mark : marked y v.volume k ≡ marked y d k = z.marks_kept k h off-new in
    let off-old : Mem k old → ⊥ = λ i. false≢true (sym f ∙ mark ∙ every_mem (marked y d) old marks k i) in
    let entry : fat_entry y v.volume k ≡ fat_entry y d k = z.fat_kept k h off-old off-new in
    sym (usable_same y d v.volume m k mark entry) ∙ e

-- the cluster that is added was usable
added_usable : (y : Layout) (m : List ℕ) (v : GrownDirectory) → Fits y v.volume → (ks : List ℕ) → stream_of y v.volume v.directory ≡ listed ks
    → in_heap y.count v.hint ≡ true → 1 ≤ count (is_usable y v.volume m) 2 y.count
    → is_usable y v.volume m (extend_in y v.volume m v.directory 1 v.hint).answer.allocation.last ≡ true
added_usable y m v w ks e h some =
    let t = extend_done y v.volume m w v.directory ks e 1 v.hint h some in
    by t.new t.many t.grows.reads t.grows.fresh.usable
  where
    o : Outcome
    o = extend_in y v.volume m v.directory 1 v.hint

    by : (l : List ℕ) → length l ≡ 1 → stream_of y o.volume o.answer.allocation ≡ listed (ks ++ l) → every (is_usable y v.volume m) l ≡ true
        → is_usable y v.volume m o.answer.allocation.last ≡ true
    by [] n r u = absurd (omega arith)
    by (x ∷ []) n r u =
        let f = read_facts y.count (fat_entry y o.volume) (marked y o.volume) o.answer.allocation (ks ++ x ∷ []) (unfold stream_of in r) in
        let c = read_length y.count (fat_entry y o.volume) (marked y o.volume) o.answer.allocation (ks ++ x ∷ []) f in
        let l : last_or 0 (ks ++ x ∷ []) ≡ x = last_append 0 ks (x ∷ []) ∙ (unfold last_or in refl) in
        subst (λ (k : ℕ). is_usable y v.volume m k ≡ true) (sym l ∙ f.last (λ z. omega (arith, length-append ks (x ∷ []))) 0)
        (every_head (is_usable y v.volume m) x [] u)
    by (x ∷ z ∷ l) n r u = absurd (omega arith)

module _ (y : Layout) (P : ℕ → Type 0) (K : List ℕ → List ℕ → Type 0) (s : Keeps y P K) (d m : List ℕ)
    (mapped : (k : ℕ) → is_bitmap_cluster y k ≡ true → in_map m k ≡ true) where
  -- the clusters that the directory has then may be stored to, too
  pub grow_on : (n : ℕ) (v : GrownDirectory) → Went y K d v.volume → Taking y P m v.volume → (ks : List ℕ)
      → stream_of y v.volume v.directory ≡ listed ks → ((k : ℕ) → Mem k ks → P k) → in_heap y.count v.hint ≡ true
      → n ≤ count (is_usable y v.volume m) 2 y.count
      → Went y K d (grow_by y m n v).volume × ((k : ℕ) → Mem k (clusters_in y (grow_by y m n v).volume (grow_by y m n v).directory) → P k)
  unfolding grow_by grow_one
  grow_on zero v w u ks r o i h = (w, λ k q. o k (subst (Mem k) (clusters_read y v.volume v.directory ks r) q))
  grow_on (suc n) v w u ks r o i h =
      let k = (extend_in y v.volume m v.directory 1 v.hint).answer.allocation.last in
      let a = grow_one_lem y m v w.fits mapped ks r i (omega arith) in
      let plain-k = every_head (plain y) k [] a.plains in
      let own-k = u k (plain_heap y k plain-k) (added_usable y m v w.fits ks r i (omega arith)) in
      let x = extend_on y P K s d m v.volume w u v.directory (ap number_of r ∙ (unfold number_of in refl))
      (λ j q. o j (subst (Mem j) (ap clusters_of r) q)) 1 v.hint i (omega arith) in
      let p = put_on y P K s d (extend_in y v.volume m v.directory 1 v.hint).volume x k 0 (replicate y.size 0)
      plain-k own-k (omega (arith, length-replicate {A = ℕ} y.size 0)) in
      let marks = (read_facts y.count (fat_entry y v.volume) (marked y v.volume) v.directory ks (unfold stream_of in r)).marks in
      grow_on n (grow_one y m v) p (λ j g e. u j g (zeroed_usable y v.volume m (grow_one y m v) ks (k ∷ []) marks a j g e)) (ks ++ k ∷ [])
      a.reads (λ j q. ⊎_elim (o j) (only j own-k) (mem_append ks q)) a.hint_in (omega (arith, a.usable))
    where
      only : {k : ℕ} (j : ℕ) → P k → Mem j (k ∷ []) → P j
      only j p (here q) = subst P (sym q) p
      only {k = k} j p (Rattle.tables.specs.Lists.there x10) = elim x10 [ ]
