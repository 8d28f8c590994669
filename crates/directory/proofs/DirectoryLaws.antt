-- What opens a directory: its clusters, and the root by the walk of its chain. Assumes nothing.
use mathlib.Core.Path.{◌≡◌, refl, sym, ◌∙◌, ap}
use mathlib.Core.Logic.{◌≢◌}
use mathlib.Core.Bool.{Bool, true, false, not, cond}
use mathlib.Core.List.{List, [], ◌∷◌}
use Prim.Native.Nat.{ℕ}
use native.Mathlib.Omega.{arith}
use lib.Dec.{eqb}
use lib.ListN.{length}
use borrow.Author.Tests.{ne_eqb, eqb-true}
use Rattle.tables.specs.Lists.{every, last_or}
use Rattle.boot.specs.declared.layout.Layout.{Layout}
use Rattle.boot.specs.Layout.{in_heap}
use Rattle.boot.proofs.CauseLaws.{cause_skip, cause_met, cause_last, cause_none}
use Rattle.metadata.specs.Fat.{fat_entry}
use Rattle.metadata.specs.Marks.{marked}
use Rattle.stream.specs.declared.allocation.Allocation.{Allocation}
use Rattle.stream.specs.Internal.{Walked, along, barred, walked, walk_cause}
use Rattle.stream.specs.Chain.{Clusters, listed, refused, read_chain}
use Rattle.stream.specs.Stream.{number_of, stream_of, check_chain, clusters_of, empty, clusters_in}
use Rattle.stream.proofs.ChainLaws.{chain_out, chain_number, chain_clear_lem, stream_chain, stream_not-zero}
use Rattle.stream.proofs.StreamLaws.{read-chain_facts}
use Rattle.stream.proofs.ListingLaws.{stream_read}
use Rattle.stream.proofs.Distinct.{read_length}
use Rattle.directory.specs.Directory.{chain_record, root_record, bitmap_cause, directory_cause}
use Rattle.directory.specs.Internal.{Directory, open_root}

-- ---- the clusters of a directory

module _ (y : Layout) (d : List ℕ) (a : Allocation) (e : number_of (stream_of y d a) ≡ 0) where
  pub clusters_along : clusters_in y d a ≡ along (fat_entry y d) a.no_fat_chain a.first a.count
  unfolding clusters_in
  clusters_along = (stream_read y d a e).goes

  pub clusters_heap : every (in_heap y.count) (clusters_in y d a) ≡ true
  unfolding clusters_in
  clusters_heap = (stream_read y d a e).heap

  pub clusters_length : length (clusters_in y d a) ≡ a.count
  unfolding clusters_in
  clusters_length = read_length y.count (fat_entry y d) (marked y d) a (clusters_of (stream_of y d a)) (stream_read y d a e)

-- ---- the root

module _ (y : Layout) (d : List ℕ) (root : ℕ) where
  abbrev chain : Clusters
  chain = read_chain y.count (fat_entry y d) root

  abbrev rec : ℕ → ℕ → Allocation
  rec last count = record { first = root; last = last; count = count; no_fat_chain = false }

  rec_stream : (last count : ℕ) → count ≢ 0 → stream_of y d (rec last count) ≡ check_chain (marked y d) last count chain
  unfolding stream_of
  rec_stream last count n = stream_chain y.count (fat_entry y d) (marked y d) (rec last count) n refl

  open_not : (n : ℕ) → directory_cause y d (root_record y d root) ≡ n → n ≢ 0 → open_root y d root ≡ record { number = n; allocation = empty }
  unfolding open_root
  open_not n e z = rw (e, ne_eqb n 0 z) refl

  -- the causes of the root: its stream's, then 9
  abbrev stream : Clusters
  stream = stream_of y d (root_record y d root)

  stream_cause_lem : number_of stream ≢ 0 → directory_cause y d (root_record y d root) ≡ number_of stream
  unfolding directory_cause
  stream_cause_lem z = cause_met (number_of stream) (bitmap_cause y (clusters_of stream) ∷ []) z

  clusters_cause : number_of stream ≡ 0 → directory_cause y d (root_record y d root) ≡ bitmap_cause y (clusters_of stream)
  unfolding directory_cause
  clusters_cause z = cause_skip (number_of stream) (bitmap_cause y (clusters_of stream) ∷ []) z ∙ cause_last (bitmap_cause y (clusters_of stream))

  -- the root's stream is its chain, tested as the record says
  root_refused : (n : ℕ) → chain ≡ refused n → stream ≡ refused n
  root_refused n e =
      let r : root_record y d root ≡ rec 0 1 = unfold root_record in (unfold chain_record in (rw e refl)) in
      ap (stream_of y d) r ∙ rec_stream 0 1 (λ q. omega arith) ∙ ap (check_chain (marked y d) 0 1) e ∙ (unfold check_chain in refl)

  pub root_out : in_heap y.count root ≡ false → record { number = 2; allocation = empty } ≡ open_root y d root
  root_out h =
      let n : number_of stream ≡ 2 = ap number_of (root_refused 2 (chain_out y.count (fat_entry y d) root h)) ∙ (unfold number_of in refl) in
      sym (open_not 2 (stream_cause_lem (λ t. omega arith) ∙ n) (λ t. omega arith))

  -- ---- by what the walk answers

  module _ (m : List ℕ) (w : Walked) (e : w ≡ walked (marked y d) (λ k. not (barred y m true k)) 0 chain) (h : in_heap y.count root ≡ true)
      (c : ℕ) (q : c ≡ walk_cause w w.last w.count) where
    abbrev tested : Clusters
    tested = check_chain (marked y d) w.last w.count chain

    walk_number : c ≡ number_of tested
    walk_number = q ∙ chain_number y.count (fat_entry y d) (marked y d) (λ k. not (barred y m true k)) 0 root w.last w.count w h e

    -- a chain that is listed has the record that the walk gives
    root_is : (ks : List ℕ) → chain ≡ listed ks → (root_record y d root ≡ rec w.last w.count) × (stream ≡ tested)
    root_is ks r = (same, ap (stream_of y d) same ∙ rec_stream w.last w.count (λ z. omega (arith, long, (read-chain_facts y.count (fat_entry y d) root ks r).1.some)))
      where
        v : w ≡ walked (marked y d) (λ k. not (barred y m true k)) 0 (listed ks)
        v = e ∙ ap (walked (marked y d) (λ k. not (barred y m true k)) 0) r

        last : w.last ≡ last_or 0 ks
        last = unfold walked in (ap (λ (x : Walked). x.last) v)

        long : w.count ≡ length ks
        long = unfold walked in (ap (λ (x : Walked). x.count) v)

        same : root_record y d root ≡ rec w.last w.count
        same = unfold root_record in (unfold chain_record in (rw (r, last, long) refl))

    number_is : c ≡ number_of stream
    number_is = by chain refl
      where
        by : (x : Clusters) → chain ≡ x → c ≡ number_of stream
        by (listed ks) r = walk_number ∙ ap number_of (sym (root_is ks r).1)
        by (refused n) r =
            let t : tested ≡ refused n = ap (check_chain (marked y d) w.last w.count) r ∙ (unfold check_chain in refl) in
            walk_number ∙ ap number_of (t ∙ sym (root_refused n r))

    pub root-not : c ≢ 0 → record { number = c; allocation = empty } ≡ open_root y d root
    root-not z = sym (open_not c (stream_cause_lem (λ t. z (number_is ∙ t)) ∙ sym number_is) z)

    module _ (z : c ≡ 0) where
      read : (root_record y d root ≡ rec w.last w.count) × (stream ≡ tested)
      read = by chain refl
        where
          by : (x : Clusters) → chain ≡ x → (root_record y d root ≡ rec w.last w.count) × (stream ≡ tested)
          by (listed ks) r = root_is ks r
          by (refused n) r =
              absurd (stream_not-zero y.count (fat_entry y d) (marked y d) (root_record y d root) n (unfold stream_of in (root_refused n r))
              (unfold number_of in (ap number_of (sym (root_refused n r)) ∙ sym number_is ∙ z)))

      cause_is : (b : Bool) → w.clear ≡ b → directory_cause y d (root_record y d root) ≡ cond b 0 9
      unfolding bitmap_cause barred
      cause_is b f =
          clusters_cause (sym number_is ∙ z) ∙ ap (λ (x : Clusters). bitmap_cause y (clusters_of x)) read.1
          ∙ ap (λ (x : Bool). cond x 0 9)
          (sym (chain_clear_lem y.count (fat_entry y d) (marked y d) (λ k. not (barred y m true k)) 0 root w.last w.count w h e (sym walk_number ∙ z)) ∙ f)

      pub root_nine : w.clear ≡ false → record { number = 9; allocation = empty } ≡ open_root y d root
      root_nine f = sym (open_not 9 (cause_is false f) (λ t. omega arith))

      pub root-done : w.clear ≡ true → record { number = 0; allocation = record { first = root; last = w.last; count = w.count; no_fat_chain = false } } ≡ open_root y d root
      unfolding open_root
      root-done f = sym (rw (cause_is true f, read.0) refl)

-- ---- the root as code opens it

module _ (y : Layout) (d : List ℕ) (root : ℕ) (r : Directory) (e : r ≡ open_root y d root) where
  abbrev cause : ℕ
  cause = directory_cause y d (root_record y d root)

  pub root_number : r.number ≡ cause
  root_number = ap (λ (x : Directory). x.number) e ∙ by (eqb cause 0) refl
    where
      by : (t : Bool) → eqb cause 0 ≡ t → (open_root y d root).number ≡ cause
      by true q = unfold open_root in (rw q (sym (eqb-true cause 0 q)))
      by false q = unfold open_root in (rw q refl)

  allocation_is : cause ≡ 0 → (open_root y d root).allocation ≡ root_record y d root
  unfolding open_root
  allocation_is q = rw q refl

  pub root_record_lem : r.number ≡ 0 → r.allocation ≡ root_record y d root
  root_record_lem z =
      let q : cause ≡ 0 = sym root_number ∙ z in
      ap (λ (x : Directory). x.allocation) e ∙ allocation_is q

  pub root_reads : r.number ≡ 0 → number_of (stream_of y d r.allocation) ≡ 0
  root_reads z =
      let x = root_record y d root in
      ap (λ (u : Allocation). number_of (stream_of y d u)) (root_record_lem z)
      ∙ (cause_none (number_of (stream_of y d x)) (bitmap_cause y (clusters_of (stream_of y d x)) ∷ []) (unfold directory_cause in (sym root_number ∙ z))).0
