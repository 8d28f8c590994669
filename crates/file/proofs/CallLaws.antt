-- What the file calls begin with: the root, and a refusal. Assumes nothing.
use Rattle.std.proofs.Common.{◌≡◌, ℕ, Bool, true, false, cond, not, List, [], ◌∷◌, sym, refl, ◌∙◌, arith}
use Rattle.tables.specs.Lists.{every}
use Rattle.tables.proofs.ListLaws.{every_mem, mem_every}
use Rattle.boot.specs.declared.layout.Layout.{Layout}
use Rattle.boot.specs.Layout.{in_heap, is_bitmap_cluster}
use Rattle.tables.proofs.Cases.{and_both}
use Rattle.boot.proofs.CauseLaws.{cause_last, cause_none}
use Rattle.metadata.proofs.View.{plain}
use Rattle.stream.specs.declared.allocation.Allocation.{Allocation}
use Rattle.stream.specs.Stream.{number_of, stream_of, clusters_of, clusters_in}
use Rattle.stream.proofs.ListingLaws.{stream_read}
use Rattle.directory.specs.Directory.{bitmap_cause, directory_cause}
use Rattle.file.specs.Outcome.{FileAnswer, refuse}

-- ---- a directory that opens

module _ (y : Layout) (d : List ℕ) (a : Allocation) (e : directory_cause y d a ≡ 0) where
  pub directory_reads : number_of (stream_of y d a) ≡ 0
  directory_reads = (cause_none (number_of (stream_of y d a)) (bitmap_cause y (clusters_of (stream_of y d a)) ∷ []) (unfold directory_cause in e)).0

  no_bitmap : bitmap_cause y (clusters_in y d a) ≡ 0
  unfolding clusters_in
  no_bitmap =
      let b = bitmap_cause y (clusters_of (stream_of y d a)) in
      sym (cause_last b) ∙ (cause_none (number_of (stream_of y d a)) (b ∷ []) (unfold directory_cause in e)).1

  if_clear : (b : Bool) → ◌≡◌ {A = ℕ} (cond b 0 9) 0 → b ≡ true
  if_clear true q = refl
  if_clear false q = absurd (omega arith)

  -- its clusters are no bitmap's
  pub directory_plain : every (plain y) (clusters_in y d a) ≡ true
  unfolding plain bitmap_cause
  directory_plain =
      let off = if_clear (every (λ k. not (is_bitmap_cluster y k)) (clusters_in y d a)) (unfold bitmap_cause in no_bitmap) in
      let heap : every (in_heap y.count) (clusters_in y d a) ≡ true = unfold clusters_in in (stream_read y d a directory_reads).heap in
      mem_every _ (clusters_in y d a)
      (λ k i. and_both (in_heap y.count k) (not (is_bitmap_cluster y k)) (every_mem (in_heap y.count) (clusters_in y d a) heap k i)
      (every_mem (λ k. not (is_bitmap_cluster y k)) (clusters_in y d a) off k i))

-- ---- a refusal

pub refused_shown : (n hint : ℕ) (d d' : List ℕ) (r : FileAnswer) → r ≡ record { number = n; slot = 0; hint = hint } → d' ≡ d
    → (r ≡ (refuse n hint d).answer) × (d' ≡ (refuse n hint d).volume)
unfolding refuse
refused_shown n hint d d' r e q = (e, q)
