-- What set length answers and leaves. Assumes nothing.
use mathlib.Core.Path.{◌≡◌, refl, sym, ◌∙◌, ap, ap₂}
use mathlib.Core.Bool.{true}
use mathlib.Core.List.{List, [], ◌∷◌}
use Prim.Native.Nat.{ℕ, ◌+◌, ◌-◌, ◌*◌, ◌/◌, ◌%◌, ◌≤◌, ◌<◌, min}
use native.Mathlib.Nat.{div-add-mod', add-mul, one-mul, mod-lt, mod-le, mod_self, mod-eq_of_lt, sub-zero}
use native.Mathlib.Decide.{ℕ_discrete, dec_lt, dec_le}
use native.Mathlib.Omega.{arith}
use lib.ListN.{take, drop, replicate}
use borrow.Author.Tests.{eq-eqb, ne_eqb, lt-ltb, le-ltb}
use Rattle.std.specs.Int.{next_multiple_of}
use Rattle.tables.specs.Lists.{every}
use Rattle.tables.proofs.ListLaws.{every_mem}
use Rattle.boot.specs.declared.layout.Layout.{Layout}
use Rattle.boot.specs.declared.geometry.Geometry.{Geometry}
use Rattle.boot.specs.Geometry.{root_cluster}
use Rattle.boot.specs.Layout.{in_heap}
use Rattle.boot.specs.Causes.{admit_cause}
use Rattle.boot.proofs.CauseLaws.{cause_skip, cause_met, cause_last}
use Rattle.boot.proofs.Admission.{Admits}
use Rattle.metadata.specs.Fat.{fat_entry}
use Rattle.stream.specs.declared.allocation.Allocation.{Allocation}
use Rattle.stream.specs.Stream.{number_of, stream_of, clusters_in, system_cause}
use Rattle.stream.specs.Internal.{along}
use Rattle.stream.specs.Bytes.{store_at}
use Rattle.stream.proofs.BytesSteps.{take-along, every_take}
use Rattle.stream.proofs.ListingLaws.{along_heap}
use Rattle.entry_set.specs.declared.stamp.Stamp.{Stamp}
use Rattle.entry_set.specs.Fields.{valid_length, data_length, clusters_for}
use Rattle.entry_set.proofs.SoundLaws.{clusters_even, clusters_rest}
use Rattle.write_alloc.specs.Outcome.{Answer}
use Rattle.write_alloc.specs.Outcome as Alloc
use Rattle.write_extend.specs.Extend.{extend_in}
use Rattle.write_shrink.specs.declared.shrink.Kept.{Kept}
use Rattle.write_shrink.specs.Shrink.{kept_record, shrink_in}
use Rattle.write_shrink.specs.Internal.{kept_part, part_record}
use Rattle.write_shrink.proofs.Cutting.{part_record_lem, part_cong, cut_volume, shrink_cut, shrink_idle}
use Rattle.directory.specs.Directory.{root_record}
use Rattle.directory.proofs.DirectoryLaws.{clusters_along}
use Rattle.file.specs.Outcome.{Outcome, carried, refuse}
use Rattle.directory.specs.Open.{file_record, set_in}
use Rattle.file.specs.Refresh.{entries_of, recorded, stored, missing, length_cause, open_cause, refreshed_only}
use Rattle.write_length.specs.SetLength.{zero_end, shorter, longer_file, resized, set_length_cause, set_length_in, set_length}
use Rattle.directory.specs.Internal.{OpenedFile, spot_clusters}
use Rattle.file.specs.Internal.{Opens}
use Rattle.write_length.specs.declared.set_length.Cut.{Cut}
use Rattle.write_length.specs.Internal.{cut_plan, cut_to, lengthened}
use Rattle.file.proofs.OpenLaws.{carried-shown, open_stream, open_stored, same_reads, same_fat, same_system}

module _ (size valid len : ℕ) (h : 1 ≤ size) where
  pub end_whole : valid ≤ len → valid % size ≡ 0 → zero_end size valid len ≡ valid
  unfolding zero_end
  end_whole f e =
      let z : clusters_for size valid * size ≡ valid = ap (λ (k : ℕ). k * size) (clusters_even size valid h e) ∙ (omega (arith, div-add-mod' valid size)) in
      ap (λ (x : ℕ). min x len) z ∙ (omega arith)

  pub end_rest : (valid % size ≡ 0 → ⊥) → zero_end size valid len ≡ min (valid - valid % size + size) len
  unfolding zero_end
  end_rest e =
      let z : clusters_for size valid * size ≡ valid - valid % size + size =
      ap (λ (k : ℕ). k * size) (clusters_rest size valid h e) ∙ (omega (arith, div-add-mod' valid size, add-mul (valid / size) 1 size, one-mul size)) in
      ap (λ (x : ℕ). min x len) z

  pub end_is : valid ≤ len → min (next_multiple_of valid size) len ≡ zero_end size valid len
  end_is f =
      elim (dec_le (valid % size) 0) [
        | yes b ↦ (
            let e : valid % size ≡ 0 = omega arith in
            let z : (size - valid % size) % size ≡ 0 = ap (λ (x : ℕ). (size - x) % size) e ∙ ap (λ (x : ℕ). x % size) (sub-zero size) ∙ mod_self size in
            omega (arith, z, end_whole f e)
            )
        | no b ↦ (
            let z : (size - valid % size) % size ≡ size - valid % size = mod-eq_of_lt (omega arith) in
            omega (arith, z, mod-lt valid {m = size} h, mod-le valid size, end_rest (λ e. omega arith))
            )
      ]

  pub end_le : zero_end size valid len ≤ len
  unfolding zero_end
  end_le = omega arith

-- ---- the kept part of a stream

module _ (y : Layout) (d : List ℕ) (b : Allocation) (keep : ℕ) (reads : number_of (stream_of y d b) ≡ 0) (h : keep ≤ b.count) where
  pub part_is : along (fat_entry y d) b.no_fat_chain b.first keep ≡ take keep (clusters_in y d b)
  part_is =
      sym (take-along (fat_entry y d) b.no_fat_chain keep b.first b.count h) ∙ ap (take keep) (sym (clusters_along y d b reads))

  pub part_heap : every (in_heap y.count) (along (fat_entry y d) b.no_fat_chain b.first keep) ≡ true
  part_heap =
      ap (every (in_heap y.count)) (sym (take-along (fat_entry y d) b.no_fat_chain keep b.first b.count h))
      ∙ every_take (in_heap y.count) keep (along (fat_entry y d) b.no_fat_chain b.first b.count) (along_heap y d b reads)

  pub kept_is : (p : Kept) → p ≡ kept_part (fat_entry y d) b.no_fat_chain b.first keep → part_record b.first keep p ≡ kept_record b (take keep (clusters_in y d b))
  kept_is p e = ap (part_record b.first keep) e ∙ part_record_lem (fat_entry y d) b keep ∙ ap (kept_record b) part_is

-- ---- the outcomes

module _ (y : Layout) (d m : List ℕ) (a : Allocation) (slot : ℕ) (s : List ℕ) (len : ℕ) (t : Stamp) (hint : ℕ) where
  abbrev b : Allocation
  b = file_record y d s

  abbrev n : ℕ
  n = clusters_for y.size len

  -- shorter: the set stored, then the cut
  pub shorter_is : (e e' : List ℕ) → e ≡ stored y d (clusters_in y d a) slot s (kept_record b (take n (clusters_in y d b))) (min (valid_length s) len) len t
      → e' ≡ (shrink_in y e m b n hint).volume
      → (record { number = 0; slot = 0; hint = hint } ≡ (shorter y d m a slot s len t hint).answer) × (e' ≡ (shorter y d m a slot s len t hint).volume)
  unfolding shorter
  shorter_is e e' p q =
      let z = stored y d (clusters_in y d a) slot s (kept_record b (take n (clusters_in y d b))) (min (valid_length s) len) len t in
      carried-shown 0 hint (shrink_in y z m b n hint).volume e' (q ∙ ap (λ (l : List ℕ). (shrink_in y l m b n hint).volume) p)

  abbrev grown : Alloc.Outcome
  grown = lengthened y d m b (data_length s) len (valid_length s) hint

  grown_same : len ≡ data_length s → grown ≡ record { answer = record { number = 0; allocation = b; hint = hint }; volume = d }
  unfolding lengthened
  grown_same h = rw (eq-eqb len (data_length s) h) refl

  grown_longer : (len ≡ data_length s → ⊥) → (o : Alloc.Outcome) → o ≡ extend_in y d m b (missing y b len) hint
      → grown ≡ record {
        answer = o.answer;
        volume = store_at y o.volume (clusters_in y o.volume o.answer.allocation) (valid_length s) (replicate (zero_end y.size (valid_length s) len - valid_length s) 0);
      }
  unfolding lengthened
  grown_longer h o q = rw (ne_eqb len (data_length s) h, q) refl

  pub resized-shorter : len < data_length s → resized y d m a slot s len t hint ≡ shorter y d m a slot s len t hint
  unfolding resized
  resized-shorter h = rw (lt-ltb len (data_length s) h) refl

  pub resized_same : len ≡ data_length s → resized y d m a slot s len t hint ≡ refreshed_only y d a slot s t hint
  unfolding resized
  resized_same h = rw (le-ltb len (data_length s) (omega arith), eq-eqb len (data_length s) h) refl

  pub resized-longer : data_length s < len → resized y d m a slot s len t hint ≡ longer_file y d m a slot s len t hint
  unfolding resized
  resized-longer h = rw (le-ltb len (data_length s) (omega arith), ne_eqb len (data_length s) (λ z. omega arith)) refl

  -- not shorter: the stream made ready, then the set stored
  pub resized_grown : data_length s ≤ len
      → resized y d m a slot s len t hint
      ≡ carried 0 grown.answer.hint (stored y grown.volume (clusters_in y d a) slot s grown.answer.allocation (valid_length s) len t)
  resized_grown h =
      elim (ℕ_discrete len (data_length s)) [
        | yes e ↦
            resized_same e
            ∙ (unfold refreshed_only in
            (rw (grown_same e) (ap (λ (x : ℕ). carried 0 hint (stored y d (clusters_in y d a) slot s b (valid_length s) x t)) (sym e))))
        | no e ↦
            resized-longer (omega arith)
            ∙ (unfold longer_file in (rw (grown_longer e (extend_in y d m b (missing y b len) hint) refl) refl))
      ]

-- ---- the stream as code makes it ready

module _ (y : Layout) (d m : List ℕ) (b : Allocation) (old len valid hint : ℕ) where
  pub lengthen_same : len ≡ old → (record { number = 0; allocation = b; hint = hint } ≡ (lengthened y d m b old len valid hint).answer)
      × (d ≡ (lengthened y d m b old len valid hint).volume)
  unfolding lengthened
  lengthen_same h = rw (eq-eqb len old h) (refl, refl)

  pub lengthen_more : (len ≡ old → ⊥) → (r : Answer) (e : List ℕ) → r ≡ (extend_in y d m b (missing y b len) hint).answer
      → e ≡ store_at y (extend_in y d m b (missing y b len) hint).volume (clusters_in y (extend_in y d m b (missing y b len) hint).volume r.allocation) valid (replicate (zero_end y.size valid len - valid) 0)
      → (r ≡ (lengthened y d m b old len valid hint).answer) × (e ≡ (lengthened y d m b old len valid hint).volume)
  unfolding lengthened
  lengthen_more h r e p q = rw (ne_eqb len old h) (p, rw p at q)

-- ---- the cut

module _ (y : Layout) (d : List ℕ) (b : Allocation) (keep : ℕ) where
  pub cut-some : keep < b.count → cut_volume y d b keep ≡ cut_to y d b keep
  unfolding cut_to
  cut-some h = rw (lt-ltb keep b.count h) refl

  pub cut_idle : b.count ≤ keep → d ≡ cut_to y d b keep
  unfolding cut_to
  cut_idle h = rw (le-ltb keep b.count h) refl

  -- where nothing refuses it, it leaves what shrink leaves
  pub cut_shrunk : (m : List ℕ) (hint : ℕ) → in_heap y.count hint ≡ true → number_of (stream_of y d b) ≡ 0 → system_cause m (drop keep (clusters_in y d b)) ≡ 0
      → cut_to y d b keep ≡ (shrink_in y d m b keep hint).volume
  cut_shrunk m hint h e q =
      elim (dec_lt keep b.count) [
        | yes l ↦ sym (cut-some l) ∙ sym (shrink_cut y d m b keep hint h (λ z. l) e q)
        | no l ↦ sym (cut_idle (omega arith)) ∙ (shrink_idle y d m b keep hint h (omega arith)).1
      ]

pub plan_is : (y : Layout) (d : List ℕ) (b : Allocation) (len keep : ℕ) (part : Kept) (kept : Allocation) → number_of (stream_of y d b) ≡ 0
    → keep ≡ clusters_for y.size len → clusters_for y.size len ≤ b.count → part ≡ kept_part (fat_entry y d) b.no_fat_chain b.first keep
    → kept ≡ part_record b.first keep part → record { keep = keep; part = part; kept = kept } ≡ cut_plan y d b len
unfolding cut_plan
plan_is y d b len keep part kept reads k h p q =
    let z : kept ≡ kept_record b (take keep (clusters_in y d b)) = q ∙ kept_is y d b keep reads (omega arith) part p in
    rw (z, p, k) refl

-- ---- the set of a file that opens stored, then its stream cut

module _ (y : Layout) (d m : List ℕ) (a : Allocation) (slot : ℕ) (s : List ℕ) (f : OpenedFile) (hint : ℕ) (o : Opens y d m a slot s f hint) (len : ℕ) (t : Stamp)
    (valid : ℕ) (c : Cut) (ec : c ≡ cut_plan y d f.stream len) (e : List ℕ)
    (r : e ≡ store_at y d (spot_clusters f.spot) f.spot.at (take (32 * entries_of s) (recorded s c.kept valid len t))) where
  there : e ≡ stored y d (clusters_in y d a) slot s c.kept valid len t
  there = open_stored y d m a slot s f hint o d e c.kept valid len t r

  there_store : e ≡ store_at y d (clusters_in y d a) (32 * slot) (take (32 * entries_of s) (recorded s c.kept valid len t))
  there_store = unfold stored in there

  keep_is : c.keep ≡ clusters_for y.size len
  keep_is = ap (λ (x : Cut). x.keep) ec ∙ (unfold cut_plan in refl)

  part_of : c.part ≡ kept_part (fat_entry y d) f.stream.no_fat_chain f.stream.first (clusters_for y.size len)
  unfolding cut_plan
  part_of = ap (λ (x : Cut). x.part) ec

  pub cut-reads : number_of (stream_of y e f.stream) ≡ 0
  cut-reads = same_reads y d m a slot s f hint o (32 * slot) (take (32 * entries_of s) (recorded s c.kept valid len t)) e there_store

  pub cut_part : clusters_for y.size len ≤ f.stream.count
      → c.part ≡ kept_part (fat_entry y e) f.stream.no_fat_chain f.stream.first c.keep
  cut_part h =
      let b = f.stream in
      let n = clusters_for y.size len in
      part_of
      ∙ sym
      (part_cong (fat_entry y d) (fat_entry y e) b.no_fat_chain b.first n
      (λ j i. same_fat y d m a slot s f hint o (32 * slot) (take (32 * entries_of s) (recorded s c.kept valid len t)) e there_store j
      (every_mem (in_heap y.count) (along (fat_entry y d) b.no_fat_chain b.first n) (part_heap y d b n (open_stream y d m a slot s f hint o) h) j i)))
      ∙ ap (kept_part (fat_entry y e) b.no_fat_chain b.first) (sym keep_is)

  pub cut-shorter : valid ≡ min (valid_length s) len → (e' : List ℕ) → e' ≡ cut_to y e f.stream c.keep
      → (record { number = 0; slot = 0; hint = hint } ≡ (shorter y d m a slot s len t hint).answer) × (e' ≡ (shorter y d m a slot s len t hint).volume)
  cut-shorter ev e' q =
      let b = f.stream in
      let n = clusters_for y.size len in
      let k : c.kept ≡ kept_record b (take n (clusters_in y d b)) = ap (λ (x : Cut). x.kept) ec ∙ (unfold cut_plan in refl) in
      shorter_is y d m a slot s len t hint e e' (rw (k, ev, o.stream) at there)
      (q ∙ cut_shrunk y e b c.keep m hint o.hint_in cut-reads (same_system y d m a slot s f hint o (32 * slot) (take (32 * entries_of s) (recorded s c.kept valid len t)) e there_store c.keep)
      ∙ ap₂ (λ (x : Allocation) (i : ℕ). (shrink_in y e m x i hint).volume) o.stream keep_is)

-- ---- the call

module _ (y : Layout) (d m : List ℕ) (a : Allocation) (slot len : ℕ) (t : Stamp) (hint : ℕ) where
  abbrev call : Outcome
  call = set_length_in y d m a slot len t hint

  abbrev space : ℕ
  space = length_cause y d m (file_record y d (set_in y d a slot)) len

  cause_is : (n : ℕ) → n ≡ open_cause y d m a slot hint → (n ≡ 0 → ⊥) → set_length_cause y d m a slot len hint ≡ n
  unfolding set_length_cause
  cause_is n e z = cause_met (open_cause y d m a slot hint) (space ∷ []) (λ q. z (e ∙ q)) ∙ sym e

  pub set_refused : (n : ℕ) → n ≡ open_cause y d m a slot hint → (n ≡ 0 → ⊥) → call ≡ refuse n hint d
  unfolding set_length_in
  set_refused n e z = rw (cause_is n e z, ne_eqb n 0 z) refl

  module _ (o : open_cause y d m a slot hint ≡ 0) (x : Allocation) (ex : x ≡ file_record y d (set_in y d a slot)) where
    space_is : set_length_cause y d m a slot len hint ≡ length_cause y d m x len
    unfolding set_length_cause
    space_is = cause_skip (open_cause y d m a slot hint) (space ∷ []) o ∙ cause_last space ∙ ap (λ (r : Allocation). length_cause y d m r len) (sym ex)

    pub set-not : (n : ℕ) → n ≡ length_cause y d m x len → (n ≡ 0 → ⊥) → call ≡ refuse n hint d
    unfolding set_length_in
    set-not n e z = rw (space_is ∙ sym e, ne_eqb n 0 z) refl

    pub set-done : length_cause y d m x len ≡ 0 → call ≡ resized y d m a slot (set_in y d a slot) len t hint
    unfolding set_length_in
    set-done e = rw (space_is ∙ e) refl

  -- the call by what code has in hand: the set, its stream's record and its lengths
  module _ (o : open_cause y d m a slot hint ≡ 0) (s : List ℕ) (es : s ≡ set_in y d a slot) (x : Allocation) (ex : x ≡ file_record y d s)
      (none : length_cause y d m x len ≡ 0) (k : ℕ) (ek : k ≡ data_length s) where
    done_is : call ≡ resized y d m a slot (set_in y d a slot) len t hint
    done_is = set-done o x (ex ∙ ap (file_record y d) es) none

    pub set-shorter : len < k → call ≡ shorter y d m a slot s len t hint
    set-shorter h =
        done_is ∙ ap (λ (l : List ℕ). resized y d m a slot l len t hint) (sym es) ∙ resized-shorter y d m a slot s len t hint (omega (arith, h, ek))

    pub set_longer : k ≤ len → (v : ℕ) → v ≡ valid_length s → (r : Answer) (e : List ℕ) → r ≡ (lengthened y d m x k len v hint).answer
        → e ≡ (lengthened y d m x k len v hint).volume
        → call ≡ carried 0 r.hint (stored y e (clusters_in y d a) slot s r.allocation v len t)
    set_longer h v ev r e p q =
        done_is ∙ ap (λ (l : List ℕ). resized y d m a slot l len t hint) (sym es)
        ∙ resized_grown y d m a slot s len t hint (omega (arith, h, ek)) ∙ (rw (p, q, ex, ev, ek) refl)

module _ (g : Geometry) (d m : List ℕ) (slot len : ℕ) (t : Stamp) (hint : ℕ) where
  pub set_is : (y : Layout) → Admits g d m y
      → set_length g d m slot len t hint ≡ set_length_in y d m (root_record y d (root_cluster g)) slot len t hint
  unfolding set_length
  set_is y w = rw (w.cause, w.is) refl

  pub set-not-admitted : (k : ℕ) → k ≡ admit_cause g d m → (k ≡ 0 → ⊥) → set_length g d m slot len t hint ≡ refuse k hint d
  unfolding set_length
  set-not-admitted k e z = rw (← e, ne_eqb k 0 z) refl
