-- The clusters that a length needs, and a stream's clusters as code goes along them. Assumes nothing.
use Rattle.std.proofs.Common.{◌≡◌, ℕ, ◌+◌, ◌-◌, ◌*◌, ◌/◌, ◌<◌, ◌≤◌, min, true, List, ◌++◌, length, get_or, take, replicate, sym, refl, ap, ◌∙◌, ap₂, mul-le-mul_right, div-lt_iff_lt-mul, div-mul-le_self, arith, length-append, take_at, le-ltb, lt-ltb, eq-eqb, ne_eqb}
use native.Mathlib.Decide.{ℕ_discrete, dec_lt}
use Rattle.tables.specs.Lists.{every}
use Rattle.tables.specs.Count.{count}
use Rattle.tables.proofs.CountLaws.{count_le}
use Rattle.boot.specs.declared.layout.Layout.{Layout}
use Rattle.boot.specs.Internal.{Laid}
use Rattle.boot.specs.Layout.{in_heap}
use Rattle.metadata.specs.Fat.{fat_entry}
use Rattle.metadata.specs.Marks.{marked}
use Rattle.metadata.specs.Usable.{is_usable}
use Rattle.metadata.proofs.Frame.{Fits}
use Rattle.stream.specs.declared.allocation.Allocation.{Allocation}
use Rattle.stream.specs.declared.bytes.Place.{Place}
use Rattle.stream.specs.Chain.{listed}
use Rattle.stream.specs.Stream.{clusters_of, number_of, stream_of, clusters_in}
use Rattle.stream.specs.Internal.{along, place_at, Known}
use Rattle.stream.specs.Bytes.{store_at}
use Rattle.stream.proofs.BytesSteps.{store_nothing, take-along, known_at, known_first, known_same, known_later}
use Rattle.stream.proofs.ListingLaws.{stream_read, along_heap}
use Rattle.stream.proofs.ChainLaws.{stream_listed}
use Rattle.stream.proofs.Distinct.{read_length}
use Rattle.stream.proofs.BytesLaws.{along_store}
use Rattle.entry_set.specs.Fields.{clusters_for}
use Rattle.entry_set.proofs.LengthLaws.{clusters_hold}
use Rattle.write_alloc.specs.Outcome.{Answer, Outcome}
use Rattle.write_extend.specs.Extend.{extend_in}
use Rattle.write_extend.proofs.EnoughLaws.{Extended, extend_done}
use Rattle.write_alloc.proofs.AllocateLaws.{space_met, space_kept}
use Rattle.directory.proofs.DirectoryLaws.{clusters_along}
use Rattle.directory.proofs.CursorLaws.{along_at}
use Rattle.file.specs.Refresh.{missing, length_cause}
use Rattle.file.specs.Internal.{grown_place, zeroed_place}

module _ (y : Layout) (b : Allocation) (len : ℕ) where
  pub missing_is : missing y b len ≡ clusters_for y.size len - b.count
  unfolding missing
  missing_is = refl

  module _ (d m : List ℕ) where
    pub length_met : count (is_usable y d m) 2 y.count < clusters_for y.size len - b.count → length_cause y d m b len ≡ 7
    unfolding length_cause missing
    length_met h = space_met (clusters_for y.size len - b.count) (count (is_usable y d m) 2 y.count) h

    pub length_kept : clusters_for y.size len - b.count ≤ count (is_usable y d m) 2 y.count → length_cause y d m b len ≡ 0
    unfolding length_cause missing
    length_kept h = space_kept (clusters_for y.size len - b.count) (count (is_usable y d m) 2 y.count) h

    pub length_enough : length_cause y d m b len ≡ 0 → missing y b len ≤ count (is_usable y d m) 2 y.count
    length_enough e =
        let z = missing_is in
        elim (dec_lt (count (is_usable y d m) 2 y.count) (missing y b len)) [
          | yes h ↦ absurd (let q = length_met (omega arith) in omega arith)
          | no h ↦ omega arith
        ]

-- no zeros stored
pub zeros_none : (y : Layout) (d ks : List ℕ) (at n : ℕ) → n ≤ 0 → store_at y d ks at (replicate n 0) ≡ d
zeros_none y d ks at n h = let z : n ≡ 0 = omega arith in rw z (store_nothing y d ks at)

-- bytes stored in a stream that reads leave its clusters as they were
module _ (y : Layout) (d : List ℕ) (w : Fits y d) (b : Allocation) (e : number_of (stream_of y d b) ≡ 0) (at : ℕ) (bs d' : List ℕ)
    (q : d' ≡ store_at y d (clusters_in y d b) at bs) where
  heap_in : every (in_heap y.count) (clusters_in y d b) ≡ true
  heap_in = ap (every (in_heap y.count)) (clusters_along y d b e) ∙ along_heap y d b e

  pub stored-along : along (fat_entry y d') b.no_fat_chain b.first b.count ≡ clusters_in y d b
  stored-along =
      ap (λ (l : List ℕ). along (fat_entry y l) b.no_fat_chain b.first b.count) q
      ∙ along_store y d w (clusters_in y d b) heap_in at bs b.no_fat_chain b.first b.count (along_heap y d b e)
      ∙ sym (clusters_along y d b e)

  pub stored_heap : every (in_heap y.count) (along (fat_entry y d') b.no_fat_chain b.first b.count) ≡ true
  stored_heap = ap (every (in_heap y.count)) stored-along ∙ heap_in

  pub stored_known : (p : Place) (i : ℕ) → Known y d b p i → Known y d' b p i
  stored_known p i k = known_same y d b p i k d' (sym (clusters_along y d b e) ∙ sym stored-along)

-- ---- the place that zeros reach

module _ (y : Layout) (d : List ℕ) (b : Allocation) (p : Place) (from to : ℕ) where
  pub zeroed_some : from < to → zeroed_place y d b p from to ≡ place_at y d b ((to - 1) / y.size)
  unfolding zeroed_place
  zeroed_some h = rw (lt-ltb from to h) refl

  pub zeroed_none : to ≤ from → zeroed_place y d b p from to ≡ p
  unfolding zeroed_place
  zeroed_none h = rw (le-ltb from to h) refl

  -- what follows the zeros goes on from there
  pub zeroed_known : 1 ≤ y.size → to ≤ b.count * y.size → Known y d b p (min from to) → Known y d b (zeroed_place y d b p from to) to
  zeroed_known l h k =
      elim (dec_lt from to) [
        | yes f ↦
            let i = (div-lt_iff_lt-mul {k = y.size} {x = to - 1} {y = b.count} (omega arith)).1 (omega arith) in
            rw (zeroed_some f) (known_at y d b ((to - 1) / y.size) to (omega arith) (omega (arith, div-mul-le_self (to - 1) y.size)))
        | no f ↦ rw (zeroed_none (omega arith)) (known_later y d b p (min from to) k to (omega arith))
      ]

-- ---- a stream that grew

module _ (b : Allocation) (p : Place) (a : Allocation) where
  pub place_first : b.count ≡ 0 → grown_place b p a ≡ record { cluster = a.first; steps = 0 }
  unfolding grown_place
  place_first e = rw (eq-eqb b.count 0 e) refl

  pub place_same : (b.count ≡ 0 → ⊥) → grown_place b p a ≡ p
  unfolding grown_place
  place_same e = rw (ne_eqb b.count 0 e) refl

pub stream_is : (y : Layout) (d : List ℕ) (b : Allocation) → number_of (stream_of y d b) ≡ 0 → stream_of y d b ≡ listed (clusters_of (stream_of y d b))
unfolding stream_of
stream_is y d b e = let p = stream_listed y.count (fat_entry y d) (marked y d) b e in p.1 ∙ ap listed (sym (ap clusters_of p.1))

module _ (y : Layout) (d m : List ℕ) (w : Fits y d) (b : Allocation) (n hint : ℕ) (reads : number_of (stream_of y d b) ≡ 0)
    (hint_in : in_heap y.count hint ≡ true) (enough : n ≤ count (is_usable y d m) 2 y.count) where
  abbrev out : Outcome
  out = extend_in y d m b n hint

  took : Extended y d m out (clusters_of (stream_of y d b)) n
  took = extend_done y d m w b (clusters_of (stream_of y d b)) (stream_is y d b reads) n hint hint_in enough

  pub grown_reads : number_of (stream_of y out.volume out.answer.allocation) ≡ 0
  grown_reads = ap number_of took.grows.reads ∙ (unfold number_of in refl)

  grown_clusters : clusters_of (stream_of y out.volume out.answer.allocation) ≡ clusters_of (stream_of y d b) ++ took.new
  grown_clusters = ap clusters_of took.grows.reads

  old-length : length (clusters_of (stream_of y d b)) ≡ b.count
  old-length = read_length y.count (fat_entry y d) (marked y d) b (clusters_of (stream_of y d b)) (stream_read y d b reads)

  pub grown_count : out.answer.allocation.count ≡ b.count + n
  grown_count =
      let e = out.volume in
      let c = out.answer.allocation in
      omega (
        arith,
        read_length y.count (fat_entry y e) (marked y e) c (clusters_of (stream_of y e c)) (stream_read y e c grown_reads),
        old-length,
        ap length grown_clusters,
        length-append (clusters_of (stream_of y d b)) took.new,
        took.many,
      )

  abbrev grown : Allocation
  grown = out.answer.allocation

  -- its first clusters are those that it had
  grown_front : along (fat_entry y out.volume) grown.no_fat_chain grown.first b.count ≡ clusters_of (stream_of y d b)
  grown_front =
      sym (take-along (fat_entry y out.volume) grown.no_fat_chain b.count grown.first grown.count (omega (arith, grown_count)))
      ∙ ap (take b.count) (sym (stream_read y out.volume grown grown_reads).goes ∙ grown_clusters)
      ∙ take_at (clusters_of (stream_of y d b)) took.new b.count old-length

  -- so a place that was known is known
  pub grown_known : (p : Place) (i : ℕ) → Known y d b p i → Known y out.volume grown (grown_place b p grown) i
  grown_known p i k =
      elim (ℕ_discrete b.count 0) [
        | yes z ↦ rw (place_first b p grown z) (known_first y out.volume grown i)
        | no z ↦
            let h : p.steps < b.count = omega (arith, k.inside) in
            rw (place_same b p grown z)
            (record {
              reaches = sym (along_at (fat_entry y out.volume) grown.no_fat_chain grown.first b.count p.steps h)
                  ∙ ap (λ (l : List ℕ). get_or l p.steps 0) (grown_front ∙ (stream_read y d b reads).goes)
                  ∙ along_at (fat_entry y d) b.no_fat_chain b.first b.count p.steps h ∙ k.reaches;
              inside = omega (arith, k.inside, grown_count);
              before = k.before;
            })
      ]

-- what it must add for a length makes it long enough
pub grown_holds : (y : Layout) (b : Allocation) (len k : ℕ) → Laid y → k ≡ b.count + missing y b len → len ≤ k * y.size
grown_holds y b len k l e =
    let z = missing_is y b len in
    let h = clusters_hold y.size (let q = l.size_low in omega arith) len in
    let f : clusters_for y.size len ≤ k = omega arith in
    omega (arith, mul-le-mul_right {m = clusters_for y.size len} {n = k} y.size f)

-- usable clusters are no more than all
pub usable_few : (y : Layout) (d m : List ℕ) → count (is_usable y d m) 2 y.count ≤ y.count
usable_few y d m = count_le (is_usable y d m) 2 y.count

-- what growing to a length answers and leaves
module _ (y : Layout) (d m : List ℕ) (w : Fits y d) (b : Allocation) (len hint : ℕ) (reads : number_of (stream_of y d b) ≡ 0)
    (hint_in : in_heap y.count hint ≡ true) (enough : length_cause y d m b len ≡ 0) where
  abbrev there : Outcome
  there = extend_in y d m b (missing y b len) hint

  pub grow_shown : (n : ℕ) → n ≡ missing y b len → (r : Answer) (e : List ℕ) → (r ≡ (extend_in y d m b n hint).answer) × (e ≡ (extend_in y d m b n hint).volume)
      → (r ≡ there.answer) × ((e ≡ there.volume) × ((number_of (stream_of y e r.allocation) ≡ 0)
      × (len ≤ r.allocation.count * y.size)))
  grow_shown n z r e p =
      let f = length_enough y b len d m enough in
      let q : r ≡ there.answer = p.0 ∙ ap (λ (x : ℕ). (extend_in y d m b x hint).answer) z in
      let v : e ≡ there.volume = p.1 ∙ ap (λ (x : ℕ). (extend_in y d m b x hint).volume) z in
      let c : r.allocation.count ≡ b.count + missing y b len =
      ap (λ (x : Answer). x.allocation.count) q ∙ grown_count y d m w b (missing y b len) hint reads hint_in f in (
        q,
        (
          v,
          (
            ap₂ (λ (u : List ℕ) (x : Answer). number_of (stream_of y u x.allocation)) v q ∙ grown_reads y d m w b (missing y b len) hint reads hint_in f,
            grown_holds y b len r.allocation.count w.laid c,
          ),
        ),
      )

  -- and a place of it that was known
  pub grow_known : (r : Answer) (e : List ℕ) → r ≡ there.answer → e ≡ there.volume → (p : Place) (i : ℕ) → Known y d b p i
      → Known y e r.allocation (grown_place b p r.allocation) i
  grow_known r e q v p i k = rw (v, q) (grown_known y d m w b (missing y b len) hint reads hint_in (length_enough y b len d m enough) p i k)
