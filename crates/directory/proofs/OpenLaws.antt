-- A file opened by its slot, as the code meets its causes. Assumes nothing.
use mathlib.Core.Path.{◌≡◌, refl, sym, ◌∙◌, ap, ap₂}
use mathlib.Core.Logic.{◌≢◌}
use mathlib.Core.Bool.{Bool, true, false, ◌&&◌, not, cond, false≢true}
use mathlib.Core.List.{List, [], ◌∷◌}
use Prim.Native.Nat.{ℕ, zero, suc, ◌+◌, ◌-◌, ◌*◌, ◌/◌, ◌%◌, ◌≤◌, ◌<◌}
use native.Mathlib.Nat.{mul_left_comm, div-add-mod', mod-lt, div-eq_of_lt}
use native.Mathlib.Decide.{dec_le}
use native.Mathlib.Omega.{arith}
use lib.Dec.{leb}
use lib.ListN.{get_or, take, drop, replicate}
use borrow.Author.Tests.{eq-eqb, ne_eqb, leb-true, le-leb}
use Rattle.std.specs.Prelude.{Some, None}
use Rattle.primitives.specs.Splice.{splice}
use Rattle.tables.specs.Lists.{every, last_or}
use Rattle.tables.proofs.Cases.{not_so, and_left, and_right, and_both}
use Rattle.boot.specs.declared.layout.Layout.{Layout}
use Rattle.boot.specs.Limits.{in_map}
use Rattle.boot.specs.Layout.{in_heap}
use Rattle.boot.specs.Causes.{first_cause}
use Rattle.boot.proofs.Apart.{in_heap_lem}
use Rattle.boot.proofs.CauseLaws.{cause_skip, cause_met, cause_last}
use Rattle.metadata.specs.Fat.{fat_entry}
use Rattle.metadata.specs.Marks.{marked}
use Rattle.metadata.specs.Cluster.{cluster_byte}
use Rattle.metadata.proofs.Frame.{Fits}
use Rattle.stream.specs.declared.allocation.Allocation.{Allocation}
use Rattle.stream.specs.declared.bytes.Place.{Place}
use Rattle.stream.specs.Internal.{Walked, along, reached, place_at, barred, walked, walk_cause, Known}
use Rattle.stream.specs.Bytes.{bytes_of, bytes_in}
use Rattle.stream.specs.Chain.{Clusters, listed, read_chain}
use Rattle.stream.specs.Stream.{number_of, stream_of, check_chain, clusters_of, empty, system_cause, clusters_in}
use Rattle.stream.proofs.StreamLaws.{length-along, along_head}
use Rattle.stream.proofs.ChainLaws.{chain_number, chain_last, chain_clear_lem, chain_seen, stream_empty, stream_chain}
use Rattle.stream.proofs.ListingLaws.{stream_read}
use Rattle.stream.proofs.BytesSteps.{some_left, Sought, sought}
use Rattle.stream.proofs.BytesLaws.{byte_of}
use Rattle.entry_set.specs.Fields.{no_fat_chain, first_cluster, valid_length, data_length, clusters_for, is_directory}
use Rattle.entry_set.specs.Sound.{well_formed}
use Rattle.directory.specs.Entries.{entry_count, type_at, is_file, entries_at, set_at, is_sound}
use Rattle.directory.specs.Internal.{OpenedStream, entry_place, set_fits, whole_set, set_read, spot_of, no_place, opened, opened_stream, start_steps, no_file, found_file, open_file}
use Rattle.directory.proofs.EntryLaws.{sound_file, sound_few, sound_room, sound_formed, sound_of}
use Rattle.directory.proofs.CursorLaws.{bytes_along, dir_heap, slot_bytes, along_at}
use Rattle.directory.specs.declared.entries.Cursor.{Cursor}
use Rattle.directory.specs.declared.spot.Spot.{Spot}
use Rattle.directory.specs.Open.{file_record, entry_cause, directory_attribute_cause, stream_cause, set_in, file_cause}

-- ---- choices

cond_yes : (b : Bool) (x z : ℕ) → b ≡ true → cond b x z ≡ x
cond_yes b x z e = rw e refl

cond_no : (b : Bool) (x z : ℕ) → b ≡ false → cond b x z ≡ z
cond_no b x z e = rw e refl

-- ---- a set that fits

module _ (bs : List ℕ) (i : ℕ) where
  abbrev few : Bool
  few = leb (entries_at bs i) 19

  abbrev room : Bool
  room = leb (i + entries_at bs i) (entry_count bs)

  pub set_fits_lem : set_fits bs i ≡ true → (is_file bs i ≡ true) × ((entries_at bs i ≤ 19) × (i + entries_at bs i ≤ entry_count bs))
  unfolding set_fits
  set_fits_lem e =
      let r = and_right (is_file bs i) (few && room) e in
      (and_left (is_file bs i) (few && room) e, (leb-true (entries_at bs i) 19 (and_left few room r), leb-true (i + entries_at bs i) (entry_count bs) (and_right few room r)))

  pub fits_yes : is_file bs i ≡ true → entries_at bs i ≤ 19 → i + entries_at bs i ≤ entry_count bs → set_fits bs i ≡ true
  unfolding set_fits
  fits_yes f a b = and_both (is_file bs i) (few && room) f (and_both few room (le-leb (entries_at bs i) 19 a) (le-leb (i + entries_at bs i) (entry_count bs) b))

  pub fits_no : (is_file bs i ≡ true → entries_at bs i ≤ 19 → i + entries_at bs i ≤ entry_count bs → ⊥) → set_fits bs i ≡ false
  fits_no h = not_so (set_fits bs i) (λ e. let t = set_fits_lem e in h t.0 t.1.0 t.1.1)

  -- the number of its entries
  pub whole_no : set_fits bs i ≡ false → None ≡ whole_set bs i
  unfolding whole_set
  whole_no e = rw e refl

  pub whole_yes : set_fits bs i ≡ true → Some (entries_at bs i) ≡ whole_set bs i
  unfolding whole_set
  whole_yes e = rw e refl

  -- and what it says
  pub whole_none : whole_set bs i ≡ None → set_fits bs i ≡ false
  whole_none z = not_so (set_fits bs i) (λ e. let t = whole_yes e in cc)

  pub whole_some : (n : ℕ) → whole_set bs i ≡ Some n → (set_fits bs i ≡ true) × (n ≡ entries_at bs i)
  whole_some n z = by (set_fits bs i) refl
    where
      by : (b : Bool) → set_fits bs i ≡ b → (set_fits bs i ≡ true) × (n ≡ entries_at bs i)
      by true e = (e, let t = whole_yes e in cc)
      by false e = (let t = whole_no e in cc, let t = whole_no e in cc)

  pub entries_low : 1 ≤ entries_at bs i
  unfolding entries_at
  entries_low = omega arith

  module _ (C size : ℕ) where
    pub sound_none : set_fits bs i ≡ false → is_sound C size bs i ≡ false
    sound_none e =
        not_so (is_sound C size bs i)
        (λ s. false≢true (sym e ∙ fits_yes (sound_file C size bs i s) (sound_few C size bs i s) (sound_room C size bs i s)))

    sound_whole : set_fits bs i ≡ true → is_sound C size bs i ≡ well_formed C size (set_at bs i)
    sound_whole h = by (well_formed C size (set_at bs i)) refl
      where
        by : (b : Bool) → well_formed C size (set_at bs i) ≡ b → is_sound C size bs i ≡ b
        by true e = let w = set_fits_lem h in sound_of C size bs i w.0 w.1.0 w.1.1 e
        by false e = not_so (is_sound C size bs i) (λ s. false≢true (sym e ∙ sound_formed C size bs i s))

-- the same of a directory's set
pub sound_set : (y : Layout) (d : List ℕ) (dir : Allocation) (i : ℕ) → set_fits (bytes_in y d dir) i ≡ true
    → well_formed y.count y.size (set_in y d dir i) ≡ is_sound y.count y.size (bytes_in y d dir) i
unfolding set_in
sound_set y d dir i h = sym (sound_whole (bytes_in y d dir) i y.count y.size h)

-- ---- the bytes of a slot's entry

module _ (y : Layout) (d : List ℕ) (w : Fits y d) (dir : Allocation) (reads : number_of (stream_of y d dir) ≡ 0) (i : ℕ)
    (h : i < entry_count (bytes_in y d dir)) where
  abbrev fat : ℕ → ℕ
  fat = fat_entry y d

  abbrev run : Bool
  run = dir.no_fat_chain

  abbrev m : ℕ
  m = 32 * i / y.size

  abbrev r : ℕ
  r = 32 * i % y.size

  abbrev ks : List ℕ
  ks = along fat run dir.first dir.count

  there : Sought y d run dir.first dir.count (32 * i) 32
  there =
      sought y d run dir.first dir.count (32 * i) 32 w.laid w.long (dir_heap y d w dir reads)
      (omega (arith, slot_bytes y d w dir reads i 1 (omega arith)))

  split : m * y.size + r ≡ 32 * i
  split = div-add-mod' (32 * i) y.size

  per_is : m * y.size ≡ 32 * (m * (y.size / 32))
  per_is = ap (λ (x : ℕ). m * x) (sym w.laid.whole) ∙ mul_left_comm m 32 (y.size / 32)

  aligned : r + 32 ≤ y.size
  aligned = omega (arith, split, per_is, there.place, w.laid.whole)

  inside : m < dir.count
  inside = omega (arith, some_left (dir.count - m) y.size r 32 there.room (omega arith))

  module _ (p : Cursor) (e : p ≡ entry_place y d dir i) where
    cluster_is : p.cluster ≡ reached fat run dir.first m
    cluster_is = ap (λ (x : Cursor). x.cluster) e

    at_is : p.at ≡ r
    at_is = ap (λ (x : Cursor). x.at) e

    pub slot_in : (2 ≤ p.cluster) × ((p.cluster < y.count + 2) × (p.at + 32 ≤ y.size))
    slot_in =
        let q = in_heap_lem y.count (reached fat run dir.first m) (along_head (in_heap y.count) fat run (reached fat run dir.first m) (dir.count - m) (omega (arith, inside)) there.heap) in
        (omega (arith, cluster_is, q.0), (omega (arith, cluster_is, q.1), omega (arith, at_is, aligned)))

    slot_byte : (j : ℕ) → j < 32 → cluster_byte y d p.cluster (p.at + j) ≡ get_or (bytes_in y d dir) (32 * i + j) 0
    slot_byte j l =
        let z : m * y.size + (r + j) ≡ 32 * i + j = omega (arith, split) in
        ap₂ (λ (k x : ℕ). cluster_byte y d k (x + j)) cluster_is at_is
        ∙ sym
        (ap (λ (l : List ℕ). get_or l (32 * i + j) 0) (bytes_along y d w dir reads) ∙ ap (λ (x : ℕ). get_or (bytes_of y d ks) x 0) (sym z)
        ∙ byte_of y d w ks m (r + j) (dir_heap y d w dir reads) (omega (arith, inside, length-along fat run dir.first dir.count)) (omega (arith, aligned))
        ∙ ap (λ (k : ℕ). cluster_byte y d k (r + j)) (along_at fat run dir.first dir.count m inside))

    pub slot_type : cluster_byte y d p.cluster p.at ≡ type_at (bytes_in y d dir) i
    unfolding type_at
    slot_type =
        let a : p.at ≡ p.at + 0 = omega arith in
        let b : 32 * i + 0 ≡ 32 * i = omega arith in
        ap (cluster_byte y d p.cluster) a ∙ slot_byte 0 (omega arith) ∙ ap (λ (x : ℕ). get_or (bytes_in y d dir) x 0) b

    pub slot_count : (n : ℕ) → n ≡ 1 + cluster_byte y d p.cluster (p.at + 1) → n ≡ entries_at (bytes_in y d dir) i
    unfolding entries_at
    slot_count n q = q ∙ ap (λ (x : ℕ). 1 + x) (slot_byte 1 (omega arith))

    pub slot_known : Known y d dir (record { cluster = p.cluster; steps = 32 * i / y.size }) (32 * i)
    slot_known = record { reaches = sym cluster_is; inside = omega (arith, inside); before = omega (arith, split) }

-- ---- the copy

module _ (y : Layout) (d : List ℕ) (w : Fits y d) (dir : Allocation) (reads : number_of (stream_of y d dir) ≡ 0) (i n : ℕ) where
  pub copy_is : n ≡ entries_at (bytes_in y d dir) i
      → splice (replicate 608 0) 0 (take (32 * n) (drop (32 * i) (bytes_of y d (along (fat_entry y d) dir.no_fat_chain dir.first dir.count)))) ≡ set_in y d dir i
  unfolding set_in set_at
  copy_is e =
      ap₂ (λ (x : ℕ) (l : List ℕ). splice (replicate 608 0) 0 (take (32 * x) (drop (32 * i) l))) e (sym (bytes_along y d w dir reads))

-- ---- what opening makes of 608 zeros

module _ (y : Layout) (d : List ℕ) (dir : Allocation) (i : ℕ) where
  pub read_none : set_fits (bytes_in y d dir) i ≡ false → replicate 608 0 ≡ set_read (bytes_in y d dir) i
  unfolding set_read
  read_none e = rw e refl

  pub read_some : set_fits (bytes_in y d dir) i ≡ true → set_in y d dir i ≡ set_read (bytes_in y d dir) i
  unfolding set_read set_in
  read_some e = rw e refl

-- ---- the record of a stream

-- a length takes clusters
pub takes_none : (size len : ℕ) → 1 ≤ size → len ≡ 0 → clusters_for size len ≡ 0
unfolding clusters_for
takes_none size len l e = div-eq_of_lt {n = len + (size - 1)} {m = size} (omega arith)

pub takes_some : (size len : ℕ) → 1 ≤ size → len ≢ 0 → 1 ≤ clusters_for size len
unfolding clusters_for
takes_some size len l e = low ((len + (size - 1)) / size) (div-add-mod' (len + (size - 1)) size) (mod-lt (len + (size - 1)) {m = size} (omega arith))
  where
    low : (q : ℕ) → q * size + (len + (size - 1)) % size ≡ len + (size - 1) → (len + (size - 1)) % size < size → 1 ≤ q
    low zero p b = absurd (e (omega arith))
    low (suc q) p b = omega arith

module _ (y : Layout) (d s : List ℕ) where
  pub record_none : clusters_for y.size (data_length s) ≡ 0 → empty ≡ file_record y d s
  unfolding file_record
  record_none e = rw (eq-eqb (clusters_for y.size (data_length s)) 0 e) refl

  module _ (first n : ℕ) (f : first ≡ first_cluster s) (e : n ≡ clusters_for y.size (data_length s)) (some : 1 ≤ n) where
    pub record_run : no_fat_chain s ≡ true → record { first = first; last = first + n - 1; count = n; no_fat_chain = true } ≡ file_record y d s
    unfolding file_record
    record_run b = rw (sym e, sym f, ne_eqb n 0 (λ z. omega arith), b) refl

    pub record_chain : no_fat_chain s ≡ false
        → record { first = first; last = last_or 0 (clusters_of (read_chain y.count (fat_entry y d) first)); count = n; no_fat_chain = false } ≡ file_record y d s
    unfolding file_record
    record_chain b = rw (sym e, sym f, ne_eqb n 0 (λ z. omega arith), b) refl

-- ---- what opens

module _ (n : ℕ) (a : Allocation) (p : Place) where
  pub opened-not : n ≢ 0 → record { number = n; allocation = empty; place = no_place } ≡ opened n a p
  unfolding opened
  opened-not z = rw (ne_eqb n 0 z) refl

  pub opened_yes : n ≡ 0 → record { number = 0; allocation = a; place = p } ≡ opened n a p
  unfolding opened
  opened_yes z = rw (eq-eqb n 0 z) refl

  pub opened_number : (opened n a p).number ≡ n
  unfolding opened
  opened_number =
      elim (dec_le 1 n) [
        | yes b ↦ rw (ne_eqb n 0 (λ z. omega arith)) refl
        | no b ↦
            let z : n ≡ 0 = omega arith in
            rw (eq-eqb n 0 z) (sym z)
      ]

no_clusters : (m : List ℕ) (c : Clusters) → c ≡ listed [] → (number_of c ≡ 0) × (system_cause m (clusters_of c) ≡ 0)
unfolding number_of system_cause every
no_clusters m c e = (rw e refl, rw e refl)

module _ (y : Layout) (d m : List ℕ) (a : Allocation) (goal : ℕ) where
  abbrev there_at : Place
  there_at = place_at y d a goal

  stream_cause_is : stream_cause y d m a ≡ first_cause (number_of (stream_of y d a) ∷ system_cause m (clusters_in y d a) ∷ [])
  unfolding stream_cause
  stream_cause_is = refl

  pub stream_not : (n : ℕ) → n ≡ number_of (stream_of y d a) → n ≢ 0 → record { number = n; allocation = empty; place = no_place } ≡ opened_stream y d m a goal
  stream_not n e z =
      let q : n ≡ stream_cause y d m a = e ∙ sym (stream_cause_is ∙ cause_met (number_of (stream_of y d a)) (system_cause m (clusters_in y d a) ∷ []) (λ t. z (e ∙ t))) in
      opened-not n a there_at z ∙ ap (λ (x : ℕ). opened x a there_at) q

  module _ (reads : number_of (stream_of y d a) ≡ 0) (c : ℕ) (e : c ≡ system_cause m (along (fat_entry y d) a.no_fat_chain a.first a.count)) where
    system_is : c ≡ stream_cause y d m a
    unfolding clusters_in
    system_is =
        e ∙ ap (system_cause m) (sym (stream_read y d a reads).goes)
        ∙ sym (stream_cause_is ∙ cause_skip (number_of (stream_of y d a)) (system_cause m (clusters_in y d a) ∷ []) reads ∙ cause_last (system_cause m (clusters_in y d a)))

    pub stream_system : c ≢ 0 → record { number = c; allocation = empty; place = no_place } ≡ opened_stream y d m a goal
    stream_system z = opened-not c a there_at z ∙ ap (λ (x : ℕ). opened x a there_at) system_is

    pub stream_done : c ≡ 0 → (k : ℕ) → k ≡ reached (fat_entry y d) a.no_fat_chain a.first goal
        → record { number = 0; allocation = a; place = record { cluster = k; steps = goal } } ≡ opened_stream y d m a goal
    stream_done z k q =
        ap (λ (x : ℕ). record { number = 0; allocation = a; place = record { cluster = x; steps = goal } }) q
        ∙ opened_yes c a there_at z ∙ ap (λ (x : ℕ). opened x a there_at) system_is

  -- a record with no clusters
  pub stream_none : empty ≡ a → goal ≡ 0 → record { number = 0; allocation = empty; place = no_place } ≡ opened_stream y d m a goal
  stream_none e z =
      let s : stream_of y d a ≡ listed [] = unfold stream_of in (stream_empty y.count (fat_entry y d) (marked y d) a (ap (λ (x : Allocation). x.count) (sym e))) in
      let n = no_clusters m (stream_of y d a) s in
      let c : system_cause m (clusters_in y d a) ≡ 0 = unfold clusters_in in n.1 in
      let p : no_place ≡ there_at = unfold reached in (ap₂ (λ (x : Allocation) (u : ℕ). place_at y d x u) e (sym z)) in
      ap₂ (λ (x : Allocation) (u : Place). record { number = 0; allocation = x; place = u }) e p
      ∙ opened_yes (stream_cause y d m a) a there_at
      (stream_cause_is ∙ cause_skip (number_of (stream_of y d a)) (system_cause m (clusters_in y d a) ∷ []) n.0 ∙ cause_last (system_cause m (clusters_in y d a)) ∙ c)

-- ---- a chain opened by its walk

module _ (y : Layout) (d m : List ℕ) (first n goal : ℕ) (w : Walked)
    (e : w ≡ walked (marked y d) (λ k. not (barred y m false k)) goal (read_chain y.count (fat_entry y d) first)) (h : in_heap y.count first ≡ true) (l : goal < n)
    (c : ℕ) (q : c ≡ walk_cause w w.last n) where
  abbrev rec : ℕ → Allocation
  rec last = record { first = first; last = last; count = n; no_fat_chain = false }

  abbrev end : ℕ
  end = last_or 0 (clusters_of (read_chain y.count (fat_entry y d) first))

  last_is : opened_stream y d m (rec w.last) goal ≡ opened_stream y d m (rec end) goal
  last_is =
      ap (λ (x : ℕ). opened_stream y d m (rec x) goal) (chain_last y.count (fat_entry y d) (marked y d) (λ k. not (barred y m false k)) goal first w e)

  chain_stream : stream_of y d (rec w.last) ≡ check_chain (marked y d) w.last n (read_chain y.count (fat_entry y d) first)
  unfolding stream_of
  chain_stream = stream_chain y.count (fat_entry y d) (marked y d) (rec w.last) (λ z. omega arith) refl

  chain-read : c ≡ number_of (stream_of y d (rec w.last))
  chain-read =
      q ∙ chain_number y.count (fat_entry y d) (marked y d) (λ k. not (barred y m false k)) goal first w.last n w h e ∙ ap number_of (sym chain_stream)

  pub chain-not : c ≢ 0 → record { number = c; allocation = empty; place = no_place } ≡ opened_stream y d m (rec end) goal
  chain-not z = stream_not y d m (rec w.last) goal c chain-read z ∙ last_is

  module _ (z : c ≡ 0) where
    reads : number_of (stream_of y d (rec w.last)) ≡ 0
    reads = sym chain-read ∙ z

    chain_goes : clusters_of (check_chain (marked y d) w.last n (read_chain y.count (fat_entry y d) first)) ≡ along (fat_entry y d) false first n
    chain_goes = ap clusters_of (sym chain_stream) ∙ (stream_read y d (rec w.last) reads).goes

    -- 9 by the flag that the walk gives
    by_flag : (f : Bool) → w.clear ≡ f → cond f 0 9 ≡ system_cause m (along (fat_entry y d) false first n)
    unfolding system_cause barred
    by_flag f b =
        ap (λ (x : Bool). cond x 0 9)
        (sym b
        ∙ chain_clear_lem y.count (fat_entry y d) (marked y d) (λ k. not (barred y m false k)) goal first w.last n w h e (ap number_of (sym chain_stream) ∙ reads)
        ∙ ap (every (λ k. not (in_map m k))) chain_goes)

    -- the cluster that the walk saw is the stream's
    seen_is : w.seen ≡ reached (fat_entry y d) false first goal
    seen_is =
        chain_seen y.count (fat_entry y d) (marked y d) (λ k. not (barred y m false k)) goal first w.last n w h e (ap number_of (sym chain_stream) ∙ reads)
        ∙ ap (λ (ks : List ℕ). get_or ks goal 0) chain_goes ∙ along_at (fat_entry y d) false first n goal l

    pub chain_nine : w.clear ≡ false → record { number = 9; allocation = empty; place = no_place } ≡ opened_stream y d m (rec end) goal
    chain_nine b = stream_system y d m (rec w.last) goal reads 9 (by_flag false b) (λ t. omega arith) ∙ last_is

    pub chain-done : w.clear ≡ true
        → record { number = 0; allocation = rec w.last; place = record { cluster = w.seen; steps = goal } } ≡ opened_stream y d m (rec end) goal
    chain-done b = stream_done y d m (rec w.last) goal reads 0 (by_flag true b) refl w.seen seen_is ∙ last_is

-- ---- the bytes of a set

module _ (C size : ℕ) (s : List ℕ) where
  pub cause_ill : well_formed C size s ≡ false → 10 ≡ cond (well_formed C size s) (directory_attribute_cause s) 10
  cause_ill e = rw e refl

  pub cause_directory : well_formed C size s ≡ true → is_directory s ≡ true → 11 ≡ cond (well_formed C size s) (directory_attribute_cause s) 10
  unfolding directory_attribute_cause
  cause_directory e f = rw (e, f) refl

  pub cause_none : well_formed C size s ≡ true → is_directory s ≡ false → 0 ≡ cond (well_formed C size s) (directory_attribute_cause s) 10
  unfolding directory_attribute_cause
  cause_none e f = rw (e, f) refl

  pub cause_formed : cond (well_formed C size s) (directory_attribute_cause s) 10 ≡ 0 → well_formed C size s ≡ true
  cause_formed e = by (well_formed C size s) refl
    where
      by : (b : Bool) → well_formed C size s ≡ b → well_formed C size s ≡ true
      by true q = q
      by false q = absurd (omega (arith, e, cond_no (well_formed C size s) (directory_attribute_cause s) 10 q))

-- ---- the file at a slot

-- what refuses it, in order
pub cause_is : (y : Layout) (d m : List ℕ) (dir : Allocation) (i : ℕ)
    → file_cause y d m dir i
    ≡ first_cause (entry_cause y (bytes_in y d dir) i ∷ directory_attribute_cause (set_in y d dir i) ∷ stream_cause y d m (file_record y d (set_in y d dir i)) ∷ [])
unfolding file_cause
cause_is y d m dir i = refl

module _ (y : Layout) (d m : List ℕ) (dir : Allocation) (i offset : ℕ) where
  abbrev bs : List ℕ
  bs = bytes_in y d dir

  abbrev s : List ℕ
  s = set_in y d dir i

  abbrev a : Allocation
  a = file_record y d s

  abbrev begin : ℕ
  begin = start_steps y.size (valid_length s) offset a.count

  open_no : (n : ℕ) → file_cause y d m dir i ≡ n → n ≢ 0 → no_file n ≡ open_file y d m dir i offset
  unfolding open_file
  open_no n e z = rw (e, ne_eqb n 0 z) refl

  unsound : is_sound y.count y.size bs i ≡ false → no_file 10 ≡ open_file y d m dir i offset
  unsound e =
      let q : entry_cause y bs i ≡ 10 = unfold entry_cause in (rw e refl) in
      open_no 10 (cause_is y d m dir i ∙ cause_met (entry_cause y bs i) (directory_attribute_cause s ∷ stream_cause y d m a ∷ []) (λ z. omega arith) ∙ q) (λ z. omega arith)

  pub file-none : set_fits (bytes_in y d dir) i ≡ false → no_file 10 ≡ open_file y d m dir i offset
  file-none e = unsound (sound_none bs i y.count y.size e)

  module _ (some : set_fits (bytes_in y d dir) i ≡ true) (c : ℕ) (e : c ≡ cond (well_formed y.count y.size (set_in y d dir i)) (directory_attribute_cause (set_in y d dir i)) 10) where
    sound_is : is_sound y.count y.size bs i ≡ well_formed y.count y.size s
    sound_is = sym (sound_set y d dir i some)

    skip : well_formed y.count y.size s ≡ true → file_cause y d m dir i ≡ first_cause (directory_attribute_cause s ∷ stream_cause y d m a ∷ [])
    skip f =
        cause_is y d m dir i
        ∙ cause_skip (entry_cause y bs i) (directory_attribute_cause s ∷ stream_cause y d m a ∷ []) (unfold entry_cause in (rw (sound_is ∙ f) refl))

    attribute_is : well_formed y.count y.size s ≡ true → c ≡ directory_attribute_cause s
    attribute_is f = e ∙ cond_yes (well_formed y.count y.size s) (directory_attribute_cause s) 10 f

    pub file-not : c ≢ 0 → no_file c ≡ open_file y d m dir i offset
    file-not z = by (well_formed y.count y.size s) refl
      where
        by : (b : Bool) → well_formed y.count y.size s ≡ b → no_file c ≡ open_file y d m dir i offset
        by true f =
            let t = attribute_is f in
            open_no c (skip f ∙ cause_met (directory_attribute_cause s) (stream_cause y d m a ∷ []) (λ q. z (t ∙ q)) ∙ sym t) z
        by false f =
            let t : c ≡ 10 = e ∙ cond_no (well_formed y.count y.size s) (directory_attribute_cause s) 10 f in
            ap no_file t ∙ unsound (sound_is ∙ f)

    pub file_formed : c ≡ 0 → well_formed y.count y.size (set_in y d dir i) ≡ true
    file_formed z = cause_formed y.count y.size s (sym e ∙ z)

    -- the stream's number is the file's
    module _ (z : c ≡ 0) (o : OpenedStream)
        (q : o ≡ opened_stream y d m (file_record y d (set_in y d dir i)) (start_steps y.size (valid_length (set_in y d dir i)) offset (file_record y d (set_in y d dir i)).count)) where
      stream_number : o.number ≡ stream_cause y d m a
      stream_number = ap (λ (x : OpenedStream). x.number) q ∙ opened_number (stream_cause y d m a) a (place_at y d a begin)

      number_is : file_cause y d m dir i ≡ o.number
      number_is =
          let f = file_formed z in
          skip f ∙ cause_skip (directory_attribute_cause s) (stream_cause y d m a ∷ []) (sym (attribute_is f) ∙ z) ∙ cause_last (stream_cause y d m a)
          ∙ sym stream_number

      pub file_refused : o.number ≢ 0 → no_file o.number ≡ open_file y d m dir i offset
      file_refused t = open_no o.number number_is t

      pub file-done : o.number ≡ 0 → (p : Spot) → p ≡ spot_of y d dir i
          → record { number = 0; spot = p; stream = o.allocation; place = o.place } ≡ open_file y d m dir i offset
      unfolding open_file found_file
      file-done t p u =
          let v : o ≡ record { number = 0; allocation = a; place = place_at y d a begin } =
          q ∙ sym (opened_yes (stream_cause y d m a) a (place_at y d a begin) (sym stream_number ∙ t)) in
          ap₂ (λ (x : Spot) (z : OpenedStream). record { number = 0; spot = x; stream = z.allocation; place = z.place }) u v ∙ (rw (number_is ∙ t) refl)
