-- The stream of a file changed, then its set stored anew: what write and a new length that is not shorter do. Assumes nothing.
use mathlib.Core.Path.{◌≡◌, refl, sym, ◌∙◌, ap, ap₂, subst}
use mathlib.Core.Logic.{◌≢◌, ⊎_elim}
use mathlib.Core.Bool.{Bool, true, false, cond}
use mathlib.Core.List.{List, ◌++◌}
use mathlib.Core.Option.{Option, none, some, some-injective}
use Prim.Native.Nat.{ℕ, suc, ◌+◌, ◌*◌, ◌≤◌}
use native.Mathlib.Omega.{arith}
use lib.ListN.{length, take, length-take}
use Rattle.primitives.specs.Splice.{splice}
use Rattle.tables.specs.Table.{upd}
use Rattle.tables.specs.Lists.{Mem, last_or}
use Rattle.tables.specs.Count.{count}
use Rattle.tables.proofs.TableLaws.{upd_same}
use Rattle.tables.proofs.ListLaws.{mem_append}
use Rattle.boot.specs.declared.geometry.Geometry.{Geometry}
use Rattle.boot.specs.declared.layout.Layout.{Layout}
use Rattle.boot.specs.Limits.{in_map}
use Rattle.boot.specs.Layout.{in_heap}
use Rattle.metadata.specs.Usable.{is_usable}
use Rattle.metadata.proofs.Frame.{Fits, fits_kept}
use Rattle.metadata.proofs.Counting.{marked_count}
use Rattle.stream.specs.declared.allocation.Allocation.{Allocation}
use Rattle.stream.specs.Chain.{listed}
use Rattle.stream.specs.Stream.{number_of, stream_of, empty, clusters_in}
use Rattle.stream.specs.Bytes.{bytes_of, store_at, bytes_in}
use Rattle.entry_set.specs.declared.stamp.Stamp.{Stamp}
use Rattle.entry_set.specs.Fields.{is_directory, valid_length, data_length, clusters_for}
use Rattle.entry_set.proofs.LengthLaws.{clusters_hold, clusters_mono}
use Rattle.write_extend.specs.Extend.{extend_in}
use Rattle.directory.specs.Entries.{is_file, entries_at}
use Rattle.directory.specs.Internal.{sets}
use Rattle.directory.proofs.DirectoryLaws.{clusters_length}
use Rattle.directory.proofs.FitLaws.{Fit}
use Rattle.directory.proofs.OrderedLaws.{file_room}
use Rattle.directory.proofs.StoreLaws.{sets-some, replaced_ordered, replaced_sets}
use Rattle.file.specs.Outcome.{carried}
use Rattle.directory.specs.Open.{file_record, shown}
use Rattle.file.specs.Refresh.{entries_of, recorded, stored, missing}
use Rattle.write.specs.Calls.{Call, step}
use Rattle.write.specs.Consistent.{Consistent, lay, root, root_clusters, root_bytes, set_of, file_clusters}
use Rattle.write.specs.Contents.{contents}
use Rattle.write.specs.Model.{accepted, finds}
use Rattle.write.specs.Demand.{call_slot, set_after, entries_put, root_adds, slot_answered, hint_answered}
use Rattle.write.proofs.Reading.{reads_as, bytes_length, record_count}
use Rattle.write.proofs.Family.{Family, Moved, Stored, same_clusters, kept_member, moved_same, moved_again, store_member}
use Rattle.write.proofs.Resized.{Longer, extend_member}
use Rattle.write.proofs.Scene.{mapped, members, member-root, member-file, fits, root_again, root-length, ordered, slot_off, slot_fit, slot_takes, family}
use Rattle.write.proofs.Change.{takes, contents_of, Change, contents_is}
use Rattle.write.proofs.Moves.{no_zeros, take_whole, moves_none, moves_root, moves_file, change_of}
use Rattle.write.proofs.Steps.{Step, carried_step}
use Rattle.write.proofs.Hints.{file_last}
use Rattle.write.proofs.Recorded.{recorded-entries, recorded_fit, recorded_directory, recorded_valid, recorded_data, recorded_back}

-- ---- the stream

-- e is d with the stream of the file at slot i, whose set is s, changed: its record b, its clusters ks, its bytes B
pub record Streamed (g : Geometry) (m d : List ℕ) (i : ℕ) (s e : List ℕ) (b : Allocation) (ks B : List ℕ) : Type 0 where
  pub moves : Moved (lay g d) d e (members g d) (suc i) (some b)
  pub clusters : clusters_in (lay g d) e b ≡ ks
  pub bytes : bytes_in (lay g d) e b ≡ B
  pub off_map : (k : ℕ) → Mem k ks → in_map m k ≡ false
  pub marks : marked_count (lay g d) e + (file_record (lay g d) d s).count ≡ marked_count (lay g d) d + b.count

module _ (g : Geometry) (m d : List ℕ) (c : Consistent g m d) (i : ℕ) (s : List ℕ) (q : sets (root_bytes g d) i ≡ some s) where
  abbrev y : Layout
  y = lay g d

  abbrev old : Allocation
  old = file_record (lay g d) d s

  abbrev S : ℕ → Option Allocation
  S = members g d

  w : Fits y d
  w = fits g m d c

  f : Family y d S
  f = family g m d c

  own : S (suc i) ≡ some old
  own = member-file g d i s q

  size_some : 1 ≤ y.size
  size_some = let l = w.laid.size_low in omega arith

  -- as it was
  pub streamed_same : Streamed g m d i s d old (clusters_in y d old) (bytes_in y d old)
  streamed_same = record {
    moves = moved_same y d S (suc i) old f own;
    clusters = refl;
    bytes = refl;
    off_map = slot_off g m d c i s q;
    marks = refl;
  }

  -- bytes stored in it
  pub streamed_store : (e : List ℕ) (b : Allocation) (ks B : List ℕ) → Streamed g m d i s e b ks B → (at : ℕ) (bs : List ℕ)
      → at + length bs ≤ length ks * y.size
      → Streamed g m d i s (store_at y e ks at bs) b ks (splice B at bs)
  streamed_store e b ks B v at bs room =
      subst (λ (l : List ℕ). Streamed g m d i s (store_at y e l at bs) b ks (splice B at bs)) v.clusters
      (record {
        moves = moved_again y d e e' S (suc i) (some b) (some b) v.moves st.moved;
        clusters = same_clusters y e e' b st.stream ∙ v.clusters;
        bytes = st.bytes ∙ ap (λ (l : List ℕ). splice l at bs) v.bytes;
        off_map = v.off_map;
        marks = omega (arith, st.marks, v.marks);
      })
    where
      e' : List ℕ
      e' = store_at y e (clusters_in y e b) at bs

      st : Stored y e (store_at y e (clusters_in y e b) at bs) (upd S (suc i) (some b)) (suc i) b at bs
      st =
          store_member y e (fits_kept y d e v.moves.long w) (upd S (suc i) (some b)) v.moves.family (suc i) b (upd_same S (suc i) (some b)) at bs
          (subst (λ (l : List ℕ). at + length bs ≤ length l * y.size) (sym v.clusters) room)

  -- ---- made longer

  module _ (len hint : ℕ) (hint_in : in_heap y.count hint ≡ true) (enough : missing y old len ≤ count (is_usable y d m) 2 y.count) where
    abbrev n : ℕ
    n = missing y old len

    -- its record, the volume and the clusters
    abbrev grown : Allocation
    grown = (extend_in y d m old n hint).answer.allocation

    abbrev volume : List ℕ
    volume = (extend_in y d m old n hint).volume

    abbrev all : List ℕ
    all = clusters_in y volume grown

    longer : Longer y d m S (suc i) old n (extend_in y d m old n hint)
    longer = extend_member y d m w (mapped g m d c.limits_hold) S f (suc i) old own n hint hint_in enough

    -- the bytes that it got
    pub got : List ℕ
    got = bytes_of y d longer.new

    pub streamed_longer : Streamed g m d i s volume grown all (bytes_in y d old ++ got)
    unfolding got
    streamed_longer = record {
      moves = longer.moved;
      clusters = refl;
      bytes = longer.bytes;
      off_map = λ k p.
          ⊎_elim (slot_off g m d c i s q k) (longer.off_map k) (mem_append (clusters_in y d old) (subst (Mem k) longer.clusters p));
      marks = omega (arith, longer.marks, longer.counts);
    }

    longer-reads : number_of (stream_of y volume grown) ≡ 0
    longer-reads = longer.moved.family.reads (suc i) grown (upd_same S (suc i) (some grown))

    module _ (more : data_length s ≤ len) where
      -- as many clusters as the length takes
      pub longer-count : clusters_for y.size len ≡ grown.count
      unfolding missing
      longer-count =
          omega (arith, longer.counts, record_count y d s, clusters_mono y.size size_some (data_length s) len more)

      pub longer_room : len ≤ length all * y.size
      longer_room =
          omega (
            arith,
            clusters_hold y.size size_some len,
            ap (λ (x : ℕ). x * y.size) (longer-count ∙ sym (clusters_length y volume grown longer-reads)),
          )

      pub longer_bytes : len ≤ length (bytes_in y d old ++ got)
      longer_bytes =
          omega (
            arith,
            longer_room,
            bytes_length y volume grown longer-reads (fits_kept y d volume longer.moved.long w),
            ap length streamed_longer.bytes,
          )

  -- the bytes as they were hold the length
  pub old_room : data_length s ≤ length (bytes_in y d old)
  old_room =
      omega (
        arith,
        bytes_length y d old (f.reads (suc i) old own) w,
        clusters_hold y.size size_some (data_length s),
        ap (λ (x : ℕ). x * y.size) (slot_takes g m d c i s q),
      )

  -- ---- the set stored anew

  module _ (e : List ℕ) (b : Allocation) (ks B : List ℕ) (v : Streamed g m d i s e b ks B) (valid len : ℕ) (t : Stamp)
      (valid_le : valid ≤ len) (takes_all : clusters_for y.size len ≡ b.count) (bare : b.count ≡ 0 → b ≡ empty) where
    abbrev s' : List ℕ
    s' = recorded s b valid len t

    abbrev d' : List ℕ
    d' = stored y e (clusters_in y d (root g d)) i s b valid len t

    abbrev T : ℕ → Option Allocation
    T = upd S (suc i) (some b)

    we : Fits y e
    we = fits_kept y d e v.moves.long w

    own_now : T (suc i) ≡ some b
    own_now = upd_same S (suc i) (some b)

    reads_now : stream_of y e b ≡ listed (clusters_in y e b)
    reads_now = reads_as y e b (v.moves.family.reads (suc i) b own_now)

    entries_are : entries_of s ≡ entries_at (root_bytes g d) i
    unfolding entries_of
    entries_are = (slot_fit g m d c i s q).count

    old_fit : Fit y.count y.size (entries_of s) s
    old_fit = subst (λ (n : ℕ). Fit y.count y.size n s) (sym entries_are) (slot_fit g m d c i s q)

    set_fit : Fit y.count y.size (entries_of s) s'
    set_fit = recorded_fit y e we b (clusters_in y e b) reads_now len takes_all bare valid valid_le (entries_of s) s old_fit t

    -- the store into the root
    root_now : T 0 ≡ some (root g d)
    root_now = kept_member S (suc i) (some b) 0 (root g d) (λ z. omega arith) (member-root g d)

    root_stream : stream_of y e (root g d) ≡ stream_of y d (root g d)
    root_stream = v.moves.streams 0 (root g d) (λ z. omega arith) (member-root g d)

    root-file : is_file (root_bytes g d) i ≡ true
    root-file = (sets-some (root_bytes g d) i s q).0

    abbrev X : List ℕ
    X = take (32 * entries_of s) s'

    room : 32 * i + length X ≤ length (clusters_in y e (root g d)) * y.size
    room =
        let o = ordered g m d c in
        let a : length (clusters_in y e (root g d)) ≡ length (root_clusters g d) = unfold root_clusters in (ap length (same_clusters y d e (root g d) root_stream)) in
        omega (
          arith,
          ap (λ (x : ℕ). x * y.size) a,
          root-length g m d c,
          o.whole,
          file_room y.count y.size (root_bytes g d) o i root-file,
          entries_are,
          length-take (32 * entries_of s) s',
        )

    st : Stored y e d' T 0 (root g d) (32 * i) X
    unfolding stored
    st =
        subst (λ (l : List ℕ). Stored y e (store_at y e l (32 * i) X) T 0 (root g d) (32 * i) X) (same_clusters y d e (root g d) root_stream)
        (store_member y e we T v.moves.family 0 (root g d) root_now (32 * i) X room)

    wd : Fits y d'
    wd = fits_kept y e d' st.moved.long we

    root_bytes_are : bytes_in y d' (root g d) ≡ splice (root_bytes g d) (32 * i) X
    unfolding root_bytes
    root_bytes_are = st.bytes ∙ ap (λ (l : List ℕ). splice l (32 * i) X) (v.moves.bytes 0 (root g d) (λ z. omega arith) (member-root g d))

    -- the stream is not touched
    stream_kept : stream_of y d' b ≡ stream_of y e b
    stream_kept = st.moved.streams (suc i) b (λ z. omega arith) own_now

    -- its record is read back
    record_back : file_record y d' s' ≡ b
    record_back =
        recorded_back y d' wd b (clusters_in y e b) (stream_kept ∙ reads_now) len takes_all bare valid valid_le (entries_of s) s old_fit t

    field_data : data_length s' ≡ len
    field_data = recorded_data y e we b (clusters_in y e b) reads_now len takes_all bare valid valid_le (entries_of s) s old_fit t

    field_valid : valid_length s' ≡ valid
    field_valid = recorded_valid y e we b (clusters_in y e b) reads_now len takes_all bare valid valid_le (entries_of s) s old_fit t

    field_directory : is_directory s' ≡ is_directory s
    field_directory = recorded_directory y e we b (clusters_in y e b) reads_now len takes_all bare valid valid_le (entries_of s) s old_fit t

    -- the entries that are stored
    put_is : X ≡ entries_put (set_of g d i) (some s')
    unfolding entries_put
    put_is = ap (λ (k : ℕ). take (32 * k) s') (sym (recorded-entries s b valid len t))

    root_kept : take (length (root_clusters g d)) (clusters_in y d' (root g d)) ≡ root_clusters g d
    unfolding root_clusters
    root_kept =
        ap (take (length (clusters_in y d (root g d)))) (same_clusters y e d' (root g d) st.stream ∙ same_clusters y d e (root g d) root_stream)
        ∙ take_whole (clusters_in y d (root g d))

    -- slot i alone is changed
    rewritten_change : Change g m d d' 0 i (some s')
    rewritten_change =
        change_of g m d d' 0 i (some s') (root g d) (upd T 0 (some (root g d)))
        (moves_root y d e d' S T i (moves_file y d d e S S i (moves_none y d S i f) (some b) v.moves) (some (root g d)) st.moved)
        (root_again g m d c d' (st.stream ∙ root_stream))
        (upd_same T 0 (some (root g d)))
        (replaced_ordered y.count y.size (root_bytes g d) i (entries_of s) s' (ordered g m d c) root-file entries_are set_fit
        (bytes_in y d' (root g d)) root_bytes_are)
        (replaced_sets y.count y.size (root_bytes g d) i (entries_of s) s' (ordered g m d c) root-file entries_are set_fit
        (bytes_in y d' (root g d)) root_bytes_are)
        (root_bytes_are ∙ ap₂ (λ (l x : List ℕ). splice l (32 * i) x) (sym (no_zeros (root_bytes g d) y.size)) put_is)
        root_kept
        (λ r z. kept_member T 0 (some (root g d)) (suc i) b (λ h. omega arith) own_now
        ∙ ap some (sym record_back ∙ ap (file_record y d') (some-injective s' r z)))
        (λ r z k p. v.off_map k
        (subst (Mem k) (same_clusters y e d' b stream_kept ∙ v.clusters)
        (subst (λ (x : Allocation). Mem k (clusters_in y d' x)) (ap (file_record y d') (sym (some-injective s' r z)) ∙ record_back) p)))
        (omega (
          arith,
          st.marks,
          v.marks,
          record_count y d s,
          ap length (same_clusters y e d' (root g d) st.stream ∙ same_clusters y d e (root g d) root_stream),
          taken_before,
          taken_now,
          root-length_is,
        ))
      where
        taken_before : takes y (sets (root_bytes g d) i) ≡ clusters_for y.size (data_length s)
        taken_before = ap (takes y) q ∙ (unfold takes in refl)

        taken_now : takes y (some s') ≡ b.count
        taken_now = unfold takes in (ap (clusters_for y.size) field_data ∙ takes_all)

        root-length_is : length (root_clusters g d) ≡ length (clusters_in y d (root g d))
        root-length_is = unfold root_clusters in refl

    -- what the file shows now
    rewritten_shows : is_directory s ≡ false → contents_of y d' (some s') ≡ some (shown B valid len)
    unfolding contents_of
    rewritten_shows z =
        ap (λ (x : Bool). cond x none (some (shown (bytes_in y d' (file_record y d' s')) (valid_length s') (data_length s')))) (field_directory ∙ z)
        ∙ ap some
        (ap₂ (λ (p r : ℕ). shown (bytes_in y d' (file_record y d' s')) p r) field_valid field_data
        ∙ ap (λ (l : List ℕ). shown l valid len)
        (ap (bytes_in y d') record_back ∙ st.moved.bytes (suc i) b (λ h. omega arith) own_now ∙ v.bytes))

    -- the last cluster of its stream there
    pub rewritten_last : b.count ≢ 0 → last_or 0 (file_clusters g (stored y e (clusters_in y d (root g d)) i s b valid len t) i) ≡ b.last
    rewritten_last n =
        file_last g m d d' 0 i s' c rewritten_change (λ z. n (sym (ap (λ (a : Allocation). a.count) record_back) ∙ z))
        ∙ ap (λ (a : Allocation). a.last) record_back

    -- a call that answers 0 and leaves that volume
    pub rewritten_step : (cl : Call) (hint : ℕ) → step g m d cl ≡ carried 0 hint d' → hint ≡ hint_answered g d d' cl
        → call_slot cl 0 ≡ i → set_after g m d cl ≡ some s'
        → is_directory s ≡ false → accepted (contents g d) cl 0 i ≡ some (shown B valid len)
        → finds cl (contents g d i) ≡ true → root_adds g d cl ≡ 0 → slot_answered g d cl ≡ 0 → Step g m d cl
    rewritten_step cl hint is hinted at after z shows found adds slot =
        carried_step g m d cl 0 hint d' 0 (some s') c is after adds (sym slot) hinted (subst (λ (x : ℕ). Change g m d d' 0 x (some s')) (sym at) rewritten_change)
        (rewritten_shows z ∙ sym (ap (accepted (contents g d) cl 0) at ∙ shows)) (ap (λ (x : ℕ). finds cl (contents g d x)) at ∙ found)

  -- what it showed
  pub shows_before : is_directory s ≡ false → contents g d i ≡ some (shown (bytes_in y d old) (valid_length s) (data_length s))
  shows_before z =
      contents_is g d (ordered g m d c) i ∙ ap (contents_of y d) q
      ∙ (unfold contents_of in (ap (λ (x : Bool). cond x none (some (shown (bytes_in y d old) (valid_length s) (data_length s)))) z))
