-- A volume changed at one slot of its root alone: it stays consistent, no other slot's contents change, and the marks add up.
-- Assumes nothing.
use mathlib.Core.Path.{◌≡◌, refl, sym, ◌∙◌, ap, ap₂, subst}
use mathlib.Core.Logic.{◌≢◌}
use mathlib.Core.Bool.{Bool, true, false, ◌&&◌, not, cond, false≢true}
use mathlib.Core.List.{List}
use mathlib.Core.Option.{Option, none, some}
use Prim.Native.Nat.{ℕ, zero, suc, ◌+◌, ◌*◌, ◌≤◌, ◌<◌}
use native.Mathlib.Decide.{ℕ_discrete}
use native.Mathlib.Omega.{arith}
use lib.ListN.{length, take}
use Rattle.primitives.specs.Splice.{splice}
use Rattle.tables.specs.Table.{upd}
use Rattle.tables.specs.Lists.{Mem}
use Rattle.tables.proofs.Cases.{not_so}
use Rattle.tables.proofs.TableLaws.{upd_same, upd_other}
use Rattle.boot.specs.declared.geometry.Geometry.{Geometry}
use Rattle.boot.specs.declared.layout.Layout.{Layout}
use Rattle.boot.specs.Geometry.{root_cluster}
use Rattle.boot.specs.Limits.{in_map, limits}
use Rattle.metadata.specs.Marks.{allocated_count}
use Rattle.metadata.proofs.Counting.{marked_count, allocated_is}
use Rattle.stream.specs.declared.allocation.Allocation.{Allocation}
use Rattle.stream.specs.Chain.{Clusters}
use Rattle.stream.specs.Stream.{stream_of, clusters_of, clusters_in}
use Rattle.entry_set.specs.Fields.{is_directory, valid_length, data_length, clusters_for}
use Rattle.directory.specs.Directory.{root_record}
use Rattle.stream.specs.Bytes.{bytes_in}
use Rattle.directory.specs.Entries.{entry_count, is_file, entries_at, set_at, is_sound}
use Rattle.directory.specs.Internal.{sets}
use Rattle.directory.specs.Room.{with_zeros}
use Rattle.directory.proofs.EntryLaws.{sound_file}
use Rattle.directory.proofs.FitLaws.{fit_low}
use Rattle.directory.proofs.OrderedLaws.{Ordered, file_room, file_fit, files_apart}
use Rattle.directory.proofs.StoreLaws.{sets-file, sets-none}
use Rattle.directory.specs.Open.{file_record, shown}
use Rattle.write.specs.Consistent.{Consistent, lay, root, root_clusters, root_bytes, file_at, set_of, stream_at, file_clusters, file_bytes}
use Rattle.write.specs.Contents.{has_file, contents}
use Rattle.write.specs.Space.{length_takes, sum, clusters_taken}
use Rattle.write.specs.Demand.{entries_put, Lost}
use Rattle.write.proofs.Reading.{record_same}
use Rattle.write.proofs.Family.{Family, Outside, same_clusters}
use Rattle.write.proofs.Scene.{clear_stream, clear_directory, lay_same, members, ordered, slot_stream, slot_number, slot_off, lost_outside}

-- the clusters that the length of a slot's set takes, and the contents that the set shows
unfoldable pub takes : Layout → Option (List ℕ) → ℕ
takes y (some s) = clusters_for y.size (data_length s)
takes y none = 0

unfoldable pub contents_of : Layout → List ℕ → Option (List ℕ) → Option (List ℕ)
contents_of y d (some s) = cond (is_directory s) none (some (shown (bytes_in y d (file_record y d s)) (valid_length s) (data_length s)))
contents_of y d none = none

-- d' is d changed at slot i alone, where o stands now, with `more` zeroed clusters added to the root
pub record Change (g : Geometry) (m d d' : List ℕ) (more i : ℕ) (o : Option (List ℕ)) : Type 0 where
  pub long : length d' ≡ length d
  -- the root afterwards
  pub after : Allocation
  pub root_is : root_record (lay g d) d' (root_cluster g) ≡ after
  pub ordered : Ordered (lay g d).count (lay g d).size (bytes_in (lay g d) d' after)
  pub table : (j : ℕ) → sets (bytes_in (lay g d) d' after) j ≡ upd (sets (root_bytes g d)) i o j
  pub root_bytes_are : bytes_in (lay g d) d' after ≡ splice (with_zeros (root_bytes g d) (more * (lay g d).size)) (32 * i) (entries_put (set_of g d i) o)
  pub root_clusters_are : take (length (root_clusters g d)) (clusters_in (lay g d) d' after) ≡ root_clusters g d
  -- the root and the streams of the slots
  pub S' : ℕ → Option Allocation
  pub family : Family (lay g d) d' S'
  pub root_member : S' 0 ≡ some after
  pub own_member : (s : List ℕ) → o ≡ some s → S' (suc i) ≡ some (file_record (lay g d) d' s)
  pub other_member : (j : ℕ) (s : List ℕ) → j ≢ i → sets (root_bytes g d) j ≡ some s → S' (suc j) ≡ some (file_record (lay g d) d s)
  pub others_read : (j : ℕ) (s : List ℕ) → j ≢ i → sets (root_bytes g d) j ≡ some s
      → stream_of (lay g d) d' (file_record (lay g d) d s) ≡ stream_of (lay g d) d (file_record (lay g d) d s)
  pub others_bytes : (j : ℕ) (s : List ℕ) → j ≢ i → sets (root_bytes g d) j ≡ some s
      → bytes_in (lay g d) d' (file_record (lay g d) d s) ≡ bytes_in (lay g d) d (file_record (lay g d) d s)
  pub own_off_map : (s : List ℕ) → o ≡ some s → (k : ℕ) → Mem k (clusters_in (lay g d) d' (file_record (lay g d) d' s)) → in_map m k ≡ false
  -- marked clusters of no stream
  pub outside : (k : ℕ) → Outside (lay g d) d (members g d) k → Outside (lay g d) d' S' k
  pub marks : marked_count (lay g d) d' + (takes (lay g d) (sets (root_bytes g d) i) + length (root_clusters g d))
      ≡ marked_count (lay g d) d + (takes (lay g d) o + length (clusters_in (lay g d) d' after))

-- ---- sums

sum_cong : (f f' : ℕ → ℕ) (n : ℕ) → ((j : ℕ) → j < n → f' j ≡ f j) → sum f' n ≡ sum f n
unfolding sum
sum_cong f f' zero h = refl
sum_cong f f' (suc n) h = ap₂ ◌+◌ (sum_cong f f' n (λ j l. h j (omega arith))) (h n (omega arith))

-- entries that are 0 add nothing
sum_past : (f : ℕ → ℕ) (n k : ℕ) → ((j : ℕ) → n ≤ j → f j ≡ 0) → sum f (n + k) ≡ sum f n
unfolding sum
sum_past f n zero h = let e : n + 0 ≡ n = omega arith in ap (sum f) e
sum_past f n (suc k) h =
    let e : n + suc k ≡ suc (n + k) = omega arith in
    ap (sum f) e ∙ (omega (arith, sum_past f n k h, h (n + k) (omega arith)))

-- one entry changed: the sum changes by it
sum_change : (f f' : ℕ → ℕ) (i n : ℕ) → i < n → ((j : ℕ) → j ≢ i → f' j ≡ f j) → sum f' n + f i ≡ sum f n + f' i
unfolding sum
sum_change f f' i zero l h = absurd (omega arith)
sum_change f f' i (suc n) l h =
    elim (ℕ_discrete i n) [
      | yes e ↦ omega (arith, sum_cong f f' n (λ j b. h j (λ q. omega arith)), ap f e, ap f' e)
      | no e ↦ omega (arith, sum_change f f' i n (omega arith) h, h n (λ q. e (sym q)))
    ]

-- ---- a volume that keeps the limits, has its root in order, and whose root and files are a family off the map, is consistent

record Standing (g : Geometry) (m d : List ℕ) (S : ℕ → Option Allocation) (y : Layout) : Type 0 where
  in_order : Ordered y.count y.size (bytes_in y d (root_record y d (root_cluster g)))
  all_apart : Family y d S
  first : S 0 ≡ some (root_record y d (root_cluster g))
  others : (j : ℕ) (s : List ℕ) → sets (bytes_in y d (root_record y d (root_cluster g))) j ≡ some s → S (suc j) ≡ some (file_record y d s)
  off_map : (j : ℕ) (s : List ℕ) → sets (bytes_in y d (root_record y d (root_cluster g))) j ≡ some s → (k : ℕ)
      → Mem k (clusters_in y d (file_record y d s)) → in_map m k ≡ false

standing_consistent : (g : Geometry) (m d : List ℕ) (S : ℕ → Option Allocation) → limits g (length d) m ≡ true → Standing g m d S (lay g d)
    → Consistent g m d
unfolding root root_clusters root_bytes file_at set_of stream_at file_clusters
standing_consistent g m d S l w = record {
  limits_hold = l;
  root_reads = clear_directory y d a (f.reads 0 a w.first) (f.plains 0 a w.first);
  sound = w.in_order.sound;
  streams_read = λ i e. clear_stream y d m (file i) (f.reads (suc i) (file i) (member i e)) (w.off_map i (set_at bs i) (sets-file bs i e));
  streams_apart = λ i j p q n. f.apart (suc i) (suc j) (file i) (file j) (λ e. n (omega arith)) (member i p) (member j q);
  root_apart = λ i p. f.apart (suc i) 0 (file i) a (λ e. omega arith) (member i p) w.first;
  ended = w.in_order.ended;
  sets_apart = files_apart y.count y.size bs w.in_order;
}
  where
    y : Layout
    y = lay g d

    a : Allocation
    a = root_record (lay g d) d (root_cluster g)

    bs : List ℕ
    bs = bytes_in (lay g d) d (root_record (lay g d) d (root_cluster g))

    f : Family (lay g d) d S
    f = w.all_apart

    file : ℕ → Allocation
    file i = file_record (lay g d) d (set_at (bytes_in (lay g d) d (root_record (lay g d) d (root_cluster g))) i)

    member : (i : ℕ) → is_file bs i ≡ true → S (suc i) ≡ some (file i)
    member i e = w.others i (set_at bs i) (sets-file bs i e)

-- and a marked cluster of none of them is of no stream
standing_lost : (g : Geometry) (m d : List ℕ) (S : ℕ → Option Allocation) → Standing g m d S (lay g d) → (k : ℕ) → Outside (lay g d) d S k → Lost g d k
unfolding root root_clusters root_bytes file_at set_of stream_at file_clusters
standing_lost g m d S w k l = record {
  heap = l.heap;
  mark = l.mark;
  off_root = l.off 0 (root_record (lay g d) d (root_cluster g)) w.first;
  off_files = λ i e.
      let bs = bytes_in (lay g d) d (root_record (lay g d) d (root_cluster g)) in
      l.off (suc i) (file_record (lay g d) d (set_at bs i)) (w.others i (set_at bs i) (sets-file bs i e));
}

-- ---- contents and lengths, by the table of sets

module _ (g : Geometry) (d : List ℕ) where
  abbrev bytes : List ℕ
  bytes = root_bytes g d

  pub contents_is : Ordered (lay g d).count (lay g d).size (root_bytes g d) → (j : ℕ) → contents g d j ≡ contents_of (lay g d) d (sets (root_bytes g d) j)
  unfolding contents has_file set_of stream_at
  contents_is w j = by (is_file bytes j) refl
    where
      shows : Option (List ℕ)
      shows =
          some
          (shown (bytes_in (lay g d) d (file_record (lay g d) d (set_at bytes j))) (valid_length (set_at bytes j)) (data_length (set_at bytes j)))

      kind : (b : Bool) → cond (true && not b) shows none ≡ cond b none shows
      kind true = refl
      kind false = refl

      by : (b : Bool) → is_file bytes j ≡ b
          → cond (is_sound (lay g d).count (lay g d).size bytes j && not (is_directory (set_at bytes j))) shows none
          ≡ contents_of (lay g d) d (sets bytes j)
      by true f =
          ap (λ (b : Bool). cond (b && not (is_directory (set_at bytes j))) shows none) (w.sound j f) ∙ kind (is_directory (set_at bytes j))
          ∙ sym (ap (contents_of (lay g d) d) (sets-file bytes j f) ∙ (unfold contents_of in refl))
      by false f =
          let n : is_sound (lay g d).count (lay g d).size bytes j ≡ false
          = not_so _ (λ s. false≢true (sym f ∙ sound_file (lay g d).count (lay g d).size bytes j s)) in
          ap (λ (b : Bool). cond (b && not (is_directory (set_at bytes j))) shows none) n
          ∙ sym (ap (contents_of (lay g d) d) (sets-none bytes j f) ∙ (unfold contents_of in refl))

  pub takes_is : (j : ℕ) → length_takes g d j ≡ takes (lay g d) (sets (root_bytes g d) j)
  unfolding length_takes file_at set_of sets
  takes_is j = by (is_file bytes j)
    where
      by : (b : Bool)
          → cond b (clusters_for (lay g d).size (data_length (set_at bytes j))) 0 ≡ takes (lay g d) (cond b (some (set_at bytes j)) none)
      by true = unfold takes in refl
      by false = unfold takes in refl

  -- no set stands past the end
  pub takes_past : Ordered (lay g d).count (lay g d).size (root_bytes g d) → (j : ℕ) → entry_count (root_bytes g d) ≤ j → length_takes g d j ≡ 0
  takes_past w j l = by (is_file bytes j) refl
    where
      by : (b : Bool) → is_file bytes j ≡ b → length_takes g d j ≡ 0
      by true f =
          absurd
          (omega (
            arith,
            file_room (lay g d).count (lay g d).size bytes w j f,
            fit_low (lay g d).count (lay g d).size (entries_at bytes j) (set_at bytes j) (file_fit (lay g d).count (lay g d).size bytes w j f),
          ))
      by false f = takes_is j ∙ ap (takes (lay g d)) (sets-none bytes j f) ∙ (unfold takes in refl)

-- ---- the changed volume

module _ (g : Geometry) (m d d' : List ℕ) (more i : ℕ) (o : Option (List ℕ)) (c : Consistent g m d) (h : Change g m d d' more i o) where
  same_lay : lay g d' ≡ lay g d
  same_lay = lay_same g d d' h.long

  -- the record of another slot's stream
  pub other_record : (j : ℕ) (s : List ℕ) → j ≢ i → sets (root_bytes g d) j ≡ some s → file_record (lay g d) d' s ≡ file_record (lay g d) d s
  other_record j s n e = record_same (lay g d) d d' s (slot_number g m d c j s e) (h.others_read j s n e)

  -- what holds of the stream of every slot's set now
  each : (P : List ℕ → Allocation → ℕ → Type 0) → ((s : List ℕ) → o ≡ some s → P s (file_record (lay g d) d' s) i)
      → ((j : ℕ) (s : List ℕ) → j ≢ i → sets (root_bytes g d) j ≡ some s → P s (file_record (lay g d) d s) j)
      → (j : ℕ) (s : List ℕ) → sets (bytes_in (lay g d) d' h.after) j ≡ some s → P s (file_record (lay g d) d' s) j
  each P own other j s e =
      elim (ℕ_discrete j i) [
        | yes q ↦
            let r : o ≡ some s = sym (upd_same (sets (root_bytes g d)) i o) ∙ ap (upd (sets (root_bytes g d)) i o) (sym q) ∙ sym (h.table j) ∙ e in
            subst (P s (file_record (lay g d) d' s)) (sym q) (own s r)
        | no q ↦
            let r : sets (root_bytes g d) j ≡ some s = sym (upd_other (sets (root_bytes g d)) i o j q) ∙ sym (h.table j) ∙ e in
            subst (λ (a : Allocation). P s a j) (sym (other_record j s q r)) (other j s q r)
      ]

  back : (j : ℕ) → sets (bytes_in (lay g d) d' (root_record (lay g d) d' (root_cluster g))) j ≡ sets (bytes_in (lay g d) d' h.after) j
  back j = ap (λ (a : Allocation). sets (bytes_in (lay g d) d' a) j) h.root_is

  others_off : (j : ℕ) (s : List ℕ) → j ≢ i → sets (root_bytes g d) j ≡ some s → (x : ℕ)
      → Mem x (clusters_in (lay g d) d' (file_record (lay g d) d s)) → in_map m x ≡ false
  unfolding clusters_in
  others_off j s n e x q =
      slot_off g m d c j s e x (subst (λ (r : Clusters). Mem x (clusters_of r)) (h.others_read j s n e) q)

  stands : Standing g m d' h.S' (lay g d)
  stands = record {
    in_order = subst (λ (a : Allocation). Ordered (lay g d).count (lay g d).size (bytes_in (lay g d) d' a)) (sym h.root_is) h.ordered;
    all_apart = h.family;
    first = h.root_member ∙ ap some (sym h.root_is);
    others = λ j s e. each (λ _ a k. h.S' (suc k) ≡ some a) h.own_member h.other_member j s (sym (back j) ∙ e);
    off_map = λ j s e. each (λ _ a k. (x : ℕ) → Mem x (clusters_in (lay g d) d' a) → in_map m x ≡ false) h.own_off_map others_off j s (sym (back j) ∙ e);
  }

  stands_there : Standing g m d' h.S' (lay g d')
  stands_there = subst (Standing g m d' h.S') (sym same_lay) stands

  pub change_consistent : Consistent g m d'
  change_consistent = standing_consistent g m d' h.S' (ap (λ (x : ℕ). limits g x m) h.long ∙ c.limits_hold) stands_there

  -- marked clusters of no stream
  pub change_lost : (k : ℕ) → Lost g d k → Lost g d' k
  change_lost k l =
      standing_lost g m d' h.S' stands_there k
      (subst (λ (y : Layout). Outside y d' h.S' k) (sym same_lay) (h.outside k (lost_outside g m d c k l)))

  -- the root afterwards
  pub change_root : root g d' ≡ h.after
  unfolding root
  change_root = ap (λ (y : Layout). root_record y d' (root_cluster g)) same_lay ∙ h.root_is

  pub change_bytes : root_bytes g d' ≡ bytes_in (lay g d) d' h.after
  unfolding root_bytes
  change_bytes = ap₂ (λ (y : Layout) (a : Allocation). bytes_in y d' a) same_lay change_root

  pub change_clusters : root_clusters g d' ≡ clusters_in (lay g d) d' h.after
  unfolding root_clusters
  change_clusters = ap₂ (λ (y : Layout) (a : Allocation). clusters_in y d' a) same_lay change_root

  pub change_root_bytes : root_bytes g d' ≡ splice (with_zeros (root_bytes g d) (more * (lay g d).size)) (32 * i) (entries_put (set_of g d i) o)
  change_root_bytes = change_bytes ∙ h.root_bytes_are

  pub change_root_clusters : take (length (root_clusters g d)) (root_clusters g d') ≡ root_clusters g d
  change_root_clusters = ap (take (length (root_clusters g d))) change_clusters ∙ h.root_clusters_are

  pub change_sets : (j : ℕ) → sets (root_bytes g d') j ≡ upd (sets (root_bytes g d)) i o j
  change_sets j = ap (λ (bs : List ℕ). sets bs j) change_bytes ∙ h.table j

  -- the stream of another slot
  module _ (j : ℕ) (n : j ≢ i) (f : file_at g d j ≡ true) where
    there : sets (root_bytes g d) j ≡ some (set_of g d j)
    unfolding file_at set_of
    there = sets-file (root_bytes g d) j f

    there_now : sets (root_bytes g d') j ≡ some (set_of g d j)
    there_now = change_sets j ∙ upd_other (sets (root_bytes g d)) i o j n ∙ there

    same_stream : stream_at g d' j ≡ file_record (lay g d) d (set_of g d j)
    same_stream =
        slot_stream g m d' change_consistent j (set_of g d j) there_now
        ∙ ap (λ (y : Layout). file_record y d' (set_of g d j)) same_lay
        ∙ other_record j (set_of g d j) n there

    pub change_other_clusters : file_clusters g d' j ≡ file_clusters g d j
    unfolding file_clusters
    change_other_clusters =
        ap₂ (λ (y : Layout) (a : Allocation). clusters_in y d' a) same_lay same_stream
        ∙ same_clusters (lay g d) d d' (file_record (lay g d) d (set_of g d j)) (h.others_read j (set_of g d j) n there)
        ∙ (unfold stream_at in refl)

    pub change_other_bytes : file_bytes g d' j ≡ file_bytes g d j
    unfolding file_bytes
    change_other_bytes =
        ap₂ (λ (y : Layout) (a : Allocation). bytes_in y d' a) same_lay same_stream
        ∙ h.others_bytes j (set_of g d j) n there
        ∙ (unfold stream_at in refl)

  -- what a slot shows now
  shows_now : (j : ℕ) → contents g d' j ≡ contents_of (lay g d) d' (upd (sets (root_bytes g d)) i o j)
  shows_now j =
      contents_is g d' (ordered g m d' change_consistent) j
      ∙ ap₂ (λ (y : Layout) (v : Option (List ℕ)). contents_of y d' v) same_lay (change_sets j)

  shows_other : (j : ℕ) → j ≢ i → (v : Option (List ℕ)) → sets (root_bytes g d) j ≡ v → contents_of (lay g d) d' v ≡ contents_of (lay g d) d v
  unfolding contents_of
  shows_other j n none e = refl
  shows_other j n (some s) e =
      ap (λ (bs : List ℕ). cond (is_directory s) none (some (shown bs (valid_length s) (data_length s))))
      (ap (bytes_in (lay g d) d') (other_record j s n e) ∙ h.others_bytes j s n e)

  pub change_contents : (j : ℕ) → contents g d' j ≡ upd (contents g d) i (contents_of (lay g d) d' o) j
  change_contents j =
      shows_now j
      ∙ elim (ℕ_discrete j i) [
        | yes q ↦ ap (contents_of (lay g d) d') (ap (upd (sets (root_bytes g d)) i o) q ∙ upd_same (sets (root_bytes g d)) i o)
            ∙ sym (ap (upd (contents g d) i (contents_of (lay g d) d' o)) q ∙ upd_same (contents g d) i (contents_of (lay g d) d' o))
        | no q ↦ ap (contents_of (lay g d) d') (upd_other (sets (root_bytes g d)) i o j q) ∙ shows_other j q (sets (root_bytes g d) j) refl
            ∙ sym (contents_is g d (ordered g m d c) j) ∙ sym (upd_other (contents g d) i (contents_of (lay g d) d' o) j q)
      ]

  -- ---- the marks

  takes_now : (j : ℕ) → length_takes g d' j ≡ takes (lay g d) (upd (sets (root_bytes g d)) i o j)
  takes_now j = takes_is g d' j ∙ ap₂ takes same_lay (change_sets j)

  takes_own : length_takes g d' i ≡ takes (lay g d) o
  takes_own = takes_now i ∙ ap (takes (lay g d)) (upd_same (sets (root_bytes g d)) i o)

  takes_other : (j : ℕ) → j ≢ i → length_takes g d' j ≡ length_takes g d j
  takes_other j n = takes_now j ∙ ap (takes (lay g d)) (upd_other (sets (root_bytes g d)) i o j n) ∙ sym (takes_is g d j)

  sums : sum (length_takes g d') (entry_count (root_bytes g d')) + takes (lay g d) (sets (root_bytes g d) i)
      ≡ sum (length_takes g d) (entry_count (root_bytes g d)) + takes (lay g d) o
  sums =
      let a : ℕ = entry_count (root_bytes g d) in
      let b : ℕ = entry_count (root_bytes g d') in
      let e : a + (b + suc i) ≡ b + (a + suc i) = omega arith in
      omega (
        arith,
        ap (sum (length_takes g d')) e,
        sum_past (length_takes g d) a (b + suc i) (takes_past g d (ordered g m d c)),
        sum_past (length_takes g d') b (a + suc i) (takes_past g d' (ordered g m d' change_consistent)),
        sum_change (length_takes g d) (length_takes g d') i (a + (b + suc i)) (omega arith) takes_other,
        takes_own,
        takes_is g d i,
      )

  pub change_marks : allocated_count (lay g d) d' + clusters_taken g d ≡ allocated_count (lay g d) d + clusters_taken g d'
  unfolding clusters_taken
  change_marks =
      omega (arith, allocated_is (lay g d) d, allocated_is (lay g d) d', h.marks, sums, ap length change_clusters)
