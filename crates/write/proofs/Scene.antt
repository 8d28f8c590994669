-- What a consistent volume gives: the root and every file's stream as a family, and the root's bytes in order. Assumes nothing.
use mathlib.Core.Path.{◌≡◌, refl, sym, ◌∙◌, ap, subst}
use mathlib.Core.Logic.{◌≢◌}
use mathlib.Core.Bool.{Bool, true, false, not, cond, false≢true}
use mathlib.Core.List.{[], List, ◌∷◌}
use mathlib.Core.Option.{Option, none, some, some-injective}
use Prim.Native.Nat.{ℕ, zero, suc, ◌*◌, ◌/◌, ◌≤◌}
use native.Mathlib.Nat.{mul_left_comm}
use native.Mathlib.Omega.{arith}
use lib.ListN.{length}
use borrow.Author.Tests.{not-true}
use Rattle.tables.specs.Lists.{Mem, every}
use Rattle.tables.proofs.Cases.{clash, not_so}
use Rattle.tables.proofs.ListLaws.{every_mem, mem_every}
use Rattle.boot.specs.declared.geometry.Geometry.{Geometry}
use Rattle.boot.specs.declared.layout.Layout.{Layout}
use Rattle.boot.specs.Geometry.{root_cluster}
use Rattle.boot.specs.Limits.{in_map, limits}
use Rattle.boot.specs.Layout.{layout_of, in_heap, is_bitmap_cluster}
use Rattle.boot.specs.Causes.{first_cause}
use Rattle.boot.proofs.Admission.{limits_admits}
use Rattle.boot.proofs.CauseLaws.{cause_skip, cause_last, cause_none}
use Rattle.metadata.specs.Fat.{fat_entry}
use Rattle.metadata.specs.Marks.{marked}
use Rattle.metadata.proofs.Frame.{Fits}
use Rattle.metadata.proofs.View.{plain, plain_off}
use Rattle.stream.specs.declared.allocation.Allocation.{Allocation}
use Rattle.stream.specs.Chain.{Clusters, listed, refused, read_chain}
use Rattle.stream.specs.Stream.{number_of, stream_of, clusters_of, system_cause, clusters_in}
use Rattle.stream.proofs.StreamLaws.{Read, read-chain_facts}
use Rattle.stream.proofs.Distinct.{read_length}
use Rattle.stream.proofs.ListingLaws.{stream_read}
use Rattle.stream.proofs.BytesLaws.{length_of}
use Rattle.entry_set.specs.Fields.{data_length, clusters_for}
use Rattle.directory.specs.Directory.{chain_record, root_record, bitmap_cause, directory_cause}
use Rattle.stream.specs.Bytes.{bytes_in}
use Rattle.directory.specs.Entries.{entry_count, entries_at}
use Rattle.directory.specs.Internal.{sets}
use Rattle.directory.proofs.FitLaws.{Fit}
use Rattle.directory.proofs.OrderedLaws.{Ordered, file_fit}
use Rattle.directory.proofs.StoreLaws.{sets-some}
use Rattle.directory.specs.Open.{file_record, stream_cause}
use Rattle.file.proofs.CallLaws as call
use Rattle.write.specs.Consistent.{Consistent, lay, root, root_clusters, root_bytes, file_at, set_of, stream_at, file_clusters}
use Rattle.write.specs.Demand.{Lost}
use Rattle.write.proofs.Reading.{reads_as, root_back, record_count}
use Rattle.write.proofs.Family.{Family, Outside, plain_at}

-- ---- causes that are not met

pub clear_first : (c : ℕ) (cs : List ℕ) → c ≡ 0 → first_cause cs ≡ 0 → first_cause (c ∷ cs) ≡ 0
clear_first c cs z e = cause_skip c cs z ∙ e

-- the last of two
pub both_clear : (a b : ℕ) → first_cause (a ∷ b ∷ []) ≡ 0 → (a ≡ 0) × (b ≡ 0)
both_clear a b e = let r = cause_none a (b ∷ []) e in (r.0, sym (cause_last b) ∙ r.1)

pub clear_both : (a b : ℕ) → a ≡ 0 → b ≡ 0 → first_cause (a ∷ b ∷ []) ≡ 0
clear_both a b p q = clear_first a (b ∷ []) p (cause_last b ∙ q)

-- a test that decides a number that is not 0
pub if_clear : (b : Bool) (n : ℕ) → n ≢ 0 → cond b 0 n ≡ 0 → b ≡ true
if_clear true n h e = refl
if_clear false n h e = absurd (h e)

-- what a stream's causes say
pub stream_clear_lem : (y : Layout) (d m : List ℕ) (a : Allocation) → stream_cause y d m a ≡ 0
    → (number_of (stream_of y d a) ≡ 0) × ((k : ℕ) → Mem k (clusters_in y d a) → in_map m k ≡ false)
unfolding stream_cause system_cause
stream_clear_lem y d m a e =
    let r = both_clear _ _ e in
    (r.0, λ k i. not-true (in_map m k) (every_mem (λ k. not (in_map m k)) _ (if_clear _ 9 (λ z. omega arith) r.1) k i))

pub clear_stream : (y : Layout) (d m : List ℕ) (a : Allocation) → number_of (stream_of y d a) ≡ 0
    → ((k : ℕ) → Mem k (clusters_in y d a) → in_map m k ≡ false) → stream_cause y d m a ≡ 0
unfolding stream_cause system_cause
clear_stream y d m a e h =
    clear_both _ _ e (rw (mem_every (λ k. not (in_map m k)) (clusters_in y d a) (λ k i. ap not (h k i))) refl)

-- a directory that reads, from clusters that are no bitmap's
pub clear_directory : (y : Layout) (d : List ℕ) (a : Allocation) → number_of (stream_of y d a) ≡ 0 → every (plain y) (clusters_in y d a) ≡ true
    → directory_cause y d a ≡ 0
unfolding directory_cause bitmap_cause clusters_in
clear_directory y d a e h =
    clear_both _ _ e
    (rw (mem_every (λ k. not (is_bitmap_cluster y k)) (clusters_of (stream_of y d a)) (λ k i. ap not (plain_off y k (every_mem (plain y) _ h k i)))) refl)

-- ---- the limits

pub lay_same : (g : Geometry) (d d' : List ℕ) → length d' ≡ length d → lay g d' ≡ lay g d
unfolding lay
lay_same g d d' e = ap (layout_of g) e

module _ (g : Geometry) (m d : List ℕ) (l : limits g (length d) m ≡ true) where
  pub fits_of : Fits (lay g d) d
  unfolding lay
  fits_of = let w = limits_admits g d m l in record { laid = w.laid; apart = w.apart; long = w.long }

  -- a bitmap's clusters are in the system map
  pub mapped : (k : ℕ) → is_bitmap_cluster (lay g d) k ≡ true → in_map m k ≡ true
  unfolding lay
  mapped = (limits_admits g d m l).mapped

  pub off_bitmap : (k : ℕ) → in_map m k ≡ false → is_bitmap_cluster (lay g d) k ≡ false
  off_bitmap k e = not_so (is_bitmap_cluster (lay g d) k) (λ b. false≢true (sym e ∙ mapped k b))

-- ---- the root

chain_first : (first : ℕ) (c : Clusters) → (chain_record first c).first ≡ first
unfolding chain_record
chain_first first (listed ks) = refl
chain_first first (refused n) = refl

chain_kind : (first : ℕ) (c : Clusters) → (chain_record first c).no_fat_chain ≡ false
unfolding chain_record
chain_kind first (listed ks) = refl
chain_kind first (refused n) = refl

chain-some : (C : ℕ) (fat : ℕ → ℕ) (first : ℕ) (c : Clusters) → read_chain C fat first ≡ c → (chain_record first c).count ≢ 0
unfolding chain_record
chain-some C fat first (listed ks) e z = let s = (read-chain_facts C fat first ks e).1.some in omega arith
chain-some C fat first (refused n) e z = omega arith

module _ (g : Geometry) (d : List ℕ) where
  pub root_first : (root g d).first ≡ root_cluster g
  unfolding root root_record
  root_first = chain_first (root_cluster g) _

  pub root-chain : (root g d).no_fat_chain ≡ false
  unfolding root root_record
  root-chain = chain_kind (root_cluster g) _

  pub root-some : (root g d).count ≢ 0
  unfolding root root_record
  root-some = chain-some (lay g d).count (fat_entry (lay g d) d) (root_cluster g) _ refl

-- ---- the root and the files' streams

-- the record of the set at a slot
unfoldable pub record_of : Layout → List ℕ → Option (List ℕ) → Option Allocation
record_of y d (some s) = some (file_record y d s)
record_of y d none = none

-- the root, then the stream of each slot's set
unfoldable pub members : Geometry → List ℕ → ℕ → Option Allocation
members g d zero = some (root g d)
members g d (suc j) = record_of (lay g d) d (sets (root_bytes g d) j)

pub member-root : (g : Geometry) (d : List ℕ) → members g d 0 ≡ some (root g d)
unfolding members
member-root g d = refl

pub member-file : (g : Geometry) (d : List ℕ) (j : ℕ) (s : List ℕ) → sets (root_bytes g d) j ≡ some s
    → members g d (suc j) ≡ some (file_record (lay g d) d s)
unfolding members record_of
member-file g d j s e = ap (record_of (lay g d) d) e

-- and nothing else
pub file-member : (g : Geometry) (d : List ℕ) (j : ℕ) (a : Allocation) → members g d (suc j) ≡ some a
    → (s : List ℕ) × (sets (root_bytes g d) j ≡ some s) × (file_record (lay g d) d s ≡ a)
unfolding members
file-member g d j a e = by (sets (root_bytes g d) j) refl e
  where
    by : (o : Option (List ℕ)) → sets (root_bytes g d) j ≡ o → record_of (lay g d) d o ≡ some a
        → (s : List ℕ) × (sets (root_bytes g d) j ≡ some s) × (file_record (lay g d) d s ≡ a)
    by (some s) q r = (s, q, some-injective (file_record (lay g d) d s) a (unfold record_of in r))
    by none q r = let z : ◌≡◌ {A = Option Allocation} none (some a) = unfold record_of in r in clash (cc)

module _ (g : Geometry) (m d : List ℕ) (c : Consistent g m d) where
  pub fits : Fits (lay g d) d
  fits = fits_of g m d c.limits_hold

  -- a cluster holds a whole number of entries, 16 at least
  pub size_per : (lay g d).size ≡ 32 * ((lay g d).size / 32)
  size_per = sym fits.laid.whole

  pub per_low : 16 ≤ (lay g d).size / 32
  per_low = let l = fits.laid.size_low in omega arith

  pub root_number : number_of (stream_of (lay g d) d (root g d)) ≡ 0
  root_number = call.directory_reads (lay g d) d (root g d) c.root_reads

  root-read : Read (lay g d).count (fat_entry (lay g d) d) (marked (lay g d) d) (root g d) (root_clusters g d)
  unfolding root_clusters clusters_in
  root-read = stream_read (lay g d) d (root g d) root_number

  pub root_listed : stream_of (lay g d) d (root g d) ≡ listed (root_clusters g d)
  unfolding root_clusters
  root_listed = reads_as (lay g d) d (root g d) root_number

  -- its record is read back where it reads as before
  pub root_again : (d' : List ℕ) → stream_of (lay g d) d' (root g d) ≡ stream_of (lay g d) d (root g d) → root_record (lay g d) d' (root_cluster g) ≡ root g d
  root_again d' e =
      ap (root_record (lay g d) d') (sym (root_first g d))
      ∙ root_back (lay g d) d' (root g d) (root_clusters g d) (e ∙ root_listed) (root-chain g d) (root-some g d)

  pub root-count : (root g d).count ≡ length (root_clusters g d)
  root-count = sym (read_length (lay g d).count (fat_entry (lay g d) d) (marked (lay g d) d) (root g d) (root_clusters g d) root-read)

  pub root_plain : every (plain (lay g d)) (root_clusters g d) ≡ true
  unfolding root_clusters
  root_plain = call.directory_plain (lay g d) d (root g d) c.root_reads

  pub root-length : length (root_bytes g d) ≡ length (root_clusters g d) * (lay g d).size
  unfolding root_bytes bytes_in root_clusters
  root-length = length_of (lay g d) d fits (root_clusters g d) root-read.heap

  -- the root's bytes are in order
  pub ordered : Ordered (lay g d).count (lay g d).size (root_bytes g d)
  unfolding file_at
  ordered = record { whole = whole; sound = c.sound; ended = c.ended }
    where
      entries : length (root_bytes g d) ≡ 32 * (length (root_clusters g d) * ((lay g d).size / 32))
      entries =
          root-length ∙ ap (λ (x : ℕ). length (root_clusters g d) * x) size_per
          ∙ mul_left_comm (length (root_clusters g d)) 32 ((lay g d).size / 32)

      whole : length (root_bytes g d) ≡ 32 * entry_count (root_bytes g d)
      whole = unfold entry_count in (omega (arith, entries))

  -- the file at a slot
  module _ (j : ℕ) (s : List ℕ) (e : sets (root_bytes g d) j ≡ some s) where
    pub slot_file : file_at g d j ≡ true
    unfolding file_at
    slot_file = (sets-some (root_bytes g d) j s e).0

    pub slot_set : set_of g d j ≡ s
    unfolding set_of
    slot_set = (sets-some (root_bytes g d) j s e).1

    pub slot_stream : stream_at g d j ≡ file_record (lay g d) d s
    unfolding stream_at
    slot_stream = ap (file_record (lay g d) d) slot_set

    pub slot_clusters : file_clusters g d j ≡ clusters_in (lay g d) d (file_record (lay g d) d s)
    unfolding file_clusters
    slot_clusters = ap (clusters_in (lay g d) d) slot_stream

    slot_clear : stream_cause (lay g d) d m (file_record (lay g d) d s) ≡ 0
    slot_clear = ap (stream_cause (lay g d) d m) (sym slot_stream) ∙ c.streams_read j slot_file

    -- its stream reads
    pub slot_number : number_of (stream_of (lay g d) d (file_record (lay g d) d s)) ≡ 0
    slot_number = (stream_clear_lem (lay g d) d m (file_record (lay g d) d s) slot_clear).0

    slot_read : Read (lay g d).count (fat_entry (lay g d) d) (marked (lay g d) d) (file_record (lay g d) d s) (clusters_in (lay g d) d (file_record (lay g d) d s))
    unfolding clusters_in
    slot_read = stream_read (lay g d) d (file_record (lay g d) d s) slot_number

    -- from clusters off the system map
    pub slot_off : (k : ℕ) → Mem k (clusters_in (lay g d) d (file_record (lay g d) d s)) → in_map m k ≡ false
    slot_off = (stream_clear_lem (lay g d) d m (file_record (lay g d) d s) slot_clear).1

    pub slot_plain : every (plain (lay g d)) (clusters_in (lay g d) d (file_record (lay g d) d s)) ≡ true
    slot_plain =
        mem_every (plain (lay g d)) (clusters_in (lay g d) d (file_record (lay g d) d s))
        (λ k i. plain_at (lay g d) k (every_mem (in_heap (lay g d).count) (clusters_in (lay g d) d (file_record (lay g d) d s)) slot_read.heap k i)
        (off_bitmap g m d c.limits_hold k (slot_off k i)))

    -- as many as its length takes
    pub slot_takes : length (clusters_in (lay g d) d (file_record (lay g d) d s)) ≡ clusters_for (lay g d).size (data_length s)
    slot_takes =
        read_length (lay g d).count (fat_entry (lay g d) d) (marked (lay g d) d) (file_record (lay g d) d s) (clusters_in (lay g d) d (file_record (lay g d) d s))
        slot_read
        ∙ record_count (lay g d) d s

    -- and its set is well formed
    pub slot_fit : Fit (lay g d).count (lay g d).size (entries_at (root_bytes g d) j) s
    slot_fit =
        subst (Fit (lay g d).count (lay g d).size (entries_at (root_bytes g d) j)) (sets-some (root_bytes g d) j s e).1
        (file_fit (lay g d).count (lay g d).size (root_bytes g d) ordered j (sets-some (root_bytes g d) j s e).0)

  first : (a : Allocation) → members g d 0 ≡ some a → root g d ≡ a
  first a e = some-injective (root g d) a (sym (member-root g d) ∙ e)

  -- the clusters of the root, and of a slot's file
  in_root : (a : Allocation) → members g d 0 ≡ some a → (k : ℕ) → Mem k (clusters_in (lay g d) d a) → Mem k (root_clusters g d)
  in_root a e k i = unfold root_clusters in (subst (λ (x : Allocation). Mem k (clusters_in (lay g d) d x)) (sym (first a e)) i)

  in_file : (j : ℕ) (a : Allocation) → members g d (suc j) ≡ some a → (k : ℕ) → Mem k (clusters_in (lay g d) d a)
      → (file_at g d j ≡ true) × Mem k (file_clusters g d j)
  in_file j a e k i =
      let r = file-member g d j a e in (
        slot_file j r.0 r.1,
        subst (Mem k) (sym (slot_clusters j r.0 r.1))
            (subst (λ (x : Allocation). Mem k (clusters_in (lay g d) d x)) (sym r.2) i),
      )

  -- all of them read, from clusters that are no bitmap's, and share none
  pub family : Family (lay g d) d (members g d)
  family = record { reads = reads; plains = plains; apart = parts }
    where
      reads : (i : ℕ) (a : Allocation) → members g d i ≡ some a → number_of (stream_of (lay g d) d a) ≡ 0
      reads zero a e = ap (λ (x : Allocation). number_of (stream_of (lay g d) d x)) (sym (first a e)) ∙ root_number
      reads (suc j) a e =
          let r = file-member g d j a e in
          ap (λ (x : Allocation). number_of (stream_of (lay g d) d x)) (sym r.2) ∙ slot_number j r.0 r.1

      plains : (i : ℕ) (a : Allocation) → members g d i ≡ some a → every (plain (lay g d)) (clusters_in (lay g d) d a) ≡ true
      plains zero a e =
          ap (λ (x : Allocation). every (plain (lay g d)) (clusters_in (lay g d) d x)) (sym (first a e)) ∙ (unfold root_clusters in root_plain)
      plains (suc j) a e =
          let r = file-member g d j a e in
          ap (λ (x : Allocation). every (plain (lay g d)) (clusters_in (lay g d) d x)) (sym r.2) ∙ slot_plain j r.0 r.1

      parts : (i j : ℕ) (a b : Allocation) → i ≢ j → members g d i ≡ some a → members g d j ≡ some b → (k : ℕ)
          → Mem k (clusters_in (lay g d) d a) → Mem k (clusters_in (lay g d) d b) → ⊥
      parts zero zero a b n p q k u v = n refl
      parts zero (suc j) a b n p q k u v = let r = in_file j b q k v in c.root_apart j r.0 k r.1 (in_root a p k u)
      parts (suc i) zero a b n p q k u v = let r = in_file i a p k u in c.root_apart i r.0 k r.1 (in_root b q k v)
      parts (suc i) (suc j) a b n p q k u v =
          let r = in_file i a p k u in
          let s = in_file j b q k v in
          c.streams_apart i j r.0 s.0 (λ e. n (ap suc e)) k r.1 s.1

  -- a marked cluster of no stream is of none of them
  pub lost_outside : (k : ℕ) → Lost g d k → Outside (lay g d) d (members g d) k
  lost_outside k l = record { heap = l.heap; mark = l.mark; off = off }
    where
      off : (j : ℕ) (a : Allocation) → members g d j ≡ some a → Mem k (clusters_in (lay g d) d a) → ⊥
      off zero a e i = l.off_root (in_root a e k i)
      off (suc j) a e i = let r = in_file j a e k i in l.off_files j r.0 r.1
