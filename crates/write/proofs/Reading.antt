-- What holds of a record that reads as a list of clusters, and the records of root and files read back from the volume.
-- Assumes nothing.
use mathlib.Core.Path.{◌≡◌, refl, sym, ◌∙◌, ap, ap₂, subst}
use mathlib.Core.Logic.{◌≢◌}
use mathlib.Core.Bool.{Bool, true, false, ◌&&◌, cond}
use mathlib.Core.List.{[], List, ◌∷◌}
use Prim.Native.Nat.{ℕ, ◌+◌, ◌-◌, ◌*◌, ◌≤◌}
use native.Mathlib.Decide.{ℕ_discrete}
use native.Mathlib.Omega.{arith}
use lib.Dec.{eqb}
use lib.ListN.{length}
use borrow.Author.Tests.{eq-eqb, ne_eqb}
use Rattle.tables.specs.Lists.{Mem, here, Distinct, every, last_or}
use Rattle.tables.proofs.Cases.{clash}
use Rattle.tables.proofs.ListLaws.{every_mem, last_of}
use Rattle.boot.specs.declared.layout.Layout.{Layout}
use Rattle.boot.specs.Layout.{in_heap}
use Rattle.boot.proofs.Apart.{in_heap_lem}
use Rattle.metadata.specs.Fat.{fat_entry}
use Rattle.metadata.specs.Marks.{marked}
use Rattle.metadata.proofs.Frame.{Fits, small}
use Rattle.stream.specs.declared.allocation.Allocation.{Allocation}
use Rattle.stream.specs.Chain.{Clusters, listed, refused, read_chain}
use Rattle.stream.specs.Stream.{number_of, stream_of, check_chain, clusters_of, empty, clusters_in}
use Rattle.stream.specs.Internal.{after, along}
use Rattle.stream.proofs.ChainLaws.{stream_empty, stream_chain}
use Rattle.stream.proofs.StreamLaws.{Read, read_facts, along-step, last_consec}
use Rattle.stream.proofs.Distinct.{read_length, read-run, read_distinct}
use Rattle.stream.proofs.BytesLaws.{length_of}
use Rattle.entry_set.specs.Fields.{no_fat_chain, first_cluster, data_length, clusters_for}
use Rattle.directory.specs.Directory.{chain_record, root_record}
use Rattle.stream.specs.Bytes.{bytes_in}
use Rattle.directory.specs.Open.{file_record}
use Rattle.file.proofs.RefreshLaws.{stream_is}

-- ---- a record that is not refused

module _ (y : Layout) (d : List ℕ) (a : Allocation) where
  -- its clusters, from the list that it reads as
  pub clusters_of_lem : (ks : List ℕ) → stream_of y d a ≡ listed ks → clusters_in y d a ≡ ks
  unfolding clusters_in
  clusters_of_lem ks e = ap clusters_of e

  pub number_of_lem : (ks : List ℕ) → stream_of y d a ≡ listed ks → number_of (stream_of y d a) ≡ 0
  number_of_lem ks e = ap number_of e ∙ (unfold number_of in refl)

  pub reads_as : number_of (stream_of y d a) ≡ 0 → stream_of y d a ≡ listed (clusters_in y d a)
  unfolding clusters_in
  reads_as e = stream_is y d a e

  -- count 0 has no clusters, whatever the rest
  pub empty-reads : a.count ≡ 0 → stream_of y d a ≡ listed []
  unfolding stream_of
  empty-reads z = stream_empty y.count (fat_entry y d) (marked y d) a z

module _ (y : Layout) (d : List ℕ) (a : Allocation) (e : number_of (stream_of y d a) ≡ 0) where
  pub reads : Read y.count (fat_entry y d) (marked y d) a (clusters_in y d a)
  reads = read_facts y.count (fat_entry y d) (marked y d) a (clusters_in y d a) (unfold stream_of in (reads_as y d a e))

  pub clusters_marked : every (marked y d) (clusters_in y d a) ≡ true
  clusters_marked = reads.marks

  pub clusters_distinct : Fits y d → Distinct (clusters_in y d a)
  clusters_distinct w = read_distinct y.count (fat_entry y d) (marked y d) a (small y d w) (clusters_in y d a) reads

  pub bytes_length : Fits y d → length (bytes_in y d a) ≡ length (clusters_in y d a) * y.size
  unfolding bytes_in
  bytes_length w = length_of y d w (clusters_in y d a) reads.heap

-- ---- a record that reads as some clusters

-- a chain that its record lists is listed by the walk
check_listed : (mark : ℕ → Bool) (last count : ℕ) (c : Clusters) (ks : List ℕ) → check_chain mark last count c ≡ listed ks → c ≡ listed ks
unfolding check_chain
check_listed mark last count (refused n) ks e = clash (cc)
check_listed mark last count (listed l) ks e = by (eqb (length l) count && eqb (last_or 0 l) last) (every mark l) e
  where
    by : (p q : Bool) → cond p (cond q (listed l) (refused 6)) (refused 5) ≡ listed ks → listed l ≡ listed ks
    by true true r = r
    by true false r = clash (cc)
    by false q r = clash (cc)

module _ (y : Layout) (d : List ℕ) (a : Allocation) (ks : List ℕ) (e : stream_of y d a ≡ listed ks) where
  read_of : Read y.count (fat_entry y d) (marked y d) a ks
  read_of = read_facts y.count (fat_entry y d) (marked y d) a ks (unfold stream_of in e)

  pub count_is : a.count ≡ length ks
  count_is = sym (read_length y.count (fat_entry y d) (marked y d) a ks read_of)

  module _ (some : a.count ≢ 0) where
    starts : (rest : List ℕ) × (ks ≡ a.first ∷ rest)
    starts = (
      along (fat_entry y d) a.no_fat_chain (after (fat_entry y d) a.no_fat_chain a.first) (a.count - 1),
      read_of.goes ∙ along-step (fat_entry y d) a.no_fat_chain a.first a.count (omega arith),
    )

    first_mem : Mem a.first ks
    first_mem = subst (Mem a.first) (sym starts.1) (here refl)

    pub first_heap : in_heap y.count a.first ≡ true
    first_heap = every_mem (in_heap y.count) ks read_of.heap a.first first_mem

    pub last_is : last_or 0 ks ≡ a.last
    last_is = read_of.last some 0

    last_heap : in_heap y.count a.last ≡ true
    last_heap =
        ap (in_heap y.count) (sym last_is)
        ∙ every_mem (in_heap y.count) ks read_of.heap (last_or 0 ks) (last_of 0 ks (omega (arith, count_is)))

    -- a run's last, and where a run ends
    pub run_last : a.no_fat_chain ≡ true → a.last + 1 ≡ a.first + a.count
    run_last t =
        omega (
          arith,
          last_is,
          ap (last_or 0) (read-run y.count (fat_entry y d) (marked y d) a ks read_of t),
          last_consec 0 a.first a.count some,
        )

    pub run_ends : a.no_fat_chain ≡ true → a.first + a.count ≤ y.count + 2
    run_ends t = omega (arith, run_last t, (in_heap_lem y.count a.last last_heap).1)

    -- a chain is what the walk of the FAT finds
    pub chain-reads : a.no_fat_chain ≡ false → read_chain y.count (fat_entry y d) a.first ≡ listed ks
    chain-reads t =
        check_listed (marked y d) a.last a.count _ ks
        (sym (stream_chain y.count (fat_entry y d) (marked y d) a some t) ∙ (unfold stream_of in e))

-- ---- the root's record

-- a chain's record is read back from its first cluster
pub root_back : (y : Layout) (d : List ℕ) (a : Allocation) (ks : List ℕ) → stream_of y d a ≡ listed ks → a.no_fat_chain ≡ false
    → a.count ≢ 0 → root_record y d a.first ≡ a
unfolding root_record
root_back y d a ks e t some =
    ap (chain_record a.first) (chain-reads y d a ks e some t)
    ∙ (unfold chain_record in
    (λ i. record {
      first = a.first;
      last = last_is y d a ks e some i;
      count = sym (count_is y d a ks e) i;
      no_fat_chain = sym t i;
    }))

-- ---- a file's record

module _ (y : Layout) (d : List ℕ) (s : List ℕ) where
  pub record_empty : clusters_for y.size (data_length s) ≡ 0 → file_record y d s ≡ empty
  unfolding file_record
  record_empty e = rw (eq-eqb (clusters_for y.size (data_length s)) 0 e) refl

  -- its fields, if it has clusters
  module _ (n : clusters_for y.size (data_length s) ≢ 0) where
    pub record_first : (file_record y d s).first ≡ first_cluster s
    unfolding file_record
    record_first = rw (ne_eqb (clusters_for y.size (data_length s)) 0 n) refl

    pub record_run : (file_record y d s).no_fat_chain ≡ no_fat_chain s
    unfolding file_record
    record_run = rw (ne_eqb (clusters_for y.size (data_length s)) 0 n) refl

    record_some : (file_record y d s).count ≡ clusters_for y.size (data_length s)
    unfolding file_record
    record_some = rw (ne_eqb (clusters_for y.size (data_length s)) 0 n) refl

  pub record_count : (file_record y d s).count ≡ clusters_for y.size (data_length s)
  record_count =
      elim (ℕ_discrete (clusters_for y.size (data_length s)) 0) [
        | yes e ↦ ap (λ (a : Allocation). a.count) (record_empty e) ∙ sym e
        | no n ↦ record_some n
      ]

-- the record of a set that has its first cluster, its flag and a length that takes its count
pub file_back : (y : Layout) (d s : List ℕ) (b : Allocation) (ks : List ℕ) → stream_of y d b ≡ listed ks
    → first_cluster s ≡ b.first → no_fat_chain s ≡ b.no_fat_chain → clusters_for y.size (data_length s) ≡ b.count
    → (b.count ≡ 0 → b ≡ empty) → file_record y d s ≡ b
unfolding file_record
file_back y d s b ks e first flag count none =
    elim (ℕ_discrete b.count 0) [
      | yes z ↦ rw (eq-eqb (clusters_for y.size (data_length s)) 0 (count ∙ z)) (sym (none z))
      | no some ↦ rw (ne_eqb (clusters_for y.size (data_length s)) 0 (λ z. some (sym count ∙ z)))
          (λ i. record { first = first i; last = last some i; count = count i; no_fat_chain = flag i })
    ]
  where
    last : b.count ≢ 0
        → cond (no_fat_chain s) (first_cluster s + clusters_for y.size (data_length s) - 1) (last_or 0 (clusters_of (read_chain y.count (fat_entry y d) (first_cluster s))))
        ≡ b.last
    last some =
        ap₂ (λ (f n : ℕ). cond (no_fat_chain s) (f + n - 1) (last_or 0 (clusters_of (read_chain y.count (fat_entry y d) f)))) first count
        ∙ by b.no_fat_chain refl
      where
        by : (t : Bool) → b.no_fat_chain ≡ t
            → cond (no_fat_chain s) (b.first + b.count - 1) (last_or 0 (clusters_of (read_chain y.count (fat_entry y d) b.first))) ≡ b.last
        by true t = rw (flag ∙ t) (omega (arith, run_last y d b ks e some t))
        by false t =
            rw (flag ∙ t) (ap (λ (c : Clusters). last_or 0 (clusters_of c)) (chain-reads y d b ks e some t) ∙ last_is y d b ks e some)

-- a stream that reads in two volumes as the same clusters has one record in both
pub record_same : (y : Layout) (d d' : List ℕ) (s : List ℕ) → number_of (stream_of y d (file_record y d s)) ≡ 0
    → stream_of y d' (file_record y d s) ≡ stream_of y d (file_record y d s) → file_record y d' s ≡ file_record y d s
record_same y d d' s r e =
    elim (ℕ_discrete (clusters_for y.size (data_length s)) 0) [
      | yes z ↦ record_empty y d' s z ∙ sym (record_empty y d s z)
      | no n ↦ file_back y d' s (file_record y d s) (clusters_in y d (file_record y d s)) (e ∙ reads_as y d (file_record y d s) r)
          (sym (record_first y d s n)) (sym (record_run y d s n)) (sym (record_count y d s)) (λ z. absurd (n (sym (record_count y d s) ∙ z)))
    ]
