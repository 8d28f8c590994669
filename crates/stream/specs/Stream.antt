-- A stream record read as its clusters, or the number of what refuses it (01, "Streams").
use Rattle.std.specs.Prelude.{Bool, false, ◌&&◌, not, cond, List, [], ℕ, zero, suc, ◌+◌, eqb, length}
use Rattle.tables.specs.Lists.{every, last_or, consec}
use Rattle.boot.specs.declared.layout.Layout.{Layout}
use Rattle.boot.specs.Limits.{in_map}
use Rattle.boot.specs.Layout.{in_heap}
use Rattle.metadata.specs.Fat.{fat_entry}
use Rattle.metadata.specs.Marks.{marked}
use Rattle.stream.specs.declared.allocation.Allocation.{Allocation}
use Rattle.stream.specs.Chain.{Clusters, listed, refused, read_chain}

-- the number of a refusal, 0 for a list
unfoldable pub number_of : Clusters → ℕ
number_of (listed ks) = 0
number_of (refused n) = n

-- the clusters of a stream that is not refused
abbrev pub clusters_of : Clusters → List ℕ
clusters_of (listed ks) = ks
clusters_of (refused n) = []

-- the n clusters from k, in order: the earliest that is outside the heap gives 2, that is not marked gives 6
unfoldable pub run_cause : ℕ → (ℕ → Bool) → ℕ → ℕ → ℕ
run_cause C mark k zero = 0
run_cause C mark k (suc n) = cond (in_heap C k) (cond (mark k) (run_cause C mark (k + 1) n) 6) 2

-- a run: last - first + 1 = count, else 5; then 2 or 6
unfoldable pub read_run : (C : ℕ) (mark : ℕ → Bool) (first last count : ℕ) → Clusters
read_run C mark first last count =
    cond (eqb (last + 1) (first + count))
    (cond (eqb (run_cause C mark first count) 0) (listed (consec first count)) (refused (run_cause C mark first count)))
    (refused 5)

-- a chain walked whole: count and last are the chain's, else 5; all clusters are marked, else 6
unfoldable pub check_chain : (ℕ → Bool) → ℕ → ℕ → Clusters → Clusters
check_chain mark last count (refused n) = refused n
check_chain mark last count (listed ks) =
    cond (eqb (length ks) count && eqb (last_or 0 ks) last) (cond (every mark ks) (listed ks) (refused 6)) (refused 5)

-- a record's clusters, by FAT entries and marks; count 0 is empty whatever the rest
unfoldable pub read_stream : ℕ → (ℕ → ℕ) → (ℕ → Bool) → Allocation → Clusters
read_stream C fat mark a =
    cond (eqb a.count 0) (listed [])
    (cond a.no_fat_chain (read_run C mark a.first a.last a.count)
    (check_chain mark a.last a.count (read_chain C fat a.first)))

-- a record's clusters on a volume
unfoldable pub stream_of : Layout → List ℕ → Allocation → Clusters
stream_of y d a = read_stream y.count (fat_entry y d) (marked y d) a

-- a stream's clusters, none where it is refused
unfoldable pub clusters_in : Layout → List ℕ → Allocation → List ℕ
clusters_in y d a = clusters_of (stream_of y d a)

-- a newly made empty record: 0 throughout, flag clear
abbrev pub empty : Allocation
empty = record { first = 0; last = 0; count = 0; no_fat_chain = false }

-- 9: a system cluster among those of a list
unfoldable pub system_cause : (m ks : List ℕ) → ℕ
system_cause m ks = cond (every (λ k. not (in_map m k)) ks) 0 9
