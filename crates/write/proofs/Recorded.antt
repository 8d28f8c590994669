-- The set of a file stored anew for a stream that reads: it is well formed, and its record is the stream's. Assumes nothing.
use mathlib.Core.Path.{◌≡◌, refl, sym, ◌∙◌, ap}
use mathlib.Core.Logic.{◌≢◌}
use mathlib.Core.List.{List}
use Prim.Native.Nat.{ℕ, ◌+◌, ◌^◌, ◌≤◌, ◌<◌}
use native.Mathlib.Decide.{ℕ_discrete}
use native.Mathlib.Nat.{mul-le-mul_right}
use native.Mathlib.Omega.{arith}
use lib.ListN.{length}
use Rattle.boot.specs.declared.layout.Layout.{Layout}
use Rattle.boot.proofs.Apart.{in_heap_lem}
use Rattle.metadata.proofs.Frame.{Fits}
use Rattle.stream.specs.declared.allocation.Allocation.{Allocation}
use Rattle.stream.specs.Chain.{listed}
use Rattle.stream.specs.Stream.{stream_of, empty}
use Rattle.entry_set.specs.declared.stamp.Stamp.{Stamp}
use Rattle.entry_set.specs.Fields.{secondary_count, is_directory, no_fat_chain, valid_length, first_cluster, data_length, clusters_for}
use Rattle.entry_set.proofs.SetLaws.{StreamFits, refreshed-length, refreshed_byte, refreshed-count, refreshed_directory, refreshed-run, refreshed_valid, refreshed_first, refreshed_data, refreshed_formed}
use Rattle.entry_set.proofs.LengthLaws.{clusters_hold, clusters_none, clusters_some}
use Rattle.directory.proofs.FitLaws.{Fit, fit_low}
use Rattle.directory.proofs.CursorLaws.{count_few}
use Rattle.directory.specs.Open.{file_record}
use Rattle.file.specs.Refresh.{entries_of, recorded}
use Rattle.write.proofs.Reading.{number_of_lem, first_heap, run_ends, file_back}

-- whatever the stream, as many bytes
pub recorded-length : (s : List ℕ) (b : Allocation) (valid len : ℕ) (t : Stamp) → length (recorded s b valid len t) ≡ length s
unfolding recorded
recorded-length s b valid len t = refreshed-length s (entries_of s) b.first b.no_fat_chain valid len t

-- and as many entries
pub recorded-entries : (s : List ℕ) (b : Allocation) (valid len : ℕ) (t : Stamp) → entries_of (recorded s b valid len t) ≡ entries_of s
unfolding recorded entries_of
recorded-entries s b valid len t = ap (λ (k : ℕ). 1 + k) (refreshed-count s (1 + secondary_count s) b.first b.no_fat_chain valid len t)

module _ (y : Layout) (d : List ℕ) (w : Fits y d) (b : Allocation) (ks : List ℕ) (e : stream_of y d b ≡ listed ks) (len : ℕ)
    (all : clusters_for y.size len ≡ b.count) (bare : b.count ≡ 0 → b ≡ empty) where
  big : 1 ≤ y.size
  big = let l = w.laid.size_low in omega arith

  few : b.count ≤ y.count
  few = count_few y d w b (number_of_lem y d b ks e)

  -- a length that the heap holds
  pub length_small : len < 2 ^ 64
  length_small =
      let l = w.laid in
      omega (
        arith,
        clusters_hold y.size big len,
        mul-le-mul_right {m = clusters_for y.size len} {n = y.count} y.size (omega (arith, all, few)),
        l.heap_in,
        l.len_high,
      )

  some-count : len ≢ 0 → b.count ≢ 0
  some-count n z = clusters_some y.size big len n (all ∙ z)

  module _ (valid : ℕ) (v : valid ≤ len) where
    pub stream_fits : StreamFits y.count y.size b.first b.no_fat_chain valid len
    stream_fits = record {
      valid_le = v;
      len_lt = length_small;
      first_lt = elim (ℕ_discrete b.count 0) [
        | yes z ↦ (let r : b.first ≡ 0 = ap (λ (x : Allocation). x.first) (bare z) in omega arith)
        | no n ↦ omega (arith, (in_heap_lem y.count b.first (first_heap y d b ks e n)).1, w.laid.count_high)
      ];
      empty = λ z.
          let r : b ≡ empty = bare (sym all ∙ clusters_none y.size big len z) in
          (ap (λ (x : Allocation). x.first) r, ap (λ (x : Allocation). x.no_fat_chain) r);
      in-heap = λ n. first_heap y d b ks e (some-count n);
      room = λ n. omega (arith, all, few);
      end = λ n r. omega (arith, all, run_ends y d b ks e (some-count n) r);
    }

    module _ (n : ℕ) (s : List ℕ) (f : Fit y.count y.size n s) (t : Stamp) where
      pub recorded_fit : Fit y.count y.size n (recorded s b valid len t)
      unfolding recorded
      recorded_fit = record {
        full = refreshed-length s (entries_of s) b.first b.no_fat_chain valid len t ∙ f.full;
        formed = refreshed_formed s (entries_of s) b.first b.no_fat_chain valid len t f.full y.count y.size f.formed
            (unfold entries_of in refl) stream_fits;
        count = ap (λ (x : ℕ). 1 + x) (refreshed-count s (entries_of s) b.first b.no_fat_chain valid len t) ∙ f.count;
        rest = λ k l.
            refreshed_byte s (entries_of s) b.first b.no_fat_chain valid len t k (omega (arith, fit_low y.count y.size n s f))
            ∙ f.rest k l;
      }

      -- its fields
      pub recorded_directory : is_directory (recorded s b valid len t) ≡ is_directory s
      unfolding recorded
      recorded_directory = refreshed_directory s (entries_of s) b.first b.no_fat_chain valid len t f.full

      pub recorded_valid : valid_length (recorded s b valid len t) ≡ valid
      unfolding recorded
      recorded_valid =
          refreshed_valid s (entries_of s) b.first b.no_fat_chain valid len t f.full (omega (arith, length_small))

      pub recorded_data : data_length (recorded s b valid len t) ≡ len
      unfolding recorded
      recorded_data = refreshed_data s (entries_of s) b.first b.no_fat_chain valid len t f.full length_small

      recorded-run : no_fat_chain (recorded s b valid len t) ≡ b.no_fat_chain
      unfolding recorded
      recorded-run = refreshed-run s (entries_of s) b.first b.no_fat_chain valid len t f.full

      recorded_first : first_cluster (recorded s b valid len t) ≡ b.first
      unfolding recorded
      recorded_first = refreshed_first s (entries_of s) b.first b.no_fat_chain valid len t f.full stream_fits.first_lt

      -- its record
      pub recorded_back : file_record y d (recorded s b valid len t) ≡ b
      recorded_back =
          file_back y d (recorded s b valid len t) b ks e recorded_first recorded-run (ap (clusters_for y.size) recorded_data ∙ all) bare
