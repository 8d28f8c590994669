-- Bytes stored over the set at a slot of the root, and then the set's stream cut: the change of that one slot. Assumes nothing.
use mathlib.Core.Path.{◌≡◌, refl, sym, ◌∙◌, ap, ap₂, subst}
use mathlib.Core.Bool.{false}
use mathlib.Core.List.{List}
use mathlib.Core.Option.{Option, some}
use Prim.Native.Nat.{ℕ, suc, ◌+◌, ◌-◌, ◌*◌, ◌≤◌}
use native.Mathlib.Omega.{arith}
use lib.ListN.{length, take}
use lib.Seq.{length-take-le}
use Rattle.primitives.specs.Splice.{splice}
use Rattle.tables.specs.Table.{upd}
use Rattle.tables.specs.Lists.{Mem}
use Rattle.tables.proofs.TableLaws.{upd_same, upd_other}
use Rattle.boot.specs.declared.geometry.Geometry.{Geometry}
use Rattle.boot.specs.declared.layout.Layout.{Layout}
use Rattle.boot.specs.Limits.{in_map}
use Rattle.metadata.proofs.Frame.{Fits, fits_kept}
use Rattle.metadata.proofs.Counting.{marked_count}
use Rattle.stream.specs.declared.allocation.Allocation.{Allocation}
use Rattle.stream.specs.Stream.{stream_of, clusters_in}
use Rattle.stream.specs.Bytes.{store_at, bytes_in}
use Rattle.entry_set.specs.Fields.{data_length, clusters_for}
use Rattle.write_shrink.specs.Shrink.{kept_record, shrink_in}
use Rattle.directory.specs.Entries.{entries_at}
use Rattle.directory.specs.Internal.{sets}
use Rattle.directory.proofs.FitLaws.{Fit, fit_high}
use Rattle.directory.proofs.OrderedLaws.{Ordered, file_room}
use Rattle.directory.proofs.StoreLaws.{sets-some}
use Rattle.directory.specs.Open.{file_record}
use Rattle.file.specs.Refresh.{entries_of, open_cause}
use Rattle.write.specs.Consistent.{Consistent, lay, root, root_clusters, root_bytes, set_of}
use Rattle.write.specs.Demand.{entries_put}
use Rattle.write.proofs.Family.{Moved, Stored, same_clusters, moved_clusters, kept_member, store_member}
use Rattle.write.proofs.Resized.{Shorter, cut-member}
use Rattle.write.proofs.Scene.{members, member-root, member-file, fits, root_again, root-length, ordered, slot_off, slot_fit, slot_takes, family}
use Rattle.write.proofs.Change.{Change, takes}
use Rattle.write.proofs.Moves.{no_zeros, take_whole, moves_none, moves_root, moves_file, change_of}
use Rattle.write.proofs.Open.{open_hint, open_set}

module _ (g : Geometry) (m d : List ℕ) (c : Consistent g m d) (i hint : ℕ) (e : open_cause (lay g d) d m (root g d) i hint ≡ 0) (x : List ℕ)
    (full : length x ≡ 608) (keep : ℕ) where
  abbrev y : Layout
  y = lay g d

  abbrev S : ℕ → Option Allocation
  S = members g d

  -- with the root, stored in
  abbrev T : ℕ → Option Allocation
  T = upd (members g d) 0 (some (root g d))

  abbrev s : List ℕ
  s = set_of g d i

  abbrev b : Allocation
  b = file_record (lay g d) d (set_of g d i)

  abbrev n : ℕ
  n = entries_of (set_of g d i)

  abbrev part : List ℕ
  part = take (32 * entries_of (set_of g d i)) x

  abbrev d₁ : List ℕ
  d₁ = store_at (lay g d) d (clusters_in (lay g d) d (root g d)) (32 * i) (take (32 * entries_of (set_of g d i)) x)

  abbrev d₂ : List ℕ
  d₂ = (shrink_in y d₁ m b keep hint).volume

  own : sets (root_bytes g d) i ≡ some s
  own = open_set g m d i hint e

  fit : Fit y.count y.size (entries_at (root_bytes g d) i) s
  fit = slot_fit g m d c i s own

  pub open_entries : entries_of (set_of g d i) ≡ entries_at (root_bytes g d) i
  unfolding entries_of
  open_entries = fit.count

  room : 32 * i + length part ≤ length (clusters_in y d (root g d)) * y.size
  unfolding root_bytes root_clusters
  room =
      omega (
        arith,
        open_entries,
        length-take-le (32 * n) x (omega (arith, full, open_entries, fit_high y.count y.size (entries_at (root_bytes g d) i) s fit)),
        file_room y.count y.size (root_bytes g d) (ordered g m d c) i (sets-some (root_bytes g d) i s own).0,
        (ordered g m d c).whole,
        root-length g m d c,
      )

  -- the root with the bytes
  stored : Stored y d d₁ S 0 (root g d) (32 * i) part
  stored = store_member y d (fits g m d c) S (family g m d c) 0 (root g d) (member-root g d) (32 * i) part room

  fits₁ : Fits y d₁
  fits₁ = fits_kept y d d₁ stored.moved.long (fits g m d c)

  bytes₁ : bytes_in y d₁ (root g d) ≡ splice (root_bytes g d) (32 * i) part
  unfolding root_bytes
  bytes₁ = stored.bytes

  file : S (suc i) ≡ some b
  file = member-file g d i s own

  file₁ : T (suc i) ≡ some b
  file₁ = kept_member S 0 (some (root g d)) (suc i) b (λ q. omega arith) file

  clusters₁ : clusters_in y d₁ b ≡ clusters_in y d b
  clusters₁ = moved_clusters y d d₁ S 0 (some (root g d)) stored.moved (suc i) b (λ q. omega arith) file

  -- the stream cut
  shorter₁ : Shorter y d₁ T (suc i) b keep d₂ (kept_record b (take keep (clusters_in y d₁ b)))
  shorter₁ =
      cut-member y d₁ m fits₁ T stored.moved.family (suc i) b file₁ keep hint (open_hint g m d i hint e)
      (λ k q. slot_off g m d c i s own k (subst (Mem k) clusters₁ q))

  pub cut-shorter : Shorter y d₁ T (suc i) b keep d₂ (kept_record b (take keep (clusters_in y d b)))
  cut-shorter = subst (λ (l : List ℕ). Shorter y d₁ T (suc i) b keep d₂ (kept_record b (take keep l))) clusters₁ shorter₁

  pub cut_clusters : clusters_in y d₂ (kept_record b (take keep (clusters_in y d b))) ≡ take keep (clusters_in y d b)
  cut_clusters = cut-shorter.clusters ∙ ap (take keep) clusters₁

  pub cut_bytes : bytes_in y d₂ (kept_record b (take keep (clusters_in y d b))) ≡ take (keep * y.size) (bytes_in y d b)
  cut_bytes = cut-shorter.bytes ∙ ap (take (keep * y.size)) (stored.moved.bytes (suc i) b (λ q. omega arith) file)

  -- the marks of the others go
  pub cut_marks : marked_count y d₂ + (takes y (sets (root_bytes g d) i) - keep) ≡ marked_count y d
  cut_marks =
      let t : takes y (sets (root_bytes g d) i) ≡ takes y (some s) = ap (takes y) own in
      let u : takes y (some s) ≡ clusters_for y.size (data_length s) = unfold takes in refl in
      omega (
        arith,
        cut-shorter.marks,
        stored.marks,
        ap length clusters₁,
        slot_takes g m d c i s own,
      )

  pub cut_fits : Fits y d₂
  cut_fits = fits_kept y d₁ d₂ cut-shorter.moved.long fits₁

  -- what stands at the slot and in the family decides the rest
  module _ (o : Option (List ℕ)) (p : Option Allocation) (v : Moved y d₁ d₂ T (suc i) p) where
    root_stream : stream_of y d₂ (root g d) ≡ stream_of y d (root g d)
    root_stream = v.streams 0 (root g d) (λ q. omega arith) (upd_same S 0 (some (root g d))) ∙ stored.stream

    root_bytes_are : bytes_in y d₂ (root g d) ≡ splice (root_bytes g d) (32 * i) part
    root_bytes_are = v.bytes 0 (root g d) (λ q. omega arith) (upd_same S 0 (some (root g d))) ∙ bytes₁

    pub cut_change : ((bs : List ℕ) → bs ≡ splice (root_bytes g d) (32 * i) part → Ordered y.count y.size bs)
        → ((bs : List ℕ) → bs ≡ splice (root_bytes g d) (32 * i) part → (j : ℕ) → sets bs j ≡ upd (sets (root_bytes g d)) i o j)
        → entries_put (set_of g d i) o ≡ part
        → ((s' : List ℕ) → o ≡ some s' → p ≡ some (file_record y d₂ s'))
        → ((s' : List ℕ) → o ≡ some s' → (k : ℕ) → Mem k (clusters_in y d₂ (file_record y d₂ s')) → in_map m k ≡ false)
        → marked_count y d₂ + takes y (sets (root_bytes g d) i) ≡ marked_count y d + takes y o
        → Change g m d d₂ 0 i o
    unfolding root_clusters
    cut_change in_order table put own_member off_map marks =
        change_of g m d d₂ 0 i o (root g d) (upd T (suc i) p)
        (moves_file y d d₁ d₂ S T i (moves_root y d d d₁ S S i (moves_none y d S i (family g m d c)) (some (root g d)) stored.moved) p v)
        (root_again g m d c d₂ root_stream)
        (upd_other T (suc i) p 0 (λ q. omega arith) ∙ upd_same S 0 (some (root g d)))
        (in_order (bytes_in y d₂ (root g d)) root_bytes_are)
        (table (bytes_in y d₂ (root g d)) root_bytes_are)
        (root_bytes_are ∙ ap₂ (λ (l x : List ℕ). splice l (32 * i) x) (sym (no_zeros (root_bytes g d) y.size)) (sym put))
        (ap (take (length (clusters_in y d (root g d)))) (same_clusters y d d₂ (root g d) root_stream) ∙ take_whole (clusters_in y d (root g d)))
        (λ s' q. upd_same T (suc i) p ∙ own_member s' q)
        off_map
        (omega (arith, marks, ap length (same_clusters y d d₂ (root g d) root_stream)))
