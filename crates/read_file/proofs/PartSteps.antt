-- The part of the volume that a read gives, as the code finds it. Assumes nothing.
use mathlib.Core.Path.{◌≡◌, refl, sym, ◌∙◌, ap, ap₂}
use mathlib.Core.Bool.{Bool, true, false}
use mathlib.Core.List.{List}
use Prim.Native.Nat.{ℕ, suc, ◌+◌, ◌-◌, ◌*◌, ◌/◌, ◌%◌, ◌≤◌, ◌<◌, min}
use native.Mathlib.Nat.{suc-mul, add-mul, mul-le-mul_right, div-add-mod', mod-lt}
use native.Mathlib.Decide.{dec_le, ℕ_discrete}
use native.Mathlib.Omega.{arith}
use lib.ListN.{get_or, take, drop}
use lib.Seq.{get_or-drop}
use Rattle.tables.specs.Lists.{every}
use Rattle.boot.specs.declared.layout.Layout.{Layout}
use Rattle.boot.specs.Internal.{Laid}
use Rattle.boot.specs.Layout.{cluster_at, in_heap}
use Rattle.boot.proofs.Apart.{in_heap_lem}
use Rattle.boot.proofs.Clusters.{cluster_in}
use Rattle.metadata.specs.Fat.{fat_entry}
use Rattle.stream.specs.declared.allocation.Allocation.{Allocation}
use Rattle.stream.specs.Internal.{along, reached}
use Rattle.stream.specs.Stream.{number_of, stream_of, clusters_in}
use Rattle.stream.specs.Pieces.{leading}
use Rattle.stream.proofs.StreamLaws.{length-along, along_head}
use Rattle.stream.proofs.BytesSteps.{every_take, every_drop, drop-along, take-along}
use Rattle.stream.proofs.RowLaws.{row_at}
use Rattle.stream.proofs.PieceLaws.{leading_short, leading-some, leading_at}
use Rattle.entry_set.specs.Fields.{valid_length, data_length, clusters_for}
use Rattle.entry_set.proofs.LengthLaws.{clusters_hold}
use Rattle.entry_set.proofs.SoundLaws.{Lengths}
use Rattle.entry_set.proofs.SetLaws.{formed_lengths}
use Rattle.directory.proofs.DirectoryLaws.{clusters_along, clusters_heap}
use Rattle.directory.proofs.CursorLaws.{along_at, reached_heap}
use Rattle.directory.specs.Open.{file_record}
use Rattle.directory.proofs.FileLaws.{record_count}
use Rattle.read_file.specs.Part.{no_part, stored_part, zero_part}
use Rattle.read_file.specs.Read.{file_part}
use Rattle.read_file.specs.Internal.{Readable}
use Rattle.read_file.proofs.PartLaws.{stored_len, part_stored, part_zeros, part_none}

module _ (y : Layout) (d : List ℕ) (l : Laid y) (a : Allocation) (reads : number_of (stream_of y d a) ≡ 0) (valid offset : ℕ) (low : offset < valid)
    (high : valid ≤ a.count * y.size) where
  abbrev size : ℕ
  size = y.size

  abbrev fat : ℕ → ℕ
  fat = fat_entry y d

  abbrev run : Bool
  run = a.no_fat_chain

  abbrev ks : List ℕ
  ks = clusters_in y d a

  abbrev s : ℕ
  s = offset / y.size

  abbrev at : ℕ
  at = offset % y.size

  abbrev e : ℕ
  e = (valid - 1) / y.size

  -- how many clusters are looked at: from the offset's to that of the last valid byte
  abbrev n : ℕ
  n = (valid - 1) / y.size + 1 - offset / y.size

  place : s * size + at ≡ offset
  place = div-add-mod' offset size

  pub place_low : offset % y.size < y.size
  place_low = mod-lt offset {m = size} (omega (arith, l.size_low))

  end : e * size + (valid - 1) % size ≡ valid - 1
  end = div-add-mod' (valid - 1) size

  end_low : (valid - 1) % size < size
  end_low = mod-lt (valid - 1) {m = size} (omega (arith, l.size_low))

  not_past : s ≤ e
  not_past =
      elim (dec_le s e) [
        | yes b ↦ b
        | no b ↦ absurd (omega (arith, place, end, end_low, suc-mul e size, mul-le-mul_right {m = suc e} {n = s} size (omega arith)))
      ]

  inside : e < a.count
  inside =
      elim (dec_le a.count e) [
        | yes b ↦ absurd (omega (arith, end, mul-le-mul_right {m = a.count} {n = e} size b))
        | no b ↦ omega arith
      ]

  pub reach_sub : offset / y.size ≤ (valid - 1) / y.size + 1
  reach_sub = omega (arith, not_past)

  pub reach_some : 1 ≤ (valid - 1) / y.size + 1 - offset / y.size
  reach_some = omega (arith, not_past)

  pub reach_count : (valid - 1) / y.size + 1 ≤ a.count
  reach_count = omega (arith, inside)

  reach_holds : valid - offset ≤ n * size - at
  reach_holds =
      let c : n + s ≡ suc e = omega (arith, not_past) in
      omega (arith, place, end, end_low, suc-mul e size, sym (add-mul n s size) ∙ ap (λ (x : ℕ). x * size) c)

  module _ (k : ℕ) (q : k ≡ get_or (clusters_in y d a) (offset / y.size) 0) where
    first_is : k ≡ reached fat run a.first s
    first_is =
        q ∙ ap (λ (js : List ℕ). get_or js s 0) (clusters_along y d a reads) ∙ along_at fat run a.first a.count s (omega (arith, not_past, inside))

    rest_is : drop s ks ≡ along fat run k (a.count - s)
    rest_is =
        ap (drop s) (clusters_along y d a reads) ∙ drop-along fat run s a.first a.count
        ∙ ap (λ (j : ℕ). along fat run j (a.count - s)) (sym first_is)

    some_is : take n (drop s ks) ≡ along fat run k n
    some_is = ap (take n) rest_is ∙ take-along fat run n k (a.count - s) (omega (arith, not_past, inside))

    pub reach_heap : every (in_heap y.count) (along (fat_entry y d) a.no_fat_chain k ((valid - 1) / y.size + 1 - offset / y.size)) ≡ true
    reach_heap =
        ap (every (in_heap y.count)) (sym some_is)
        ∙ every_take (in_heap y.count) n (drop s ks) (every_drop (in_heap y.count) s ks (clusters_heap y d a reads))

    pub first_in : (2 ≤ k) × (k < y.count + 2)
    first_in = in_heap_lem y.count k (along_head (in_heap y.count) fat run k n (omega (arith, reach_some)) reach_heap)

    module _ (t : ℕ) (u : t ≡ leading (along (fat_entry y d) a.no_fat_chain k ((valid - 1) / y.size + 1 - offset / y.size))) where
      pub piece_some : 1 ≤ t
      piece_some = omega (arith, u, leading-some (along fat run k n) (omega (arith, length-along fat run k n, reach_some)))

      pub piece_short : t ≤ (valid - 1) / y.size + 1 - offset / y.size
      piece_short = omega (arith, u, leading_short (along fat run k n), length-along fat run k n)

      -- the last cluster of the piece
      last_is : reached fat run k (t - 1) ≡ k + (t - 1)
      last_is =
          sym (along_at fat run k n (t - 1) (omega (arith, piece_some, piece_short)))
          ∙ leading_at (along fat run k n) (t - 1) (omega (arith, piece_some, u))
          ∙ ap (λ (j : ℕ). j + (t - 1)) (along_at fat run k n 0 (omega (arith, reach_some)) ∙ (unfold reached in refl))

      pub piece_inside : cluster_at y k + t * y.size ≤ y.len
      piece_inside =
          let h = in_heap_lem y.count (reached fat run k (t - 1)) (reached_heap fat run y.count k n (t - 1) reach_heap (omega (arith, piece_some, piece_short))) in
          let c : suc (t - 1) ≡ t = omega (arith, piece_some) in
          let b : cluster_at y (k + (t - 1)) + size ≤ y.len = unfold cluster_at in (cluster_in y (k + (t - 1)) l (omega (arith, first_in.0)) (omega (arith, last_is, h.1))) in
          omega (arith, b, row_at y (t - 1) k first_in.0, suc-mul (t - 1) size, ap (λ (x : ℕ). x * size) c)

      pub part_is : (len : ℕ) → len ≡ min (valid - offset) (t * y.size - offset % y.size)
          → record { zeros = false; start = cluster_at y k + offset % y.size; len = len } ≡ stored_part y (clusters_in y d a) valid offset
      unfolding stored_part
      part_is len v =
          let z : s + 0 ≡ s = omega arith in
          let b : k ≡ get_or (drop s ks) 0 0 = q ∙ sym (get_or-drop s ks 0 0 ∙ ap (λ (i : ℕ). get_or ks i 0) z) in
          let c : t ≡ leading (take n (drop s ks)) = u ∙ ap leading (sym some_is) in
          let f : len ≡ min (valid - offset) (leading (drop s ks) * size - at) =
          v ∙ ap (λ (x : ℕ). min (valid - offset) (x * size - at)) c ∙ stored_len (drop s ks) n size at (valid - offset) reach_holds in
          ap₂ (λ (j x : ℕ). record { zeros = false; start = cluster_at y j + at; len = x }) b f

-- ---- what is known of a file that is read

module _ (y : Layout) (l : Laid y) (d s : List ℕ) (b : Allocation) (k offset : ℕ) (r : Readable y d s b k offset) where
  lengths : Lengths y.count y.size s
  lengths = formed_lengths y.count y.size s r.formed

  valid_low : valid_length s ≤ data_length s
  valid_low = lengths.valid

  holds : data_length s ≤ clusters_for y.size (data_length s) * y.size
  holds = clusters_hold y.size (omega (arith, l.size_low)) (data_length s)

  pub valid_room : valid_length s ≤ b.count * y.size
  valid_room =
      omega (arith, valid_low, holds, ap (λ (n : ℕ). n * y.size) (ap (λ (x : Allocation). x.count) r.stream ∙ record_count y d s))

  -- no byte of it is past the volume
  pub length_high : data_length s ≤ y.len
  length_high =
      elim (ℕ_discrete (data_length s) 0) [
        | yes e ↦ omega arith
        | no e ↦
            omega (arith, holds, l.heap_in, mul-le-mul_right {m = clusters_for y.size (data_length s)} {n = y.count} y.size (lengths.room e))
      ]

  module _ (zeros : ℕ) where
    clusters_are : clusters_in y d b ≡ clusters_in y d (file_record y d s)
    clusters_are = ap (clusters_in y d) r.stream

    pub file-stored : offset < valid_length s → stored_part y (clusters_in y d b) (valid_length s) offset ≡ file_part y d s zeros offset
    unfolding file_part
    file-stored h =
        ap (λ (ks : List ℕ). stored_part y ks (valid_length s) offset) clusters_are
        ∙ sym (part_stored y (clusters_in y d (file_record y d s)) (valid_length s) (data_length s) zeros offset h)

    pub file_zeros : valid_length s ≤ offset → offset < data_length s → zero_part (data_length s) zeros offset ≡ file_part y d s zeros offset
    unfolding file_part
    file_zeros v h = sym (part_zeros y (clusters_in y d (file_record y d s)) (valid_length s) (data_length s) zeros offset v h)

    pub file_past : valid_length s ≤ offset → data_length s ≤ offset → no_part ≡ file_part y d s zeros offset
    unfolding file_part
    file_past v h = sym (part_none y (clusters_in y d (file_record y d s)) (valid_length s) (data_length s) zeros offset v h)
