-- What an accepted call that adds clusters does, in 01's words ("Allocate", "Extend"): which clusters, how the stream reads then, what is
-- marked, what stays, the hint.
use Rattle.std.specs.Prelude.{◌≡◌, ◌≢◌, Bool, true, List, [], ◌++◌, ℕ, ◌+◌, ◌*◌, ◌<◌, length, get_or}
use Rattle.tables.specs.Lists.{Mem, last_or}
use Rattle.boot.specs.declared.layout.Layout.{Layout}
use Rattle.boot.specs.Geometry.{bitmap_bytes}
use Rattle.boot.specs.Layout.{in_heap}
use Rattle.metadata.specs.Marks.{marked}
use Rattle.metadata.specs.Usable.{is_usable}
use Rattle.kept.specs.Copies.{fat0_at, fat1_at, bitmap0_at, bitmap1_at, Twins}
use Rattle.stream.specs.Chain.{listed}
use Rattle.stream.specs.Stream.{stream_of}
use Rattle.choice_claim.specs.Picked.{Picked}
use Rattle.write_alloc.specs.Outcome.{Outcome}
use Rattle.boot.specs.Causes.{wrap}

-- byte p is of no bitmap
abbrev pub OffBitmaps : Layout → ℕ → Type 0
OffBitmaps y p = (i : ℕ) → i < bitmap_bytes y.count → (p ≢ y.bitmap0 + i) × (p ≢ y.bitmap1 + i)

-- byte p is of no FAT entry of a cluster of ks, in either FAT
abbrev pub OffEntries : Layout → List ℕ → ℕ → Type 0
OffEntries y ks p = (k r : ℕ) → Mem k ks → r < 4 → (p ≢ y.fat0 + 4 * k + r) × (p ≢ y.fat1 + 4 * k + r)

-- entry k is in e what it is in d, in either FAT
abbrev pub EntryKept : (y : Layout) (d e : List ℕ) (k : ℕ) → Type 0
EntryKept y d e k = (fat0_at y e k ≡ fat0_at y d k) × (fat1_at y e k ≡ fat1_at y d k)

-- outcome o adds n clusters, sought from start, to a record that reads as the clusters `old` on volume d
pub record Adds (y : Layout) (d m old : List ℕ) (n start : ℕ) (o : Outcome) : Type 0 where
  -- the new ones, and whether they are a run
  pub new : List ℕ
  pub run : Bool
  pub picked : Picked (is_usable y d m) y.count n start run new
  -- the record answered reads as the old ones, then the new ones
  pub reads : stream_of y o.volume o.answer.allocation ≡ listed (old ++ new)
  -- the new ones, which were not, are marked, and no other cluster's mark changes
  pub marks_new : (k : ℕ) → Mem k new → marked y o.volume k ≡ true
  pub marks_kept : (k : ℕ) → in_heap y.count k ≡ true → (Mem k new → ⊥) → marked y o.volume k ≡ marked y d k
  -- "last + 1, or 2 after cluster C+1"
  pub hint : o.answer.hint ≡ wrap y.count (last_or 0 new + 1)
  -- a record with the run flag: every entry of every FAT is as it was ("its FAT entries are untouched") ..
  pub fats_kept : o.answer.allocation.no_fat_chain ≡ true → (k : ℕ) → k < y.count + 2 → EntryKept y d o.volume k
  -- .. and so is every byte but the bitmaps'
  pub run_bytes_kept : o.answer.allocation.no_fat_chain ≡ true → (p : ℕ) → OffBitmaps y p → get_or o.volume p 0 ≡ get_or d p 0
  -- in any case no byte changes but the bitmaps' and those of its own clusters' entries
  pub bytes_kept : (p : ℕ) → OffBitmaps y p → OffEntries y (old ++ new) p → get_or o.volume p 0 ≡ get_or d p 0
  -- "FAT stores go to every FAT": of two, an entry is as it was in both or alike in both ..
  pub fats_alike : y.two ≡ true → (k : ℕ) → in_heap y.count k ≡ true
      → Twins (fat0_at y d k) (fat1_at y d k) (fat0_at y o.volume k) (fat1_at y o.volume k)
  -- .. and so is a byte of two bitmaps
  pub bitmaps_alike : y.two ≡ true → (i : ℕ) → i < bitmap_bytes y.count
      → Twins (bitmap0_at y d i) (bitmap1_at y d i) (bitmap0_at y o.volume i) (bitmap1_at y o.volume i)
  pub same_length : length o.volume ≡ length d

-- outcome o is a new stream of n clusters, sought from start, and has the run flag exactly where they are a run
pub record Allocates (y : Layout) (d m : List ℕ) (n start : ℕ) (o : Outcome) : Type 0 where
  pub adds : Adds y d m [] n start o
  pub flag : o.answer.allocation.no_fat_chain ≡ adds.run
