-- A volume as three tables, cut to the keys that exist; the store of a FAT entry or of a mark is the update of one table, as an equation.
-- Assumes nothing.
use mathlib.Core.Path.{◌≡◌, ◌∙◌, ap}
use mathlib.Core.Bool.{Bool, true, false, ◌&&◌, not}
use mathlib.Core.List.{List}
use Prim.Native.Nat.{ℕ, ◌<◌, ◌^◌}
use lib.Dec.{ltb}
use borrow.Author.Tests.{ltb-true, lt-ltb, not-true}
use Rattle.tables.specs.Table.{upd}
use Rattle.tables.specs.Internal.{only}
use Rattle.tables.proofs.TableLaws.{only_in, only_cong, only-upd}
use Rattle.boot.specs.declared.layout.Layout.{Layout}
use Rattle.boot.specs.Layout.{in_heap, is_bitmap_cluster}
use Rattle.tables.proofs.Cases.{and_left, and_right}
use Rattle.boot.proofs.Apart.{in_heap_lem}
use Rattle.metadata.specs.Fat.{fat_entry, set_fat}
use Rattle.metadata.specs.Marks.{marked, set_mark}
use Rattle.metadata.specs.Cluster.{cluster_byte}
use Rattle.metadata.proofs.Frame.{Fits, fat_fat_same, fat_fat_other, mark_fat, cluster_fat, mark_mark_same, mark_mark_other, fat_mark, cluster_mark}

-- FAT entries, marks, and bytes of clusters
pub record Tables : Type 0 where
  pub fat : ℕ → ℕ
  pub mark : ℕ → Bool
  pub byte : ℕ → ℕ → ℕ

-- a cluster of the heap that is no bitmap's: its bytes are a file's or a directory's
unfoldable pub plain : Layout → ℕ → Bool
plain y k = in_heap y.count k && not (is_bitmap_cluster y k)

pub plain_heap : (y : Layout) (k : ℕ) → plain y k ≡ true → in_heap y.count k ≡ true
unfolding plain
plain_heap y k e = and_left (in_heap y.count k) (not (is_bitmap_cluster y k)) e

pub plain_off : (y : Layout) (k : ℕ) → plain y k ≡ true → is_bitmap_cluster y k ≡ false
unfolding plain
plain_off y k e = not-true (is_bitmap_cluster y k) (and_right (in_heap y.count k) (not (is_bitmap_cluster y k)) e)

-- the bytes of one cluster
abbrev row : Layout → List ℕ → ℕ → ℕ → ℕ
row y d k = only (λ j. ltb j y.size) 0 (cluster_byte y d k)

-- the tables of a volume
unfoldable pub view : Layout → List ℕ → Tables
view y d = record {
  fat = only (in_heap y.count) 0 (fat_entry y d);
  mark = only (in_heap y.count) false (marked y d);
  byte = only (plain y) (λ j. 0) (row y d);
}

abbrev pub with_fat : Tables → ℕ → ℕ → Tables
with_fat a k v = record { fat = upd a.fat k v; mark = a.mark; byte = a.byte }

abbrev pub with_mark : Tables → ℕ → Bool → Tables
with_mark a k on = record { fat = a.fat; mark = upd a.mark k on; byte = a.byte }

-- ---- what the tables have at a key that exists

module _ (y : Layout) (d : List ℕ) where
  pub view_fat_at : (k : ℕ) → in_heap y.count k ≡ true → (view y d).fat k ≡ fat_entry y d k
  unfolding view
  view_fat_at k h = only_in (in_heap y.count) 0 (fat_entry y d) k h

  pub view_mark_at : (k : ℕ) → in_heap y.count k ≡ true → (view y d).mark k ≡ marked y d k
  unfolding view
  view_mark_at k h = only_in (in_heap y.count) false (marked y d) k h

  pub view_byte_at : (k j : ℕ) → plain y k ≡ true → j < y.size → (view y d).byte k j ≡ cluster_byte y d k j
  unfolding view
  view_byte_at k j h b =
      ap (λ (f : ℕ → ℕ). f j) (only_in (plain y) (λ j. 0) (row y d) k h)
      ∙ only_in (λ j. ltb j y.size) 0 (cluster_byte y d k) j (lt-ltb j y.size b)

-- ---- the stores as updates

module _ (y : Layout) (d : List ℕ) (w : Fits y d) where
  pub view_set_fat : (k v : ℕ) → in_heap y.count k ≡ true → v < 2 ^ 32 → view y (set_fat y d k v) ≡ with_fat (view y d) k v
  unfolding view
  view_set_fat k v h b =
      let i = in_heap_lem y.count k h in
      λ z. record {
        fat = only-upd (in_heap y.count) 0 (fat_entry y d) (fat_entry y (set_fat y d k v)) k v h (fat_fat_same y d w k v i.1 b)
            (λ j p n. fat_fat_other y d w k v j i.1 (in_heap_lem y.count j p).1 n) z;
        mark = only_cong (in_heap y.count) false (marked y d) (marked y (set_fat y d k v)) (λ j _. mark_fat y d w k v j i.1) z;
        byte = only_cong (plain y) (λ j. 0) (row y d) (row y (set_fat y d k v))
            (λ c _. only_cong (λ j. ltb j y.size) 0 (cluster_byte y d c) (cluster_byte y (set_fat y d k v) c) (λ j _. cluster_fat y d w k v c j i.1)) z;
      }

  pub view_set_mark : (k : ℕ) (on : Bool) → in_heap y.count k ≡ true → view y (set_mark y d k on) ≡ with_mark (view y d) k on
  unfolding view
  view_set_mark k on h = λ z. record {
    fat = only_cong (in_heap y.count) 0 (fat_entry y d) (fat_entry y (set_mark y d k on)) (λ j p. fat_mark y d w k on j (in_heap_lem y.count j p).1) z;
    mark = only-upd (in_heap y.count) false (marked y d) (marked y (set_mark y d k on)) k on h (mark_mark_same y d w k on h)
        (λ j p n. mark_mark_other y d w k on j h p n) z;
    byte = only_cong (plain y) (λ j. 0) (row y d) (row y (set_mark y d k on))
        (λ c p. only_cong (λ j. ltb j y.size) 0 (cluster_byte y d c) (cluster_byte y (set_mark y d k on) c)
        (λ j b. cluster_mark y d w k on c j h (plain_heap y c p) (plain_off y c p) (ltb-true j y.size b))) z;
  }
