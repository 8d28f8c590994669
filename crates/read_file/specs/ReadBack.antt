-- What reading a file part by part gives, on any volume (02: "Parts fetched one after another from offset 0, the volume unchanged, give
-- the file's tape").
use Rattle.std.specs.Prelude.{◌≡◌, ◌≢◌, ◌↔◌, false, cond, List, [], ◌++◌, ℕ, zero, suc, ◌+◌, ◌/◌, ◌%◌, ◌≤◌, ◌<◌, eqb, length, get_or}
use Rattle.std.proofs.Math.Option.{Option, none, some}
use Rattle.boot.specs.declared.geometry.Geometry.{Geometry}
use Rattle.boot.specs.declared.layout.Layout.{Layout}
use Rattle.boot.specs.Geometry.{root_cluster}
use Rattle.boot.specs.Layout.{layout_of, cluster_at}
use Rattle.stream.specs.Stream.{clusters_in}
use Rattle.stream.specs.Bytes.{bytes_in}
use Rattle.entry_set.specs.Fields.{valid_length, data_length}
use Rattle.directory.specs.Directory.{root_record}
use Rattle.directory.specs.Open.{file_record, set_in, shown}
use Rattle.read_file.specs.declared.part.Part.{Part}
use Rattle.read_file.specs.Part.{zero_part, part_bytes}
use Rattle.read_file.specs.Read.{read_number, read_part}

-- the set at a slot of the root
unfoldable pub root_set : (g : Geometry) (d : List ℕ) (slot : ℕ) → List ℕ
root_set g d slot = let y = layout_of g (length d) in set_in y d (root_record y d (root_cluster g)) slot

-- the clusters of its stream
unfoldable pub set_clusters : (g : Geometry) (d s : List ℕ) → List ℕ
set_clusters g d s = let y = layout_of g (length d) in clusters_in y d (file_record y d s)

-- what the file of a set holds (01: its tape)
unfoldable pub set_contents : (g : Geometry) (d s : List ℕ) → List ℕ
set_contents g d s = let y = layout_of g (length d) in shown (bytes_in y d (file_record y d s)) (valid_length s) (data_length s)

-- the bytes that a read gives
unfoldable pub read_bytes : (g : Geometry) (d m z : List ℕ) (slot offset : ℕ) → List ℕ
read_bytes g d m z slot offset = part_bytes d z (read_part g d m z slot offset)

-- n parts fetched one after another, from an offset on: each begins where the one before it ended
unfoldable pub fetched : (part : ℕ → List ℕ) (n offset : ℕ) → List ℕ
fetched part zero offset = []
fetched part (suc n) offset = part offset ++ fetched part n (offset + length (part offset))

-- a file read from offset 0 on by n parts; none where the number refuses it
unfoldable pub read_file : (g : Geometry) (d m z : List ℕ) (slot n : ℕ) → Option (List ℕ)
read_file g d m z slot n = cond (eqb (read_number g d m z slot) 0) (some (fetched (read_bytes g d m z slot) n 0)) none

-- where the byte at an offset of a file with clusters ks lies in the volume
unfoldable pub byte_place : (y : Layout) (ks : List ℕ) (offset : ℕ) → ℕ
byte_place y ks offset = cluster_at y (get_or ks (offset / y.size) 0) + offset % y.size

-- part p is "the longest part of the volume that starts there, stays below the valid length and runs through consecutive clusters"
pub record Longest (y : Layout) (ks : List ℕ) (valid offset : ℕ) (p : Part) : Type 0 where
  pub from_volume : p.zeros ≡ false
  -- it starts there and runs on: each of its bytes lies where the file's does, and there is one
  pub runs : (i : ℕ) → i < p.len → p.start + i ≡ byte_place y ks (offset + i)
  pub some_byte : 0 < p.len
  -- it stays below valid
  pub below : offset + p.len ≤ valid
  -- and is the longest: where it ends before valid, the file's next byte lies elsewhere
  pub ends : offset + p.len < valid → p.start + p.len ≢ byte_place y ks (offset + p.len)

-- a read of the file at a slot of the root that is not refused
pub record ReadBack (g : Geometry) (d m z : List ℕ) (slot : ℕ) : Type 0 where
  -- parts fetched one after another from offset 0, as many as there are bytes or more, are what the file holds
  pub whole : (n : ℕ) → data_length (root_set g d slot) ≤ n → fetched (read_bytes g d m z slot) n 0 ≡ set_contents g d (root_set g d slot)
  -- a part is empty at the length and past it, and nowhere else
  pub empty_only : (offset : ℕ) → (length (read_bytes g d m z slot offset) ≡ 0) ↔ (data_length (root_set g d slot) ≤ offset)
  -- below valid it is the longest part of the volume
  pub longest : (offset : ℕ) → offset < valid_length (root_set g d slot)
      → Longest (layout_of g (length d)) (set_clusters g d (root_set g d slot)) (valid_length (root_set g d slot)) offset (read_part g d m z slot offset)
  -- from valid to the length it is a part of the zeros, as long as both allow
  pub zeros : (offset : ℕ) → valid_length (root_set g d slot) ≤ offset → offset < data_length (root_set g d slot)
      → read_part g d m z slot offset ≡ zero_part (data_length (root_set g d slot)) (length z) offset
