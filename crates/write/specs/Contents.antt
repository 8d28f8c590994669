-- What a file holds (01: its tape): its stored bytes below valid, and 0 from valid to length.
use Rattle.std.specs.Prelude.{Bool, not, ◌&&◌, cond, List, ℕ}
use Rattle.std.proofs.Math.Option.{Option, none, some}
use Rattle.boot.specs.declared.geometry.Geometry.{Geometry}
use Rattle.entry_set.specs.Fields.{is_directory, valid_length, data_length}
use Rattle.stream.specs.Bytes.{bytes_in}
use Rattle.directory.specs.Entries.{is_sound}
use Rattle.directory.specs.Open.{shown}
use Rattle.write.specs.Consistent.{lay, root_bytes, set_of, stream_at}

-- slot i has a file: a sound entry with no attribute 0x10
unfoldable pub has_file : Geometry → List ℕ → ℕ → Bool
has_file g d i = is_sound (lay g d).count (lay g d).size (root_bytes g d) i && not (is_directory (set_of g d i))

-- the contents at each slot, none where there is no file
unfoldable pub contents : Geometry → List ℕ → ℕ → Option (List ℕ)
contents g d i =
    cond (has_file g d i)
    (some (shown (bytes_in (lay g d) d (stream_at g d i)) (valid_length (set_of g d i)) (data_length (set_of g d i)))) none
