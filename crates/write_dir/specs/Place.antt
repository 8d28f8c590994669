-- How a directory grows for a new set, and where a set stands in it (01, "New file"; Rust: `grow`, `insert`).
use Rattle.std.specs.Prelude.{List, ℕ, zero, suc, replicate}
use Rattle.boot.specs.declared.layout.Layout.{Layout}
use Rattle.metadata.specs.Cluster.{put_bytes}
use Rattle.stream.specs.declared.allocation.Allocation.{Allocation}
use Rattle.write_extend.specs.Extend.{extend_in}

-- a directory, the volume it stands on, and the hint
pub record GrownDirectory : Type 0 where
  pub volume : List ℕ
  pub directory : Allocation
  pub hint : ℕ

-- one cluster added through the extension rule, from the last one on, and zeroed
unfoldable pub grow_one : Layout → List ℕ → GrownDirectory → GrownDirectory
grow_one y m w =
    let o = extend_in y w.volume m w.directory 1 w.hint in
    record {
      volume = put_bytes y o.volume o.answer.allocation.last 0 (replicate y.size 0);
      directory = o.answer.allocation;
      hint = o.answer.hint;
    }

-- n clusters, one at a time
unfoldable pub grow_by : Layout → List ℕ → ℕ → GrownDirectory → GrownDirectory
grow_by y m zero w = w
grow_by y m (suc n) w = grow_by y m n (grow_one y m w)
