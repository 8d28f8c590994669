-- What only contracts of inner functions, and proofs, speak of: no promise of a public call and no clause of the claim needs it.
use Rattle.std.specs.Prelude.{cond, List, ℕ, ◌-◌, eqb, ltb, take, drop, replicate}
use Rattle.boot.specs.declared.layout.Layout.{Layout}
use Rattle.metadata.specs.Fat.{fat_entry}
use Rattle.stream.specs.declared.allocation.Allocation.{Allocation}
use Rattle.stream.specs.Stream.{clusters_in}
use Rattle.stream.specs.Bytes.{store_at}
use Rattle.entry_set.specs.Fields.{clusters_for}
use Rattle.write_alloc.specs.Outcome.{Outcome}
use Rattle.write_extend.specs.Extend.{extend_in}
use Rattle.write_shrink.specs.Internal.{kept_part}
use Rattle.write_shrink.specs.Shrink.{kept_record, free_all, end_kept}
use Rattle.file.specs.Refresh.{missing}
use Rattle.write_length.specs.declared.set_length.Cut.{Cut}
use Rattle.write_length.specs.SetLength.{zero_end}

-- stream b cut to a length: the clusters kept, what a walk of them tells, and their record
unfoldable pub cut_plan : (y : Layout) (d : List ℕ) (b : Allocation) (len : ℕ) → Cut
cut_plan y d b len =
    let keep = clusters_for y.size len in
    record {
      keep = keep;
      part = kept_part (fat_entry y d) b.no_fat_chain b.first keep;
      kept = kept_record b (take keep (clusters_in y d b));
    }

-- the clusters of stream b that are not kept freed, where there are any
unfoldable pub cut_to : (y : Layout) (d : List ℕ) (b : Allocation) (keep : ℕ) → List ℕ
cut_to y d b keep =
    cond (ltb keep b.count) (free_all y (end_kept y d b (take keep (clusters_in y d b))) (drop keep (clusters_in y d b))) d

-- stream b of a file of length old made ready for a length that is not below it: as it is for an equal one, else grown and zeroed from valid on
unfoldable pub lengthened : (y : Layout) (d m : List ℕ) (b : Allocation) (old len valid hint : ℕ) → Outcome
lengthened y d m b old len valid hint =
    let o = extend_in y d m b (missing y b len) hint in
    cond (eqb len old) (record { answer = record { number = 0; allocation = b; hint = hint }; volume = d })
    (record {
      answer = o.answer;
      volume = store_at y o.volume (clusters_in y o.volume o.answer.allocation) valid (replicate (zero_end y.size valid len - valid) 0);
    })
