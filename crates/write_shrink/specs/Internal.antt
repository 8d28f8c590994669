-- What only contracts of inner functions, and proofs, speak of: no promise of a public call and no clause of the claim needs it.
use Rattle.std.specs.Prelude.{Bool, cond, ℕ, eqb}
use Rattle.tables.specs.Lists.{last_or, rising}
use Rattle.stream.specs.declared.allocation.Allocation.{Allocation}
use Rattle.stream.specs.Internal.{along, reached}
use Rattle.stream.specs.Stream.{empty}
use Rattle.write_shrink.specs.declared.shrink.Kept.{Kept}

-- n clusters from k on: the last one (0: none), whether their numbers rise by one, and the cluster after them
unfoldable pub kept_part : (fat : ℕ → ℕ) (run : Bool) (k n : ℕ) → Kept
kept_part fat run k n =
    record { last = last_or 0 (along fat run k n); rising = rising (along fat run k n); next = reached fat run k n }

-- the record of n kept clusters from first on
unfoldable pub part_record : (first n : ℕ) (p : Kept) → Allocation
part_record first n p = cond (eqb n 0) empty (record { first = first; last = p.last; count = n; no_fat_chain = p.rising })
