-- What passes the tests of sameness is the same.
use Rattle.file.specs.Outcome.{FileAnswer}
use mathlib.Core.Path.{◌≡◌, refl, sym}
use mathlib.Core.Bool.{Bool, true, false, ◌&&◌}
use mathlib.Core.List.{List, [], ◌∷◌, map}
use Prim.Native.Nat.{ℕ}
use lib.Dec.{eqb}
use borrow.Author.Tests.{eqb-true}
use Rattle.tables.proofs.Cases.{and_left, and_right}
use Rattle.stream.specs.declared.allocation.Allocation.{Allocation}
use Rattle.write_alloc.specs.Outcome.{Answer}
use Rattle.read_file.specs.declared.part.Part.{Part}
use Rattle.trials.specs.Trial.{Result, answered, listed, carried, Trial, same_flag, same_list, same_record, same_answer, same_file_answer, same_result, said, wanted, agrees, all_agree}
use Rattle.trials.specs.ReadTable.{Read, said_of, wanted_of, same_part, same_read, read_agrees, all_reads_agree}

-- both of two tests are passed
both : (a b : Bool) → (a && b) ≡ true → (a ≡ true) × (b ≡ true)
both a b e = (and_left a b e, and_right a b e)

same_flag_lem : (a b : Bool) → same_flag a b ≡ true → a ≡ b
unfolding same_flag
same_flag_lem true true e = refl
same_flag_lem true false e = sym e
same_flag_lem false true e = e
same_flag_lem false false e = refl

same_list_lem : (l m : List ℕ) → same_list l m ≡ true → l ≡ m
unfolding same_list
same_list_lem [] [] e = refl
same_list_lem [] (y ∷ ys) e = cc
same_list_lem (x ∷ xs) [] e = cc
same_list_lem (x ∷ xs) (y ∷ ys) e =
    let b = both (eqb x y) (same_list xs ys) e in
    cc (eqb-true x y b.0, same_list_lem xs ys b.1)

same_record_lem : (a b : Allocation) → same_record a b ≡ true → a ≡ b
unfolding same_record
same_record_lem a b e =
    let tail = same_flag a.no_fat_chain b.no_fat_chain in
    let f = both (eqb a.first b.first) (eqb a.last b.last && (eqb a.count b.count && tail)) e in
    let l = both (eqb a.last b.last) (eqb a.count b.count && tail) f.1 in
    let c = both (eqb a.count b.count) tail l.1 in
    λ i. record {
      first = eqb-true a.first b.first f.0 i;
      last = eqb-true a.last b.last l.0 i;
      count = eqb-true a.count b.count c.0 i;
      no_fat_chain = same_flag_lem a.no_fat_chain b.no_fat_chain c.1 i;
    }

same_answer_lem : (a b : Answer) → same_answer a b ≡ true → a ≡ b
unfolding same_answer
same_answer_lem a b e =
    let n = both (eqb a.number b.number) (same_record a.allocation b.allocation && eqb a.hint b.hint) e in
    let r = both (same_record a.allocation b.allocation) (eqb a.hint b.hint) n.1 in
    λ i. record {
      number = eqb-true a.number b.number n.0 i;
      allocation = same_record_lem a.allocation b.allocation r.0 i;
      hint = eqb-true a.hint b.hint r.1 i;
    }

same_file_answer_lem : (a b : FileAnswer) → same_file_answer a b ≡ true → a ≡ b
unfolding same_file_answer
same_file_answer_lem a b e =
    let n = both (eqb a.number b.number) (eqb a.slot b.slot && eqb a.hint b.hint) e in
    let s = both (eqb a.slot b.slot) (eqb a.hint b.hint) n.1 in
    λ i. record {
      number = eqb-true a.number b.number n.0 i;
      slot = eqb-true a.slot b.slot s.0 i;
      hint = eqb-true a.hint b.hint s.1 i;
    }

same_result_lem : (r s : Result) → same_result r s ≡ true → r ≡ s
unfolding same_result
same_result_lem (answered a d) (answered b e) t =
    let p = both (same_answer a b) (same_list d e) t in
    cc (same_answer_lem a b p.0, same_list_lem d e p.1)
same_result_lem (answered a d) (listed n l) t = cc
same_result_lem (answered a d) (carried b e) t = cc
same_result_lem (listed n l) (answered b e) t = cc
same_result_lem (listed n l) (carried b e) t = cc
same_result_lem (carried a d) (answered b e) t = cc
same_result_lem (carried a d) (listed n l) t = cc
same_result_lem (carried a d) (carried b e) t =
    let p = both (same_file_answer a b) (same_list d e) t in
    cc (same_file_answer_lem a b p.0, same_list_lem d e p.1)
same_result_lem (listed m k) (listed n l) t =
    let p = both (eqb m n) (same_list k l) t in
    cc (eqb-true m n p.0, same_list_lem k l p.1)

-- where all trials of a table agree, what the definitions say is what is expected, row by row
pub all_same : (ts : List Trial) → all_agree ts ≡ true → map said ts ≡ map wanted ts
unfolding all_agree agrees
all_same [] e = refl
all_same (t ∷ ts) e =
    let p = both (same_result (said t) (wanted t)) (all_agree ts) e in
    cc (same_result_lem (said t) (wanted t) p.0, all_same ts p.1)

same_part_lem : (p q : Part) → same_part p q ≡ true → p ≡ q
unfolding same_part
same_part_lem p q e =
    let z = both (same_flag p.zeros q.zeros) (eqb p.start q.start && eqb p.len q.len) e in
    let s = both (eqb p.start q.start) (eqb p.len q.len) z.1 in
    λ i. record {
      zeros = same_flag_lem p.zeros q.zeros z.0 i;
      start = eqb-true p.start q.start s.0 i;
      len = eqb-true p.len q.len s.1 i;
    }

same_read_lem : (a b : ℕ × Part) → same_read a b ≡ true → a ≡ b
unfolding same_read
same_read_lem a b e =
    let p = both (eqb a.0 b.0) (same_part a.1 b.1) e in
    λ i. (eqb-true a.0 b.0 p.0 i, same_part_lem a.1 b.1 p.1 i)

-- the same of the reads
pub all_reads_same : (rs : List Read) → all_reads_agree rs ≡ true → map said_of rs ≡ map wanted_of rs
unfolding all_reads_agree read_agrees
all_reads_same [] e = refl
all_reads_same (r ∷ rs) e =
    let p = both (same_read (said_of r) (wanted_of r)) (all_reads_agree rs) e in
    cc (same_read_lem (said_of r) (wanted_of r) p.0, all_reads_same rs p.1)
