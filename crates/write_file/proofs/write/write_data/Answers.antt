use lib.ListN.{length}
use borrow.Author.Tests.{eqb-true, eqb-false}
use Rattle.std.proofs.Common.{refl, sym, ◌∙◌, arith}
use Rattle.std.proofs.lemmas.Result.{err_from_is_err_and}
use Rattle.boot.proofs.CauseLaws.{cause-not0}
use Rattle.write_file.proofs.WriteLaws.{stored-none, stored_past, stored_refused, stored-done}
use Rattle.write_file.proofs.write.write_data.Goals as goal

pub returns-then-is_empty : goal.returns-then-is_empty
returns-then-is_empty c =
    let i = c.args in
    stored-none i.sys.now.y i.vol.now i.sys.now.map.now i.b i.valid i.len i.offset i.src.now i.hint (eqb-true (length i.src.now) 0 (sym c.is_empty.ensures ∙ c.if-is_empty.true)) _ refl

pub returns-in_default : goal.returns-in_default
returns-in_default c =
    let i = c.args in
    stored_past i.sys.now.y i.vol.now i.sys.now.map.now i.b i.valid i.len i.offset i.src.now i.hint (eqb-false (length i.src.now) 0 (sym c.is_empty.ensures ∙ c.if-is_empty.false)) (omega arith) _ refl

pub returns-in_err-length_cause : goal.returns-in_err-length_cause
returns-in_err-length_cause c =
    let i = c.args in
    let q = err_from_is_err_and c.from_residual.result c.from_residual.ensures.1 in
    rw (q.1, q.2) (stored_refused i.sys.now.y i.vol.now i.sys.now.map.now i.b i.valid i.len i.offset i.src.now i.hint (eqb-false (length i.src.now) 0 (sym c.is_empty.ensures ∙ c.if-is_empty.false)) (omega arith) c.max-goal.result (omega (arith, c.max-goal.ensures)) _ c.in_err-length_cause.ensures (cause-not0 _) _ refl)

pub returns : goal.returns
returns c =
    let i = c.args in
    stored-done i.sys.now.y i.vol.now i.sys.now.map.now i.b i.valid i.len i.offset i.src.now i.hint (eqb-false (length i.src.now) 0 (sym c.is_empty.ensures ∙ c.if-is_empty.false)) (omega arith) c.max-goal.result (omega (arith, c.max-goal.ensures)) (sym c.in_ok-length_cause.ensures) c.max.result (omega (arith, c.max.ensures)) _ _ c.put_grown-r.ensures.0 c.put_grown-r.ensures.1
