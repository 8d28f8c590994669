use Rattle.std.proofs.Common.{sym, arith}
use Rattle.file.proofs.RefreshLaws.{place_first, place_same}
use Rattle.file.proofs.refresh.grown_place.Goals as goal

pub returns-then-b-eq0 : goal.returns-then-b-eq0
returns-then-b-eq0 c = sym (place_first _ _ _ (omega arith))

pub returns : goal.returns
returns c = sym (place_same _ _ _ (λ z. omega arith))
