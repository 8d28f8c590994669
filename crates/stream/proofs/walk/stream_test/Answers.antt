use mathlib.Core.Path.{sym, ◌∙◌, ap}
use native.Mathlib.Omega.{arith}
use Rattle.stream.specs.Stream.{stream_of, number_of}
use Rattle.stream.proofs.ChainLaws.{stream_empty, stream_run, stream_chain}
use Rattle.stream.proofs.ClearLaws.{clear_empty, clear_run, clear_chain}
use Rattle.stream.proofs.walk.stream_test.Goals as goal

pub returns-then-a-eq0 : goal.returns-then-a-eq0
unfolding stream_of number_of
returns-then-a-eq0 _ c = (sym (ap number_of (stream_empty _ _ _ _ (omega arith))), sym (clear_empty _ _ _ _ (omega arith)))

pub returns-then-a : goal.returns-then-a
unfolding stream_of
returns-then-a _ c = (c.read_run.ensures ∙ sym (ap number_of (stream_run _ _ _ _ (λ z. omega arith) (cc))), sym (clear_run _ _ _ _ (cc)))

pub returns : goal.returns
unfolding stream_of
returns _ c =
    let r = c.read_chain.ensures in
    (r.0 ∙ sym (ap number_of (stream_chain _ _ _ _ (λ z. omega arith) (cc))), r.1 ∙ sym (clear_chain _ _ _ _ (λ z. omega arith) (cc)))
