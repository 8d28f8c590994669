use mathlib.Core.Path.{sym, ◌∙◌, ap}
use Rattle.boot.proofs.Apart.{in_heap_lem}
use Rattle.boot.proofs.CauseLaws.{cause-not0}
use Rattle.stream.specs.Internal.{Walked, chain_clear}
use Rattle.stream.proofs.ChainLaws.{cause_walk, chain_number, chain_out_number}
use Rattle.stream.proofs.ClearLaws.{chain_out_clear}
use borrow.Author.Rules.{rules}
use Rattle.stream.proofs.walk.read_chain.Goals as goal

pub returns-then-not-in_heap : goal.returns-then-not-in_heap
returns-then-not-in_heap _ c = (sym (chain_out_number _ _ _ _ _ _ (cc)), sym (chain_out_clear _ _ _ _ (cc)))

pub fat_chain-requires : goal.fat_chain-requires
fat_chain-requires _ c =
    let h = in_heap_lem c.args.sys.now.y.count c.args.a.first (cc) in
    search rules

pub returns-in-Ok : goal.returns-in-Ok
unfolding chain_clear
returns-in-Ok _ c = (c.walk_cause.ensures ∙ chain_number _ _ _ _ _ _ _ _ _ (cc) c.in-Ok.ensures, ap (λ (v : Walked). v.clear) c.in-Ok.ensures)

pub returns-in-Err : goal.returns-in-Err
unfolding chain_clear
returns-in-Err _ c = (sym (cause_walk _ c.args.a.last c.args.a.count (cause-not0 _)) ∙ chain_number _ _ _ _ _ _ _ _ _ (cc) c.in-Err.ensures, ap (λ (v : Walked). v.clear) c.in-Err.ensures)
