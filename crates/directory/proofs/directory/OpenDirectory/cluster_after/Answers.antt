use mathlib.Core.Path.{sym, ◌∙◌}
use native.Mathlib.Omega.{arith}
use Rattle.boot.proofs.Apart.{in_heap_lem}
use Rattle.stream.proofs.StreamLaws.{along_head}
use Rattle.directory.specs.Internal.{fat_of}
use Rattle.directory.proofs.SpotLaws.{second_of, second_none}
use Rattle.directory.proofs.directory.OpenDirectory.cluster_after.Goals as goal

pub next_cluster-requires : goal.next_cluster-requires
next_cluster-requires _ c =
    let p = c.requires in
    let h = in_heap_lem _ _ (along_head _ _ _ _ _ (omega arith) p) in
    (omega arith, h.1)

pub returns-then-left-gt1 : goal.returns-then-left-gt1
returns-then-left-gt1 _ c =
    let d = c.args.self.now in
    let a = c.args in
    c.next_cluster.ensures ∙ sym (second_of (fat_of d) d.allocation.no_fat_chain a.k a.left (omega arith))

pub returns : goal.returns
returns _ c =
    let d = c.args.self.now in
    let a = c.args in
    sym (second_none (fat_of d) d.allocation.no_fat_chain a.k a.left (omega arith))
