use mathlib.Core.Path.{sym, ◌∙◌}
use native.Mathlib.Omega.{arith}
use lib.ListN.{length}
use borrow.Author.Tests.{eqb-true, eqb-false}
use Rattle.std.proofs.lemmas.List.{length-take}
use Rattle.boot.specs.Layout.{cluster_at}
use Rattle.boot.proofs.Apart.{in_heap_lem}
use Rattle.boot.proofs.Clusters.{cluster_in}
use Rattle.write_dir.proofs.PlaceLaws.{put_none}
use Rattle.write_dir.proofs.place.put_part.Goals as goal

pub returns-then-is_empty : goal.returns-then-is_empty
returns-then-is_empty _ c =
    let a = c.args in
    let z = eqb-true (length a.src.now) 0 (sym c.is_empty.ensures ∙ c.if-is_empty.true) in
    (omega (arith, z), sym (put_none a.sys.now.y a.vol.now a.k a.at a.src.now))

pub put_piece-requires : goal.put_piece-requires
unfolding cluster_at
put_piece-requires _ c =
    let a = c.args in
    let p = c.requires in
    let z = eqb-false (length a.src.now) 0 (sym c.is_empty.ensures ∙ c.if-is_empty.false) in
    let h = in_heap_lem _ _ (p.1.1 (omega (arith, z))) in
    (omega arith, (p.0, (h.0, (h.1, omega (arith, cluster_in _ _ a.sys.now.laid h.0 h.1, length-take c.min-stored.result a.src.now)))))
