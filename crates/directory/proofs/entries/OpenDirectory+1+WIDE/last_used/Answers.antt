use mathlib.Core.Path.{◌≡◌, sym, ◌∙◌}
use Prim.Native.Nat.{◌+◌}
use native.Mathlib.Omega.{arith}
use Rattle.search.proofs.Runs.{tail_none}
use Rattle.directory.specs.Internal.{nth_entry}
use Rattle.directory.proofs.OpenedLaws.{opened_fits}
use Rattle.directory.proofs.CursorLaws.{entry_next, cursor_in, cursor_use, entries_small, entries_is}
use Rattle.directory.proofs.RoomLaws.{tail_used, tail_free}
use Rattle.directory.proofs.entries.OpenDirectory+1+WIDE.last_used.Goals as goal
use Rattle.directory.proofs.entries.OpenDirectory+1+WIDE.last_used.Goals.{then-used, else-used}

pub overflow_add-k-end : goal.overflow_add-k-end
overflow_add-k-end _ c =
    let d = c.args.self.now in
    let w = opened_fits d in
    omega (arith, entries_small d.sys.now.y d.vol.now w d.allocation d.reads, entries_is d.sys.now.y d.vol.now w d.allocation d.reads)

pub loop-k-init : goal.loop-k-init
loop-k-init _ c =
    let p = c.requires in
    (p.0, (sym (tail_none _ _ _ (omega arith)), p.0))

pub in_use-used-requires : goal.in_use-used-requires
in_use-used-requires _ c =
    let d = c.args.self.now in
    let w = opened_fits d in
    let l = c.loop-k in
    (omega arith, cursor_in d.sys.now.y d.vol.now w d.allocation d.reads l.k (omega arith) l.at l.invariant.0)

pub advance-at-requires : goal.advance-at-requires
advance-at-requires _ c =
    let d = c.args.self.now in
    let w = opened_fits d in
    let l = c.loop-k in
    (omega arith, (cursor_in d.sys.now.y d.vol.now w d.allocation d.reads l.k (omega arith) l.at l.invariant.0).1)

pub loop-k-preserved : goal.loop-k-preserved
loop-k-preserved _ c =
    let d = c.args.self.now in
    let a = c.args in
    let w = opened_fits d in
    let l = c.loop-k in
    let u = sym (cursor_use d.sys.now.y d.vol.now w d.allocation d.reads l.k (omega arith) l.at l.invariant.0) ∙ sym c.in_use-used.ensures in
    let n : c.advance-at.result ≡ nth_entry d (l.k + 1) = (cc) ∙ entry_next _ _ _ _ l.k in (
      n,
      elim c.if-used.branch [
        | then-used w ↦ rw w.tail-is (sym (tail_used _ a.base l.k (omega arith) (u ∙ (cc))), n)
        | else-used w ↦ rw w.tail-is (l.invariant.1.0 ∙ sym (tail_free _ a.base l.k (omega arith) (u ∙ (cc))), l.invariant.1.1)
      ],
    )
