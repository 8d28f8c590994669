use Prim.Native.Nat.{◌+◌, ◌-◌}
use mathlib.Core.Bool.{true, false}
use mathlib.Core.Path.{◌≡◌, sym, ◌∙◌, ap}
use native.Mathlib.Omega.{arith}
use Rattle.directory.specs.Entries.{in_use}
use Rattle.directory.specs.Internal.{next_entry, bytes, nth_entry, fat_of}
use Rattle.directory.proofs.OpenedLaws.{opened_fits}
use Rattle.directory.proofs.CursorLaws.{entry_next, cursor_in, cursor_use, entries_small, entries_is}
use Rattle.directory.proofs.RoomLaws.{window_used, window_free}
use Rattle.directory.proofs.entries.OpenDirectory+1+WIDE.past_used.Goals as goal

pub in_use-requires : goal.in_use-requires
in_use-requires _ c =
    let d = c.args.self.now in
    let a = c.args in
    let w = opened_fits d in
    (omega arith, cursor_in d.sys.now.y d.vol.now w d.allocation d.reads (a.base + (a.n - 1)) (omega arith) c.skip-last.result c.skip-last.ensures)

pub advance-requires : goal.advance-requires
advance-requires _ c =
    let d = c.args.self.now in
    let a = c.args in
    let w = opened_fits d in
    let k = c.skip-last in
    (omega arith, (cursor_in d.sys.now.y d.vol.now w d.allocation d.reads (a.base + (a.n - 1)) (omega arith) k.result k.ensures).1)

pub overflow_add-result : goal.overflow_add-result
overflow_add-result _ c =
    let d = c.args.self.now in
    let w = opened_fits d in
    omega (arith, entries_small d.sys.now.y d.vol.now w d.allocation d.reads, entries_is d.sys.now.y d.vol.now w d.allocation d.reads)

pub returns-then-in_use : goal.returns-then-in_use
returns-then-in_use _ c =
    let d = c.args.self.now in
    let a = c.args in
    let w = opened_fits d in
    let k = c.skip-last in
    let u : in_use (bytes d) (a.base + (a.n - 1)) ≡ true = sym (cursor_use d.sys.now.y d.vol.now w d.allocation d.reads (a.base + (a.n - 1)) (omega arith) k.result k.ensures) ∙ (cc) in
    let e : a.base + (a.n - 1) + 1 ≡ a.base + a.n = omega arith in (
      window_used (bytes d) a.base a.n (omega arith) u,
      c.advance.ensures ∙ ap (next_entry d.sys.now.y (fat_of d) d.allocation.no_fat_chain) k.ensures
          ∙ entry_next d.sys.now.y (fat_of d) d.allocation.no_fat_chain d.allocation.first (a.base + (a.n - 1))
          ∙ ap (nth_entry d) e,
    )

pub returns : goal.returns
returns _ c =
    let d = c.args.self.now in
    let a = c.args in
    let w = opened_fits d in
    let k = c.skip-last in
    let u : in_use (bytes d) (a.base + (a.n - 1)) ≡ false = sym (cursor_use d.sys.now.y d.vol.now w d.allocation d.reads (a.base + (a.n - 1)) (omega arith) k.result k.ensures) ∙ (cc) in
    (c.last_used.ensures.0 ∙ window_free (bytes d) a.base a.n (omega arith) u, c.last_used.ensures.1)
