use mathlib.Core.Path.{◌∙◌, ap}
use Rattle.std.specs.Prelude.{Some}
use Prim.Native.Nat.{◌+◌}
use native.Mathlib.Omega.{arith}
use Rattle.directory.specs.Internal.{bytes}
use Rattle.directory.proofs.OpenedLaws.{opened_fits}
use Rattle.directory.proofs.EntryLaws.{file_type, file_of}
use Rattle.directory.proofs.OpenLaws.{fits_no, fits_yes, whole_no, whole_yes, slot_in, slot_type, slot_count}
use Rattle.directory.proofs.open_file.OpenDirectory+1+WIDE.entries_here.Goals as goal
use Rattle.directory.proofs.open_file.OpenDirectory+1+WIDE.entries_here.Goals.{then-n-gt19-via-then-n-gt19, then-n-gt19-via-else-n-gt19+then-total-slot}

pub byte_at-requires : goal.byte_at-requires
byte_at-requires _ c =
    let d = c.args.self.now in
    let p = c.requires in
    let a = c.args in
    let w = opened_fits d in
    let q = slot_in d.sys.now.y d.vol.now w d.allocation d.reads a.slot p.0 a.e p.1.0 in
    (omega arith, (d.long, (q.0, (q.1.0, omega (arith, q.1.1)))))

pub returns-then-byte_at : goal.returns-then-byte_at
returns-then-byte_at _ c =
    let d = c.args.self.now in
    let p = c.requires in
    let a = c.args in
    let w = opened_fits d in
    whole_no (bytes d) a.slot
    (fits_no (bytes d) a.slot (λ f g h. omega (arith, file_type (bytes d) a.slot f, slot_type d.sys.now.y d.vol.now w d.allocation d.reads a.slot p.0 a.e p.1.0)))

pub byte_at-requires-2 : goal.byte_at-requires-2
byte_at-requires-2 _ c =
    let d = c.args.self.now in
    let p = c.requires in
    let a = c.args in
    let w = opened_fits d in
    let q = slot_in d.sys.now.y d.vol.now w d.allocation d.reads a.slot p.0 a.e p.1.0 in
    (omega arith, (d.long, (q.0, (q.1.0, omega (arith, q.1.1)))))

pub returns-then-n-gt19 : goal.returns-then-n-gt19
returns-then-n-gt19 _ c =
    let d = c.args.self.now in
    let p = c.requires in
    let a = c.args in
    let w = opened_fits d in
    let q = slot_count d.sys.now.y d.vol.now w d.allocation d.reads a.slot p.0 a.e p.1.0 (1 + c.from-n.result) (cc) in
    whole_no (bytes d) a.slot (fits_no (bytes d) a.slot (λ f g h. elim c.then-n-gt19.branch [
      | then-n-gt19-via-then-n-gt19 w ↦ omega (arith, g, q)
      | then-n-gt19-via-else-n-gt19+then-total-slot w ↦ omega (arith, h, q)
    ]))

pub returns : goal.returns
returns _ c =
    let d = c.args.self.now in
    let p = c.requires in
    let a = c.args in
    let w = opened_fits d in
    let q = slot_count d.sys.now.y d.vol.now w d.allocation d.reads a.slot p.0 a.e p.1.0 (1 + c.from-n.result) (cc) in
    let f = file_of (bytes d) a.slot p.1.1.1.1 (omega (arith, slot_type d.sys.now.y d.vol.now w d.allocation d.reads a.slot p.0 a.e p.1.0)) in
    ap Some q ∙ whole_yes (bytes d) a.slot (fits_yes (bytes d) a.slot f (omega (arith, q)) (omega (arith, q)))
