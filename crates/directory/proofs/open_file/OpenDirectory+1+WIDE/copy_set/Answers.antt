use mathlib.Core.Path.{◌≡◌, refl, ◌∙◌, ap, ap₂}
use mathlib.Core.List.{List}
use native.Mathlib.Omega.{arith}
use Prim.Native.Nat.{ℕ, ◌-◌, ◌*◌, ◌≤◌, ◌<◌}
use lib.ListN.{length, take, replicate, length-replicate}
use Rattle.std.proofs.lemmas.List.{length-take-le}
use borrow.Rule.Slice.PartMut.{put_mid}
use Rattle.primitives.specs.Splice.{splice}
use Rattle.primitives.proofs.SpliceLaws.{put_mid-splice}
use Rattle.directory.specs.Entries.{entry_count}
use Rattle.directory.specs.Internal.{bytes}
use Rattle.directory.proofs.OpenedLaws.{opened_fits}
use Rattle.directory.proofs.CursorLaws.{dir_heap, slot_bytes}
use Rattle.directory.proofs.OpenLaws.{entries_low, slot_known, copy_is}
use Rattle.directory.proofs.open_file.OpenDirectory+1+WIDE.copy_set.Goals as goal

-- the part of a set's 608 bytes that its entries take
length-part : (n : ℕ) (s : List ℕ) → n ≤ 19 → s ≡ replicate 608 0 → length (take (32 * n) s) ≡ 32 * n
length-part n s h e = length-take-le (32 * n) s (omega (arith, ap (length {A = ℕ}) e, length-replicate {A = ℕ} 608 0))

pub read-requires : goal.read-requires
read-requires _ c =
    let d = c.args.self.now in
    let p = c.requires in
    let a = c.args in
    let w = opened_fits d in
    let h : a.slot < entry_count (bytes d) = (omega (arith, p.1.1.1.0, p.1.0, entries_low (bytes d) a.slot)) in
    rw (length-part a.n a.set.now p.1.1.0 p.1.1.1.1)
    (omega arith, (d.long, (dir_heap d.sys.now.y d.vol.now w d.allocation d.reads, (slot_bytes d.sys.now.y d.vol.now w d.allocation d.reads a.slot a.n p.1.1.1.0, slot_known d.sys.now.y d.vol.now w d.allocation d.reads a.slot h a.e p.0))))

pub returns : goal.returns
returns _ c =
    let d = c.args.self.now in
    let p = c.requires in
    let a = c.args in
    let w = opened_fits d in
    let n = length-part a.n a.set.now p.1.1.0 p.1.1.1.1 in
    let z : 32 * a.n ≡ 32 * a.n - 0 = omega arith in
    ap (λ (k : ℕ). put_mid 0 k a.set.now c.read.new.dst) z
    ∙ put_mid-splice a.set.now 0 (32 * a.n) (32 * a.n) c.read.new.dst c.read.new.dst (omega arith) (c.read.auto.dst ∙ n) refl
    ∙ ap₂ (λ (s t : List ℕ). splice s 0 t) p.1.1.1.1 (rw n at c.read.ensures)
    ∙ copy_is d.sys.now.y d.vol.now w d.allocation d.reads a.slot a.n p.1.0
