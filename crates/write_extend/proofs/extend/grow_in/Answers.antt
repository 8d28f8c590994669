use Rattle.std.proofs.Common.{refl, sym, ap, ◌∙◌, arith}
use Rattle.stream.specs.Stream.{empty}
use Rattle.write_alloc.specs.Outcome.{answer_of}
use Rattle.boot.proofs.Apart.{in_heap_lem}
use Rattle.metadata.proofs.Frame.{fits}
use Rattle.write_alloc.proofs.AllocateLaws.{shown_as}
use Rattle.write_extend.proofs.ExtendLaws.{extend_none}
use Rattle.write_extend.proofs.EnoughLaws.{grow_allowed, grow_longer, grow_new}
use Rattle.write_extend.proofs.extend.grow_in.Goals as goal

pub returns-then-n-eq0 : goal.returns-then-n-eq0
returns-then-n-eq0 c =
    let p = c.requires in
    shown_as (extend_none _ _ _ _ _ _ p.1.0 (omega arith)) (refl, refl)

pub new_stream-requires : goal.new_stream-requires
new_stream-requires c =
    let a = c.args in
    let p = c.requires in
    let h = in_heap_lem a.sys.now.y.count a.hint p.1.0 in
    (p.0, (h.0, (h.1, omega arith)))

pub returns-then-a-eq0 : goal.returns-then-a-eq0
returns-then-a-eq0 c =
    let a = c.args in
    let p = c.requires in
    let w = fits a.sys.now a.vol.now p.0 in
    shown_as (grow_new a.sys.now.y a.vol.now a.sys.now.map.now w a.a a.n a.hint p.1.1.0 p.1.0 (omega arith) (omega arith) p.1.1.1)
    (let e = c.new_stream.ensures.0 a.hint in (ap (answer_of empty a.hint) (sym c.unwrap.ensures) ∙ e.0, e.1))

pub longer_stream-requires : goal.longer_stream-requires
longer_stream-requires c =
    let a = c.args in
    let p = c.requires in
    let w = fits a.sys.now a.vol.now p.0 in
    (p.0, (omega arith, (omega arith, grow_allowed a.sys.now.y a.vol.now a.sys.now.map.now w a.a a.n a.hint p.1.1.0 p.1.0 p.1.1.1)))

pub returns : goal.returns
returns c =
    let a = c.args in
    let p = c.requires in
    let w = fits a.sys.now a.vol.now p.0 in
    shown_as (grow_longer a.sys.now.y a.vol.now a.sys.now.map.now w a.a a.n a.hint p.1.1.0 p.1.0 (omega arith) (omega arith) p.1.1.1)
    c.longer_stream.ensures
