use native.Mathlib.Omega.{arith}
use Rattle.write_alloc.proofs.AllocateLaws.{shown_as}
use Rattle.write_extend.proofs.ExtendLaws.{last_facts, place_facts, longer_in, longer_out}
use Rattle.write_extend.proofs.extend.longer_stream.Goals as goal

pub in_place-requires : goal.in_place-requires
in_place-requires c =
    let a = c.args in
    let p = c.requires in
    let f = last_facts a.sys.now.y a.vol.now a.sys.now.map.now a.a a.n a.sys.now.laid (a.sys.now.apart (omega arith)) p.0 p.1.0 p.1.1.0 p.1.1.1 in
    (omega arith, (p.0, (f.0, (f.1, f.2))))

pub longer_run-requires : goal.longer_run-requires
longer_run-requires c =
    let a = c.args in
    let p = c.requires in
    let f = last_facts a.sys.now.y a.vol.now a.sys.now.map.now a.a a.n a.sys.now.laid (a.sys.now.apart (omega arith)) p.0 p.1.0 p.1.1.0 p.1.1.1 in
    let h = place_facts a.sys.now.y a.vol.now a.sys.now.map.now a.a a.n a.sys.now.laid (a.sys.now.apart (omega arith)) p.0 p.1.0 p.1.1.0 p.1.1.1 (cc) in
    (omega arith, (p.0, (f.0, (h, p.1.1.1.room))))

pub returns-then-in_place : goal.returns-then-in_place
returns-then-in_place c = shown_as (longer_in _ _ _ _ _ (cc)) c.longer_run.ensures

pub returns-else-in_place : goal.returns-else-in_place
returns-else-in_place c = shown_as (longer_out _ _ _ _ _ (cc)) c.longer_chain.ensures
