use Rattle.std.proofs.Common.{◌≡◌, ◌+◌, arith}
use Rattle.boot.proofs.Apart.{in_heap_lem}
use Rattle.metadata.specs.Usable.{is_usable}
use Rattle.choice.specs.Choice.{choose, begin_of}
use Rattle.boot.specs.Causes.{wrap}
use Rattle.write_extend.proofs.ExtendLaws.{start_in, begin_heap, old_ready, chain_more, last_facts}
use Rattle.write_extend.proofs.extend.longer_chain.Goals as goal

pub overflow_add-a : goal.overflow_add-a
overflow_add-a c =
    let a = c.args in
    let p = c.requires in
    let f = last_facts a.sys.now.y a.vol.now a.sys.now.map.now a.a a.n a.sys.now.laid (a.sys.now.apart (omega arith)) p.0 p.1.0 p.1.1.0 p.1.1.1 in
    omega (arith, f.1)

pub choose_clusters-choice-requires : goal.choose_clusters-choice-requires
choose_clusters-choice-requires c =
    let a = c.args in
    let p = c.requires in
    let h = in_heap_lem _ _ (start_in a.sys.now.y a.vol.now a.sys.now.map.now a.a a.n a.sys.now.laid (a.sys.now.apart (omega arith)) p.0 p.1.0 p.1.1.0 p.1.1.1) in
    (omega arith, (p.0, (rw c.wrap_cluster-start.ensures h.0, (rw c.wrap_cluster-start.ensures h.1, p.1.1.0))))

pub link_old-requires : goal.link_old-requires
link_old-requires c =
    let a = c.args in
    let p = c.requires in
    let f = last_facts a.sys.now.y a.vol.now a.sys.now.map.now a.a a.n a.sys.now.laid (a.sys.now.apart (omega arith)) p.0 p.1.0 p.1.1.0 p.1.1.1 in
    (omega arith, (p.0, (f.1, (p.1.0, f.3))))

pub take_chain-last-requires : goal.take_chain-last-requires
take_chain-last-requires c =
    let a = c.args in
    let p = c.requires in
    let q : c.choose_clusters-choice.result ≡ choose (is_usable a.sys.now.y a.vol.now a.sys.now.map.now) a.sys.now.y.count a.n (wrap a.sys.now.y.count (a.a.last + 1)) = cc in
    let r : c.begin_of-from.result ≡ begin_of c.choose_clusters-choice.result (wrap a.sys.now.y.count (a.a.last + 1)) = cc in
    let b = begin_heap a.sys.now.y a.vol.now a.sys.now.map.now a.a a.n a.sys.now.laid (a.sys.now.apart (omega arith)) p.0 p.1.0 p.1.1.0 p.1.1.1 _ q in
    let o = old_ready a.sys.now.y a.vol.now a.sys.now.map.now a.a a.n a.sys.now.laid (a.sys.now.apart (omega arith)) p.0 p.1.0 p.1.1.0 p.1.1.1 _ c.link_old.ensures in
    (o.2, (rw r b.0, (rw r b.1, (o.0, (p.1.1.0, o.1)))))

pub returns : goal.returns
returns c =
    let a = c.args in
    let p = c.requires in
    let q : c.choose_clusters-choice.result ≡ choose (is_usable a.sys.now.y a.vol.now a.sys.now.map.now) a.sys.now.y.count a.n (wrap a.sys.now.y.count (a.a.last + 1)) = cc in
    let r : c.begin_of-from.result ≡ begin_of c.choose_clusters-choice.result (wrap a.sys.now.y.count (a.a.last + 1)) = cc in
    let t = c.take_chain-last in
    chain_more a.sys.now.y a.vol.now a.sys.now.map.now a.a a.n a.sys.now.laid (a.sys.now.apart (omega arith)) p.0 p.1.0 p.1.1.0 p.1.1.1 _ _ _ _ _ _ q r c.link_old.ensures t.ensures.0 t.ensures.1.0 c.wrap_cluster-hint.ensures
