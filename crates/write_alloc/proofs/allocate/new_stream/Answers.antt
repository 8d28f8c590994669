use mathlib.Core.Path.{◌≡◌, refl}
use Rattle.tables.proofs.Cases.{clash}
use native.Mathlib.Omega.{arith}
use Rattle.metadata.specs.Usable.{is_usable}
use Rattle.choice.specs.declared.choice.Choice.TheVariants.{Run, Scattered}
use Rattle.choice.specs.Choice.{choose}
use Rattle.choice.proofs.ChoiceLaws.{choose_inside, enough_count, few_count}
use Rattle.write_alloc.proofs.AllocateLaws.{stream_run, stream_chain, stream_few, shown_as}
use Rattle.write_alloc.proofs.allocate.new_stream.Goals as goal

pub new_run-requires : goal.new_run-requires
new_run-requires c =
    let a = c.args in
    let p = c.requires in
    let k = c.in-Run.k in
    let e : choose (is_usable a.sys.now.y a.vol.now a.sys.now.map.now) a.sys.now.y.count a.n a.start ≡ Run k = cc in
    let i = choose_inside (is_usable a.sys.now.y a.vol.now a.sys.now.map.now) a.sys.now.y.count a.n a.start p.1.0 k e in
    (omega arith, (p.0, (i.0, (i.1, p.1.1.1))))

pub returns-in-Run : goal.returns-in-Run
returns-in-Run c = (λ hint. shown_as (stream_run _ _ _ _ _ hint c.in-Run.k (cc)) c.new_run.ensures, λ h. refl)

pub new_chain-requires : goal.new_chain-requires
new_chain-requires c =
    let a = c.args in
    let p = c.requires in
    let e : choose (is_usable a.sys.now.y a.vol.now a.sys.now.map.now) a.sys.now.y.count a.n a.start ≡ Scattered = cc in
    let i = enough_count (is_usable a.sys.now.y a.vol.now a.sys.now.map.now) a.sys.now.y.count a.n a.start p.1.0 (λ q. clash (cc)) in
    (p.0, (p.1.0, (p.1.1.0, (p.1.1.1, i))))

pub returns-in-Scattered : goal.returns-in-Scattered
returns-in-Scattered c = (λ hint. shown_as (stream_chain _ _ _ _ _ hint (omega arith) (cc)) c.new_chain.ensures, λ h. refl)

pub returns-in-TooFew : goal.returns-in-TooFew
returns-in-TooFew c =
    let a = c.args in
    (λ hint. shown_as (stream_few _ _ _ _ _ hint (cc)) (refl, refl), λ h. let few = few_count (is_usable a.sys.now.y a.vol.now a.sys.now.map.now) a.sys.now.y.count a.n a.start (cc) in absurd (omega arith))
