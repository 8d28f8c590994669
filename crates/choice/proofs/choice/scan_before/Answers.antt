use Prim.Native.Nat.{ℕ, ◌+◌}
use mathlib.Core.Path.{◌∙◌, ap}
use native.Mathlib.Omega.{arith}
use Rattle.metadata.specs.Usable.{is_usable}
use Rattle.search.specs.Search.{run_from}
use Rattle.search.proofs.Runs.{run_before}
use Rattle.choice.proofs.choice.scan_before.Goals as goal

pub returns : goal.returns
returns _ c =
    let a = c.args in
    let p = c.requires in
    let u = is_usable a.sys.now.y a.vol.now a.sys.now.map.now in
    c.scan.ensures ∙ ap (λ (e : ℕ). run_from u e a.n 2) (omega arith)
    ∙ run_before u (a.sys.now.y.count + 2) a.n a.start p.1.0 p.1.1.1.0 p.1.1.1.1
