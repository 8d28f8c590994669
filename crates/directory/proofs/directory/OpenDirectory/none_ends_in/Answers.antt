use Prim.Native.Nat.{ℕ}
use mathlib.Core.List.{List}
use mathlib.Core.Path.{◌∙◌, ap}
use Rattle.directory.specs.Entries.{before_end}
use Rattle.directory.proofs.CursorLaws.{cluster_part}
use Rattle.directory.proofs.directory.OpenDirectory.none_ends_in.Goals as goal

pub returns : goal.returns
returns _ c =
    let d = c.args.self.now in
    let a = c.args in
    let o = c.cluster_offset-a in
    c.none_ends.ensures ∙ ap (λ (l : List ℕ). before_end l a.n) (cluster_part d.sys.now.y d.vol.now a.k o.result o.ensures.0)
