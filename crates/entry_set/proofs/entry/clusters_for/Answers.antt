use Prim.Native.Nat.{◌%◌}
use native.Mathlib.Decide.{ℕ_discrete}
use native.Mathlib.Omega.{arith}
use Rattle.entry_set.proofs.SoundLaws.{clusters_even, clusters_rest}
use Rattle.entry_set.proofs.entry.clusters_for.Goals as goal

pub returns : goal.returns
returns c =
    let a = c.args in
    elim (ℕ_discrete (a.len % a.size) 0) [
      | yes e ↦ omega (arith, clusters_even a.size a.len c.requires e)
      | no n ↦ omega (arith, clusters_rest a.size a.len c.requires n)
    ]
