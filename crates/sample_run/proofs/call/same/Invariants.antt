use Rattle.std.proofs.Common.{◌≡◌, ℕ, true, false, take, ◌<◌, get_or}
use Rattle.sample_run.proofs.call.same.Given as goal

abbrev pub invariant-loop-i : goal.invariant-loop-i
invariant-loop-i l =
    (l.all ≡ true → take l.i l.a ≡ take l.i l.b)
    × (l.all ≡ false → (j : ℕ) × (j < l.i) × ¬ (get_or l.a j 0 ≡ get_or l.b j 0))
