use mathlib.Core.Path.{refl, sym}
use mathlib.Core.Bool.{true}
use Prim.Native.Nat.{◌+◌, ◌-◌}
use native.Mathlib.Omega.{arith}
use Rattle.std.proofs.lemmas.Result.{err_from_is_err_and}
use Rattle.boot.proofs.CauseLaws.{cause-not0}
use Rattle.metadata.specs.Fat.{fat_entry}
use Rattle.stream.specs.declared.allocation.Allocation.{Allocation}
use Rattle.stream.proofs.BytesSteps.{reach_run}
use Rattle.stream.proofs.ListingLaws.{along_heap}
use Rattle.directory.proofs.OpenLaws.{stream_not, stream_system, stream_done}
use Rattle.directory.proofs.open_file.open_run.Goals as goal

pub returns-in_err-stream_cause : goal.returns-in_err-stream_cause
returns-in_err-stream_cause _ c =
    let a = c.args in
    let b : Allocation = record { first = a.first; last = a.first + a.n - 1; count = a.n; no_fat_chain = true } in
    let q = err_from_is_err_and c.from_residual.result c.from_residual.ensures.1 in
    rw (q.1, q.2) (stream_not a.sys.now.y a.vol.now a.sys.now.map.now b a.goal _ c.in_err-stream_cause.ensures (cause-not0 _))

pub system_cause-requires : goal.system_cause-requires
system_cause-requires _ c =
    let a = c.args in
    let p = c.requires in
    let b : Allocation = record { first = a.first; last = a.first + a.n - 1; count = a.n; no_fat_chain = true } in
    (omega arith, (p.0, (along_heap a.sys.now.y a.vol.now b (sym c.in_ok-stream_cause.ensures), omega arith)))

pub returns-in_err-system_cause : goal.returns-in_err-system_cause
returns-in_err-system_cause _ c =
    let a = c.args in
    let b : Allocation = record { first = a.first; last = a.first + a.n - 1; count = a.n; no_fat_chain = true } in
    let q = err_from_is_err_and c.from_residual-in_err-system_cause.result c.from_residual-in_err-system_cause.ensures.1 in
    rw (q.1, q.2) (stream_system a.sys.now.y a.vol.now a.sys.now.map.now b a.goal (sym c.in_ok-stream_cause.ensures) _ c.in_err-system_cause.ensures (cause-not0 _))

pub returns : goal.returns
returns _ c =
    let a = c.args in
    let b : Allocation = record { first = a.first; last = a.first + a.n - 1; count = a.n; no_fat_chain = true } in
    stream_done a.sys.now.y a.vol.now a.sys.now.map.now b a.goal (sym c.in_ok-stream_cause.ensures) _ c.in_ok-system_cause.ensures refl _ (sym (reach_run (fat_entry a.sys.now.y a.vol.now) true a.first a.goal refl))
