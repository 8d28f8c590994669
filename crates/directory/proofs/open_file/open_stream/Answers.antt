use mathlib.Core.Path.{◌≡◌, ◌∙◌, ap, ap₂}
use mathlib.Core.Logic.{◌≢◌}
use Prim.Native.Nat.{ℕ, ◌≤◌}
use native.Mathlib.Omega.{arith}
use Rattle.boot.specs.Layout.{in_heap}
use Rattle.stream.specs.declared.allocation.Allocation.{Allocation}
use Rattle.entry_set.specs.Fields.{valid_length, data_length, clusters_for}
use Rattle.entry_set.proofs.SoundLaws.{formed_of}
use Rattle.directory.specs.Open.{file_record}
use Rattle.directory.specs.Internal.{opened_stream, start_steps}
use Rattle.directory.proofs.StartLaws.{start_low}
use Rattle.directory.proofs.OpenLaws.{takes_none, takes_some, record_none, record_run, record_chain, stream_none}
use Rattle.directory.proofs.open_file.open_stream.Goals as goal

pub returns-then-len-eq0 : goal.returns-then-len-eq0
returns-then-len-eq0 _ c =
    let p = c.requires in
    let a = c.args in
    let z = takes_none a.sys.now.y.size (data_length a.set.now) (omega (arith, a.sys.now.laid.size_low)) (omega arith) in
    let e = record_none a.sys.now.y a.vol.now a.set.now z in
    rw c.empty_record.ensures (stream_none a.sys.now.y a.vol.now a.sys.now.map.now (file_record a.sys.now.y a.vol.now a.set.now) _ e (omega (arith, ap (λ (x : Allocation). x.count) e, start_low a.sys.now.y.size (valid_length a.set.now) a.offset (file_record a.sys.now.y a.vol.now a.set.now).count)))

pub overflow_cast-n : goal.overflow_cast-n
overflow_cast-n _ c =
    let p = c.requires in
    let a = c.args in
    let n : c.clusters_for-n.result ≡ clusters_for a.sys.now.y.size (data_length a.set.now) = (cc) in
    let q = (formed_of a.sys.now.y.count a.sys.now.y.size a.set.now p.1).lengths.room (λ z. omega (arith, z)) in
    omega (arith, n, q, a.sys.now.laid.count_high)

pub start_steps-goal-requires : goal.start_steps-goal-requires
start_steps-goal-requires _ c =
    let p = c.requires in
    let a = c.args in
    let n : c.clusters_for-n.result ≡ clusters_for a.sys.now.y.size (data_length a.set.now) = (cc) in
    (omega arith, omega (arith, n, takes_some a.sys.now.y.size (data_length a.set.now) (omega (arith, a.sys.now.laid.size_low)) (λ q. omega (arith, q))))

pub open_run-requires : goal.open_run-requires
open_run-requires _ c =
    let p = c.requires in
    let a = c.args in
    let f = c.first_cluster-first in
    let k = c.clusters_for-n in
    let g = c.start_steps-goal in
    let l = (formed_of a.sys.now.y.count a.sys.now.y.size a.set.now p.1).lengths in
    let z : data_length a.set.now ≢ 0 = λ q. omega (arith, q) in
    let n : k.result ≡ clusters_for a.sys.now.y.size (data_length a.set.now) = (cc) in
    let m : 1 ≤ k.result = omega (arith, n, takes_some a.sys.now.y.size (data_length a.set.now) (omega (arith, a.sys.now.laid.size_low)) z) in
    (omega arith, (p.0, (omega (arith, n, f.ensures, l.run z (cc)), omega (arith, m, g.ensures, start_low a.sys.now.y.size (valid_length a.set.now) a.offset k.result))))

pub returns-then-no_fat_chain : goal.returns-then-no_fat_chain
returns-then-no_fat_chain _ c =
    let p = c.requires in
    let a = c.args in
    let f = c.first_cluster-first in
    let k = c.clusters_for-n in
    let g = c.start_steps-goal in
    let l = (formed_of a.sys.now.y.count a.sys.now.y.size a.set.now p.1).lengths in
    let z : data_length a.set.now ≢ 0 = λ q. omega (arith, q) in
    let n : k.result ≡ clusters_for a.sys.now.y.size (data_length a.set.now) = (cc) in
    let m : 1 ≤ k.result = omega (arith, n, takes_some a.sys.now.y.size (data_length a.set.now) (omega (arith, a.sys.now.laid.size_low)) z) in
    let e = record_run a.sys.now.y a.vol.now a.set.now f.result k.result f.ensures n m (cc) in
    c.open_run.ensures ∙ ap₂ (λ (x : Allocation) (u : ℕ). opened_stream a.sys.now.y a.vol.now a.sys.now.map.now x u) e (g.ensures ∙ ap (λ (x : Allocation). start_steps a.sys.now.y.size (valid_length a.set.now) a.offset x.count) e)

pub open_chain-requires : goal.open_chain-requires
open_chain-requires _ c =
    let p = c.requires in
    let a = c.args in
    let f = c.first_cluster-first in
    let k = c.clusters_for-n in
    let g = c.start_steps-goal in
    let l = (formed_of a.sys.now.y.count a.sys.now.y.size a.set.now p.1).lengths in
    let z : data_length a.set.now ≢ 0 = λ q. omega (arith, q) in
    let n : k.result ≡ clusters_for a.sys.now.y.size (data_length a.set.now) = (cc) in
    let m : 1 ≤ k.result = omega (arith, n, takes_some a.sys.now.y.size (data_length a.set.now) (omega (arith, a.sys.now.laid.size_low)) z) in
    (omega arith, (p.0, (ap (in_heap a.sys.now.y.count) f.ensures ∙ l.first z, omega (arith, m, g.ensures, start_low a.sys.now.y.size (valid_length a.set.now) a.offset k.result))))

pub returns-else-no_fat_chain : goal.returns-else-no_fat_chain
returns-else-no_fat_chain _ c =
    let p = c.requires in
    let a = c.args in
    let f = c.first_cluster-first in
    let k = c.clusters_for-n in
    let g = c.start_steps-goal in
    let l = (formed_of a.sys.now.y.count a.sys.now.y.size a.set.now p.1).lengths in
    let z : data_length a.set.now ≢ 0 = λ q. omega (arith, q) in
    let n : k.result ≡ clusters_for a.sys.now.y.size (data_length a.set.now) = (cc) in
    let m : 1 ≤ k.result = omega (arith, n, takes_some a.sys.now.y.size (data_length a.set.now) (omega (arith, a.sys.now.laid.size_low)) z) in
    let e = record_chain a.sys.now.y a.vol.now a.set.now f.result k.result f.ensures n m (cc) in
    c.open_chain.ensures ∙ ap₂ (λ (x : Allocation) (u : ℕ). opened_stream a.sys.now.y a.vol.now a.sys.now.map.now x u) e (g.ensures ∙ ap (λ (x : Allocation). start_steps a.sys.now.y.size (valid_length a.set.now) a.offset x.count) e)
