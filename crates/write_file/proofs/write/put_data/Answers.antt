use Rattle.write_file.proofs.WriteLaws.{data_is}
use Rattle.file.proofs.RefreshLaws.{stored-along, stored_heap, stored_known, zeroed_known}
use Rattle.std.proofs.Common.{◌-◌, replicate, ◌∙◌, arith}
use Rattle.metadata.proofs.Frame.{fits}
use Rattle.write_file.proofs.write.put_data.Goals as goal

pub store-requires : goal.store-requires
store-requires _ c =
    let a = c.args in
    let p = c.requires in
    let w = fits a.sys.now a.vol.now p.0 in
    let z = c.zero_range-reached in
    let k = zeroed_known a.sys.now.y a.vol.now a.b a.known a.valid a.offset (omega (arith, a.sys.now.laid.size_low)) (omega arith) p.1.1.1.0 in
    (omega arith, (omega arith, (stored_heap a.sys.now.y a.vol.now w a.b p.1.0 a.valid (replicate (a.offset - a.valid) 0) _ z.ensures.0, (p.1.1.0, (rw z.ensures.1 (stored_known a.sys.now.y a.vol.now w a.b p.1.0 a.valid (replicate (a.offset - a.valid) 0) _ z.ensures.0 _ _ k), p.1.1.1.1)))))

pub returns : goal.returns
returns _ c =
    let a = c.args in
    let p = c.requires in
    let w = fits a.sys.now a.vol.now p.0 in
    let z = c.zero_range-reached.ensures.0 in
    let e = stored-along a.sys.now.y a.vol.now w a.b p.1.0 a.valid (replicate (a.offset - a.valid) 0) _ z in
    data_is _ _ _ _ _ _ _ _ z (c.store.ensures ∙ (cc))
