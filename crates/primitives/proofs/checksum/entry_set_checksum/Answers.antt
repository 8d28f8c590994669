use Rattle.primitives.proofs.ChecksumLaws.{checksum-added}
use Rattle.primitives.proofs.checksum.entry_set_checksum.Goals as goal

pub returns : goal.returns
returns c = checksum-added c.args.set.now _ _ _ _ c.min.ensures c.min-2.ensures c.add_bytes-start.ensures c.add_bytes.ensures
