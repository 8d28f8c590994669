use Rattle.metadata.specs.Cluster.{put_bytes}
use Rattle.stream.proofs.bytes.put_piece.Goals as goal

pub returns : goal.returns
unfolding put_bytes
returns _ c = cc
