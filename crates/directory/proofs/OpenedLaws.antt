-- A directory opened, as the other laws take it. Assumes nothing.
use Prim.Native.Nat.{ℕ}
use Rattle.metadata.proofs.Frame.{Fits, fits}
use Rattle.directory.specs.declared.directory.OpenDirectory.{OpenDirectory}

pub opened_fits : {W : ℕ} (d : OpenDirectory 1 W) → Fits d.sys.now.y d.vol.now
opened_fits d = fits d.sys.now d.vol.now d.long
