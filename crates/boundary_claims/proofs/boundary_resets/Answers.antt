-- The reset that childbus_reset_running wrote resets the board of childbus_receive.
use Rattle.boundary_claims.proofs.Resets.{boundary_resets}
use Rattle.boundary_claims.proofs.boundary_resets.Goals as goal

pub returns : goal.returns
returns c = boundary_resets
