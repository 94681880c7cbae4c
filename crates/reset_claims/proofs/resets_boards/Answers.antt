-- The reset resets every board of its bus.
use Rattle.reset_claims.proofs.Resets.{resets_boards}
use Rattle.reset_claims.proofs.resets_boards.Goals as goal

pub returns : goal.returns
returns c = resets_boards
