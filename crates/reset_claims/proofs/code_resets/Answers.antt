-- The reset that the code wrote resets the code's board.
use Rattle.reset_claims.proofs.OfCode.{code_resets}
use Rattle.reset_claims.proofs.code_resets.Goals as goal

pub returns : goal.returns
returns c = code_resets
