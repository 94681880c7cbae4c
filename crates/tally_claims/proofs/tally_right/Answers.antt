-- `tally_claims::tally_right` meets its contract, by `Ruled`.
use Rattle.tally_claims.proofs.Ruled.{tally_right}
use Rattle.tally_claims.proofs.tally_right.Goals as goal

pub returns : goal.returns
returns c = tally_right
