-- `tally_claims::code_counts` meets its contract, by `OfCode`.
use Rattle.tally_claims.proofs.OfCode.{code_counts}
use Rattle.tally_claims.proofs.code_counts.Goals as goal

pub returns : goal.returns
returns c = code_counts
