-- After the reset the version request is answered.
use Rattle.reset_claims.proofs.Again.{answers_again}
use Rattle.reset_claims.proofs.answers_again.Goals as goal

pub returns : goal.returns
returns c = answers_again
