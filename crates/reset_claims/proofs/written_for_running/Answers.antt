-- The reset is written for version 0.0 alone, and is the encoder's.
use Rattle.reset_claims.proofs.Written.{written_for_running}
use Rattle.reset_claims.proofs.written_for_running.Goals as goal

pub returns : goal.returns
returns c = written_for_running
