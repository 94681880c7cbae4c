-- `alarm_claims::finalize_loses_nothing` meets its contract: by `NothingLost`.
use Rattle.alarm_claims.proofs.NothingLost.{finalize_loses_nothing}
use Rattle.alarm_claims.proofs.finalize_loses_nothing.Goals as goal

pub returns : goal.returns
returns c = finalize_loses_nothing
