-- `alarm_claims::kept_loses_nothing` meets its contract: by `NothingLost`.
use Rattle.alarm_claims.proofs.NothingLost.{kept_loses_nothing}
use Rattle.alarm_claims.proofs.kept_loses_nothing.Goals as goal

pub returns : goal.returns
returns c = kept_loses_nothing
