-- `demands::acceptance` meets its contract: by `AllRight`.
use Rattle.demands.proofs.AllRight.{demand2}
use Rattle.demands.proofs.acceptance.Goals as goal

pub returns : goal.returns
returns c = demand2
