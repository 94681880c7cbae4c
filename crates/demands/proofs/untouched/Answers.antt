-- `demands::untouched` meets its contract: by `Demand1`.
use Rattle.demands.proofs.Demand1.{demand1}
use Rattle.demands.proofs.untouched.Goals as goal

pub returns : goal.returns
returns c = demand1
