-- `demands::state_right` meets its contract: by `AllRight`.
use Rattle.demands.proofs.AllRight.{state_right}
use Rattle.demands.proofs.state_right.Goals as goal

pub returns : goal.returns
returns c = state_right
