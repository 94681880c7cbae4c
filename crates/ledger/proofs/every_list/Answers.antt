-- `ledger::every_list` meets its contract, by `demand3`.
use Rattle.ledger.proofs.EveryList.{demand3}
use Rattle.ledger.proofs.every_list.Goals as goal

pub returns : goal.returns
returns c = demand3
