-- `refinement::code_meets_demands` meets its contract: by `Meets`.
use Rattle.refinement.proofs.Meets.{code_meets_demands}
use Rattle.refinement.proofs.code_meets_demands.Goals as goal

pub returns : goal.returns
returns c = code_meets_demands
