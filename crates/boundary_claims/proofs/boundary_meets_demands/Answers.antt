-- `boundary_claims::boundary_meets_demands` meets its contract: by `Meets`.
use Rattle.boundary_claims.proofs.Meets as meets
use Rattle.boundary_claims.proofs.boundary_meets_demands.Goals as goal

pub returns : goal.returns
returns c = meets.boundary_meets_demands
