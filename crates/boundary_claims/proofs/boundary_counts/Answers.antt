-- `boundary_claims::boundary_counts` meets its contract, by `Tallies`.
use Rattle.boundary_claims.proofs.Tallies.{boundary_counts}
use Rattle.boundary_claims.proofs.boundary_counts.Goals as goal

pub returns : goal.returns
returns c = boundary_counts
