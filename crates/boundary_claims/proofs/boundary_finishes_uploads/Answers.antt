-- `boundary_claims::boundary_finishes_uploads` meets its contract: by the law of the same name.
use Rattle.boundary_claims.proofs.Uploads.{boundary_finishes_uploads}
use Rattle.boundary_claims.proofs.boundary_finishes_uploads.Goals as goal

pub returns : goal.returns
returns c = boundary_finishes_uploads
