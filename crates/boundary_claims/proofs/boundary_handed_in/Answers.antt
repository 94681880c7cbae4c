-- State bytes handed to childbus_receive, by the law of the same name.
use Rattle.boundary_claims.proofs.Pages.{boundary_handed_in}
use Rattle.boundary_claims.proofs.boundary_handed_in.Goals as goal

pub returns : goal.returns
returns c = boundary_handed_in
