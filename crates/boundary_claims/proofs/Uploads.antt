-- What is written down of the C calls is what the board of the rules does (`Followed`), from any state bytes; so the claim is that one's.
use Rattle.ledger.specs.Ledger.{opened}
use Rattle.finished_uploads.proofs.Stored.{every_upload}
use Rattle.state.specs.View.{view}
use Rattle.profile.specs.View.{profile_of}
use Rattle.profile_bytes.specs.ProfileBytes.{profile_at}
use Rattle.state_bytes.specs.StateBytes.{state_at}
use Rattle.boundary_claims.specs.Calls.{calls_of}
use Rattle.boundary_claims.specs.Uploads.{BoundaryFinishesUploads}
use Rattle.boundary_claims.proofs.Followed.{steps-ruled}

pub boundary_finishes_uploads : BoundaryFinishesUploads
boundary_finishes_uploads profile state flash cs =
    rw (steps-ruled profile state flash (opened flash) cs)
    (every_upload (profile_of (profile_at profile)) (view (state_at state)) flash (calls_of cs))
