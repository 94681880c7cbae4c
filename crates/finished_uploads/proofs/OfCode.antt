-- What is written down of the code is what the board of the rules does (`steps-ruled`), from any state; so the claim is that one's.
use Rattle.profile.specs.View.{profile_of}
use Rattle.state.specs.View.{view}
use Rattle.ledger.specs.Ledger.{opened}
use Rattle.refinement.specs.Happened.{calls_of}
use Rattle.refinement.proofs.Observed.{steps-ruled}
use Rattle.finished_uploads.specs.OfCode.{CodeFinishesUploads}
use Rattle.finished_uploads.proofs.Stored.{every_upload}

pub code_finishes_uploads : CodeFinishesUploads
code_finishes_uploads p s d hs ran = rw (steps-ruled p s d (opened d) hs ran) (every_upload (profile_of p) (view s) d (calls_of hs))
