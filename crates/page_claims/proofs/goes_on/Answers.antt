-- `page_claims::goes_on` meets its contract: by the law of the same name.
use Rattle.page_claims.proofs.GoesOn.{goes_on}
use Rattle.page_claims.proofs.goes_on.Goals as goal

pub returns : goal.returns
returns c = goes_on
