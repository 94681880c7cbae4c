-- `page_claims::handed_in` meets its contract: by the law of the same name.
use Rattle.page_claims.proofs.HandedIn.{handed_in}
use Rattle.page_claims.proofs.handed_in.Goals as goal

pub returns : goal.returns
returns c = handed_in
