-- `page_claims::code_handed_in` meets its contract: by the law of the same name.
use Rattle.page_claims.proofs.OfCode.{code_handed_in}
use Rattle.page_claims.proofs.code_handed_in.Goals as goal

pub returns : goal.returns
returns c = code_handed_in
