-- `page_claims::multiple_takes` meets its contract: by the law of the same name.
use Rattle.page_claims.proofs.Multiples.{multiple_takes}
use Rattle.page_claims.proofs.multiple_takes.Goals as goal

pub returns : goal.returns
returns c = multiple_takes
