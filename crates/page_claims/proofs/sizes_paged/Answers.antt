-- `page_claims::sizes_paged` meets its contract: by the law of the same name.
use Rattle.page_claims.proofs.Sizes.{sizes_paged}
use Rattle.page_claims.proofs.sizes_paged.Goals as goal

pub returns : goal.returns
returns c = sizes_paged
