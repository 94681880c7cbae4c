-- `address_claims::never_reserved` meets its contract: by `Unreserved`.
use Rattle.address_claims.proofs.Unreserved.{never_reserved}
use Rattle.address_claims.proofs.never_reserved.Goals as goal

pub returns : goal.returns
returns c = never_reserved
