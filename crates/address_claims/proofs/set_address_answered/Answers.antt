-- `address_claims::set_address_answered` meets its contract: by `Moved`.
use Rattle.address_claims.proofs.Moved.{set_address_answered}
use Rattle.address_claims.proofs.set_address_answered.Goals as goal

pub returns : goal.returns
returns c = set_address_answered
