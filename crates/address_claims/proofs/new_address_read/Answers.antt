-- `address_claims::new_address_read` meets its contract: by `Moved`.
use Rattle.address_claims.proofs.Moved.{new_address_read}
use Rattle.address_claims.proofs.new_address_read.Goals as goal

pub returns : goal.returns
returns c = new_address_read
