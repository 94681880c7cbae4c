-- `roundtrip::requests_understood` meets its contract: by `Requests`.
use Rattle.roundtrip.proofs.Requests.{requests_understood}
use Rattle.roundtrip.proofs.requests_understood.Goals as goal

pub returns : goal.returns
returns c = requests_understood
