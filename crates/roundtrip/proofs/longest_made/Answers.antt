-- `roundtrip::longest_made` meets its contract: by `Longest`.
use Rattle.roundtrip.proofs.Longest.{longest_made}
use Rattle.roundtrip.proofs.longest_made.Goals as goal

pub returns : goal.returns
returns c = longest_made
