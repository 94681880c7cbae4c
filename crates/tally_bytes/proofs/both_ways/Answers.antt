-- `tally_bytes::both_ways` meets its contract, by `Laws`.
use Rattle.tally_bytes.proofs.Laws.{both_ways}
use Rattle.tally_bytes.proofs.both_ways.Goals as goal

pub returns : goal.returns
returns c = both_ways
