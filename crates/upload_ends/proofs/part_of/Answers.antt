-- `upload_ends::part_of` meets its contract: it is what its two calls say.
use Rattle.upload_ends.proofs.part_of.Goals as goal

pub returns : goal.returns
returns c = rw c.from.ensures at c.first.ensures
