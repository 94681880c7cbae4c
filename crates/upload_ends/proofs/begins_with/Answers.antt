-- `upload_ends::begins_with` meets its contract: it is what its two calls say.
use Rattle.upload_ends.proofs.begins_with.Goals as goal

pub returns : goal.returns
returns c = rw c.first.ensures at c.matches.ensures
