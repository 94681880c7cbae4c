-- `roundtrip::replies_read` meets its contract: by `Replies`.
use Rattle.roundtrip.proofs.Replies.{replies_read}
use Rattle.roundtrip.proofs.replies_read.Goals as goal

pub returns : goal.returns
returns c = replies_read
