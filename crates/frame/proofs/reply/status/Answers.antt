-- `frame::reply::status` meets its contract: the byte behind the header.
use Rattle.std.proofs.Common.{ap, ℕ, get_or}
use Rattle.frame.proofs.reply.status.Goals as goal

pub returns : goal.returns
returns c = ap (λ (n : ℕ). get_or c.args.reply.now n 0) c.header_length.ensures
