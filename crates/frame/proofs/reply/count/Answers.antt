-- `frame::reply::count` meets its contract: the byte behind the status.
use Rattle.std.proofs.Common.{ap, ◌∙◌, ℕ, ◌+◌, get_or}
use Rattle.frame.proofs.reply.count.Goals as goal

pub returns : goal.returns
returns c = (c.wide.ensures.0 ∙ ap (λ (n : ℕ). get_or c.args.reply.now (n + 1) 0) c.header_length.ensures, c.wide.ensures.1)
