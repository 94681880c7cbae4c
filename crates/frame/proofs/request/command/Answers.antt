-- `frame::request::command` meets its contract: the byte behind the header.
use Rattle.std.proofs.Common.{ap, ◌∙◌, ℕ, get_or}
use Rattle.frame.proofs.request.command.Goals as goal

pub returns : goal.returns
returns c = c.wide.ensures.0 ∙ ap (λ (n : ℕ). get_or c.args.frame.now n 0) c.header_length.ensures
