-- `queries::hardware_info` meets its contract, by those of `reply` and `two_bytes`.
use Rattle.queries.proofs.hardware_info.Goals as goal

pub returns : goal.returns
returns c = λ w l d. rw (c.two_bytes-size.ensures, c.code.ensures) at (c.reply.ensures w l d)
