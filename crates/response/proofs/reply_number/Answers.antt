-- `response::reply_number` meets its contract, by those of `reply` and `two_bytes`.
use Rattle.response.proofs.reply_number.Goals as goal

pub returns : goal.returns
returns c = λ w l d. rw (c.two_bytes-bytes.ensures, c.code.ensures) at (c.reply.ensures w l d)
