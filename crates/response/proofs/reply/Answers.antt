-- `response::reply` meets its contract: the results are laid over the buffer.
use Rattle.response.proofs.reply.Goals as goal

pub returns : goal.returns
returns c = λ w l d. rw c.store.ensures
