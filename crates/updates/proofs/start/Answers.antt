-- `updates::start` meets its contract: the state is the started one.
use Rattle.updates.proofs.start.Goals as goal

pub returns : goal.returns
returns c = λ w l d o at. rw (c.started.ensures w l)
