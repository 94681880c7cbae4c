-- `reply_tests::from_other` meets its contract: on RS485 both sides are the same test of the first byte.
use Rattle.reply_tests.proofs.from_other.Goals as goal

pub returns-in-Rs485 : goal.returns-in-Rs485
returns-in-Rs485 c = rw (c.in-Rs485.is, c.wide.ensures.0)
